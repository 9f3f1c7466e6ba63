-- The changes that write cells at their positions.
use Rattle.std.specs.Prelude.{ℕ, ◌+◌, ◌&&◌, ◌==◌, List, [], ◌∷◌, ◌++◌, Option, Some, None, if◌then◌else◌}
use Rattle.cell_base.specs.declared.attributes.Position.TheVariants.{Absolute}
use Rattle.cell_base.specs.Attributes.{Attributes}
use Rattle.cell_base.specs.CellContent.{CellContent}
use Rattle.screen_change.specs.CellChanges.{cells_written, last_pen}
use Rattle.screen_change.specs.ChangeValue.{ChangeValue, AllAttributes, CursorPosition}
use Rattle.screen_difference.specs.FreshCells.{PlacedCell}

-- cells side by side in a row: its number, the first cell's column, this cell, and the remaining ones
pub record Stretch : Type 0 where
  pub row : ℕ
  pub column : ℕ
  pub first : CellContent
  pub remaining : List CellContent

abbrev pub cells_of : Stretch → List CellContent
cells_of stretch = stretch.first ∷ stretch.remaining

-- a stretch of one cell, and a stretch with a cell before it
abbrev pub alone : PlacedCell → Stretch
alone c = record { row = c.row; column = c.column; first = c.cell; remaining = [] }

abbrev pub longer : PlacedCell → Stretch → Stretch
longer c stretch = record { row = c.row; column = c.column; first = c.cell; remaining = cells_of stretch }

-- the cell joins the stretch after it where that begins in its row, at the column after it
abbrev pub before_stretches : PlacedCell → List Stretch → List Stretch
before_stretches c [] = alone c ∷ []
before_stretches c (stretch ∷ stretches) =
    if c.row == stretch.row && c.column + c.cell.width == stretch.column then longer c stretch ∷ stretches
    else alone c ∷ stretch ∷ stretches

-- the cells in stretches, each as long as possible
abbrev pub stretches : List PlacedCell → List Stretch
stretches [] = []
stretches (c ∷ cells) = before_stretches c (stretches cells)

-- a position by column and row
abbrev pub position : ℕ → ℕ → ChangeValue
position column row = CursorPosition (Absolute column) (Absolute row)

-- a stretch, where the last written attributes are these: its position, and the changes that write its cells; where no
-- attributes were written, it writes the attributes of its first cell
abbrev pub stretch_written : Option Attributes → Stretch → List ChangeValue
stretch_written None stretch =
    position stretch.column stretch.row ∷ AllAttributes stretch.first.attributes
    ∷ cells_written stretch.first.attributes (cells_of stretch)
stretch_written (Some pen) stretch = position stretch.column stretch.row ∷ cells_written pen (cells_of stretch)

abbrev pub stretches_written : Option Attributes → List Stretch → List ChangeValue
stretches_written pen [] = []
stretches_written pen (stretch ∷ stretches) =
    stretch_written pen stretch
    ++ stretches_written (Some (last_pen stretch.first.attributes stretch.remaining)) stretches

-- the changes that write the cells: each stretch with a position before it, and attributes wherever they aren't the
-- last ones written
abbrev pub difference : List PlacedCell → List ChangeValue
difference cells = stretches_written None (stretches cells)
