-- Changes that are being made, cell by cell.
use Rattle.std.specs.Prelude.{ℕ, List, [], ◌∷◌, ◌++◌, map, fold, if◌then◌else◌}
use Rattle.cell_base.specs.Attributes.{Attributes}
use Rattle.cell_base.specs.CellContent.{CellContent}
use Rattle.cell_base.specs.SameAttributes.{same_attributes}
use Rattle.screen_change.specs.ChangeValue.{ChangeValue, AllAttributes, Text}
use Rattle.screen_change.specs.Texts.{texts}

-- the changes so far, the pen after them, and the texts of the cells whose run may go on
pub record Written : Type 0 where
  pub changes : List ChangeValue
  pub pen : Attributes
  pub cells : List (List ℕ)

-- nothing yet
abbrev pub begun : Attributes → Written
begun pen = record { changes = []; pen = pen; cells = [] }

-- all changes: the changes so far, and the texts of the cells
abbrev pub finished : Written → List ChangeValue
finished written = written.changes ++ map Text (texts written.cells)

-- another change, after the texts
abbrev pub with_change : ChangeValue → Written → Written
with_change change written = record written { changes = finished written ++ change ∷ []; cells = [] }

-- sets the pen's attributes; nothing changes where the pen has them
abbrev pub with_attributes : Attributes → Written → Written
with_attributes attributes written =
    if same_attributes attributes written.pen then written
    else record { changes = finished written ++ AllAttributes attributes ∷ []; pen = attributes; cells = [] }

-- another cell: its attributes, and its text
abbrev pub with_cell : List ℕ → Attributes → Written → Written
with_cell text attributes written =
    let next = with_attributes attributes written in record next { cells = next.cells ++ text ∷ [] }

-- a cell for each byte of a text, all with the same attributes
abbrev pub with_each : List ℕ → Attributes → Written → Written
with_each text attributes written = fold (λ w byte. with_cell (byte ∷ []) attributes w) written text

-- more cells, each in turn
abbrev pub with_cells : Written → List CellContent → Written
with_cells written cells = fold (λ w cell. with_cell cell.text cell.attributes w) written cells
