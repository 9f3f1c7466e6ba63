-- A difference that is being made, cell by cell.
use Rattle.std.specs.Prelude.{ℕ, ◌+◌, Bool, true, false, ◌&&◌, ◌==◌, List, fold, if◌then◌else◌}
use Rattle.cell_base.specs.Attributes.{Attributes}
use Rattle.screen_change.specs.ChangeValue.{AllAttributes}
use Rattle.screen_change.specs.Written.{Written, begun, with_change, with_cell}
use Rattle.screen_difference.specs.Difference.{position}
use Rattle.screen_difference.specs.FreshCells.{PlacedCell}

-- what is written so far, whether a cell was written, and the row and the column after the last cell
pub record Drawing : Type 0 where
  pub written : Written
  pub has_begun : Bool
  pub row : ℕ
  pub column : ℕ

-- nothing written yet; the pen is a placeholder
abbrev pub new_drawing : Attributes → Drawing
new_drawing pen = record { written = begun pen; has_begun = false; row = 0; column = 0 }

-- before the first cell: its position and its attributes
abbrev pub first_moved : ℕ → ℕ → Attributes → Written
first_moved row column attributes =
    with_change (AllAttributes attributes) (with_change (position column row) (begun attributes))

-- before another cell: its position, unless the last cell ends there
abbrev pub next_moved : ℕ → ℕ → Drawing → Written
next_moved row column d =
    if d.row == row && d.column == column then d.written else with_change (position column row) d.written

abbrev pub moved_to : ℕ → ℕ → Attributes → Drawing → Written
moved_to row column attributes d = if d.has_begun then next_moved row column d else first_moved row column attributes

-- one more cell
abbrev pub with_placed : Drawing → PlacedCell → Drawing
with_placed d c =
    record {
      written = with_cell c.cell.text c.cell.attributes (moved_to c.row c.column c.cell.attributes d);
      has_begun = true;
      row = c.row;
      column = c.column + c.cell.width;
    }

-- more cells in turn
abbrev pub with_all : Drawing → List PlacedCell → Drawing
with_all d cells = fold with_placed d cells
