-- Rows that are being painted.
use Rattle.std.specs.Prelude.{◌≡◌, ⊤, ℕ, ◌-◌, Bool, ◌&&◌, ◌||◌, ◌<◌, ◌≤◌, nat_le, pos, List, [], ◌∷◌, ◌++◌, length}
use Rattle.std.specs.Prelude.{take, map, replicate, Option, if◌then◌else◌}
use Rattle.std.specs.List.{list_all}
use Rattle.cell_base.specs.declared.attributes.Position.TheVariants.{Absolute, Relative}
use Rattle.cell_base.specs.declared.color.ColorAttribute.{ColorAttribute}
use Rattle.cell_base.specs.Attributes.{Attributes, blank_of}
use Rattle.cell_base.specs.Row.{Row}
use Rattle.screen_change.specs.ChangeValue.{ChangeValue, CursorPosition}
use Rattle.screen_change.specs.Written.{Written, finished, with_cells}
use Rattle.cell_edits.specs.VisibleCells.{VisibleCell, contents}
use Rattle.cell_line.specs.LineContent.{LineContent}
use Rattle.screen_repaint.specs.Ends.{ends_in}
use Rattle.screen_repaint.specs.Repaint.{are_some, is_blank_row, row_cells, pen_left, rows_painted}

abbrev pub rows_of : List LineContent → List Row
rows_of lines = map (λ l. l.columns) lines

-- ends the texts of the cells so far: later cells aren't joined to them
abbrev pub ended : Written → Written
ended written = record written { changes = finished written; cells = [] }

-- the changes with others after them; later cells aren't joined to a text before
abbrev pub with_changes : List ChangeValue → Written → Written
with_changes changes written =
    record { changes = written.changes ++ changes; pen = pen_left written.pen changes; cells = [] }

-- moves the cursor to the start of the row `count` rows further down
abbrev pub moves : ℕ → List ChangeValue
moves count = replicate count (CursorPosition (Absolute 0) (Relative (pos 1)))

-- moves before changes, if there are any
abbrev pub after_moves : ℕ → List ChangeValue → List ChangeValue
after_moves count [] = []
after_moves count (change ∷ changes) = moves count ++ change ∷ changes

-- the number of rows at the end that have nothing but blanks of some attributes decides whether rows are blanks of one
-- colour
abbrev pub IsTail : ℕ → Option Attributes → List Row → Type 0
IsTail count blanks [] = ⊤
IsTail count blanks (row ∷ rows) =
    ((color : ColorAttribute)
    → list_all (is_blank_row color) (row ∷ rows)
    ≡ (ends_in blanks (blank_of color) && nat_le (length (row ∷ rows)) count)) × IsTail count blanks rows

-- each row has a cell
abbrev pub AreFilled : List Row → Type 0
AreFilled [] = ⊤
AreFilled (row ∷ rows) = (0 < length (row_cells row)) × AreFilled rows

-- the rows below, or none where they are cleared with the blanks of the row above
abbrev pub rest_of : Bool → List LineContent → List LineContent
rest_of below_too below = if below_too then [] else below

-- `count` of the remaining cells were written: with the next ones, at most `most` in all, the same is written; where
-- none was written, none is to be
pub record WritesOn (most : ℕ) (old : Written) (left : List VisibleCell) (count : ℕ) (new : Written)
    (rest : List VisibleCell) : Type 0 where
  pub same : with_cells new (take (most - count) (contents rest)) ≡ with_cells old (take most (contents left))
  pub within : count ≤ most
  pub none : count ≡ 0 → take most (contents rest) ≡ []

-- painting the rows `left` after `written` gives `whole`, and `some` tells whether anything is painted
pub record LeadsOn (whole : Written) (some : Bool) (written : Written) (painted : Bool) (count : ℕ) (left : List Row) :
    Type 0 where
  pub is_ended : written.cells ≡ []
  pub same : with_changes (after_moves count (rows_painted written.pen left)) written ≡ whole
  pub any : (painted || are_some (rows_painted written.pen left)) ≡ some
