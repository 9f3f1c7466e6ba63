-- Rows that fit a width.
use Rattle.std.specs.Prelude.{ℕ, ◌+◌, Bool, true, nat_lt, List, [], ◌∷◌, length, map, not}
use Rattle.cell_base.specs.Row.{Row}
use Rattle.cell_edits.specs.CellList.{cell_columns}
use Rattle.cell_views.specs.Groups.{groups_by}
use Rattle.cell_edits.specs.VisibleCells.{VisibleCell, is_space, row_of_visible, row_end_wrapped}
use Rattle.cell_base.specs.UpToLast.{up_to_last}

-- whether a cell begins a new row after the cells of the last one: the row would pass the width
abbrev pub begins_row : ℕ → List VisibleCell → VisibleCell → Bool
begins_row width cells v = nat_lt width (length (row_of_visible cells) + length (cell_columns v.cell))

-- each row but the last goes on in the next one
abbrev pub continued : List Row → List Row
continued [] = []
continued (row ∷ []) = row ∷ []
continued (row ∷ next ∷ rows) = row_end_wrapped true row ∷ continued (next ∷ rows)

-- the rows that cells fill
abbrev pub rows_of : ℕ → List VisibleCell → List Row
rows_of width cells = continued (map row_of_visible (groups_by (begins_row width) cells))

-- the cells up to the last whose text isn't one space
abbrev pub texts_kept : List VisibleCell → List VisibleCell
texts_kept cells = up_to_last (λ v. not (is_space v)) cells
