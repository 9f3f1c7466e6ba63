-- Rows that are being filled, cell by cell.
use Rattle.std.specs.Prelude.{ℕ, ◌+◌, Bool, ◌&&◌, true, nat_lt, List, [], ◌∷◌, ◌++◌, length, Option, Some, None, filter}
use Rattle.std.specs.Prelude.{fold, if◌then◌else◌}
use Rattle.cell_base.specs.CellContent.{CellContent}
use Rattle.cell_base.specs.Row.{Row}
use Rattle.cell_edits.specs.CellList.{cell_columns}
use Rattle.cell_edits.specs.VisibleCells.{VisibleCell, is_space, row_end_wrapped}
use Rattle.cell_views.specs.OpenZones.{is_kept_by}

-- whether a cell doesn't fit in a row that has `there` columns already
abbrev pub breaks : ℕ → ℕ → CellContent → Bool
breaks width there cell = nat_lt 0 there && nat_lt width (there + length (cell_columns cell))

-- the rows that cells fill, after the columns of an open row; each but the last goes on in the next one
abbrev pub rows_from : ℕ → Row → List CellContent → List Row
rows_from width row [] = row ∷ []
rows_from width row (cell ∷ cells) =
    if breaks width (length row) cell then row_end_wrapped true row ∷ rows_from width (cell_columns cell) cells
    else rows_from width (row ++ cell_columns cell) cells

-- the column of the last cell whose text isn't one space
abbrev pub last_text : List VisibleCell → Option ℕ
last_text cells = fold (λ last v. if is_space v then last else Some v.column) None cells

-- the cells up to that column
abbrev pub texts_up_to : List VisibleCell → List VisibleCell
texts_up_to cells = filter (λ v. is_kept_by (last_text cells) v.column) cells
