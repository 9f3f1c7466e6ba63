-- Cells that are placed in rows, as they are stored and as visible cells.
use Rattle.std.proofs.Common.{◌≡◌, ℕ, ◌+◌, Bool, true, false, List, [], ◌∷◌, ◌++◌, length, sym, refl, ap, ◌∙◌, append_assoc}
use Rattle.std.specs.Prelude.{nat_lt, ◌&&◌, map, filter, if◌then◌else◌}
use Rattle.cell_base.specs.CellContent.{CellContent, row_of_cells}
use Rattle.cell_base.specs.Row.{Row}
use Rattle.cell_edits.specs.CellList.{ends_split, cell_columns}
use Rattle.cell_edits.specs.VisibleCells.{VisibleCell, visible_cells, contents, row_end_wrapped}
use Rattle.cell_views.specs.OpenZones.{is_kept_by}
use Rattle.cell_views.specs.ReadCells.{read_from}
use Rattle.cell_views.proofs.ReadLemmas.{seen, seen_columns, picked, read_is_visible}
use Rattle.cell_line.specs.LineContent.{LineContent, line_of}
use Rattle.cell_line.specs.OpenRows.{breaks, rows_from, last_text, texts_up_to}

-- rows see of a cell its columns alone
pub rows_of_seen : (width : ℕ) (row : Row) (cells : List VisibleCell) → rows_from width row (contents (map seen cells)) ≡ rows_from width row (contents cells)
rows_of_seen width row [] = refl
rows_of_seen width row (v ∷ cells) =
    (λ i. if nat_lt 0 (length row) && nat_lt width (length row + length (seen_columns v i)) then row_end_wrapped true row ∷ rows_from width (seen_columns v i) (contents (map seen cells)) else rows_from width (row ++ seen_columns v i) (contents (map seen cells)))
    ∙ (λ i. if breaks width (length row) v.cell then row_end_wrapped true row ∷ rows_of_seen width (cell_columns v.cell) cells i else rows_of_seen width (row ++ cell_columns v.cell) cells i)

pub rows_read : (width : ℕ) (cells : List CellContent) → ends_split cells ≡ false
    → rows_from width [] (contents (filter (λ v. is_kept_by (last_text (visible_cells (row_of_cells cells))) v.column) (read_from 0 cells))) ≡ rows_from width [] (contents (texts_up_to (visible_cells (row_of_cells cells))))
rows_read width cells h =
    let p : ℕ → Bool = is_kept_by (last_text (visible_cells (row_of_cells cells))) in
    sym (rows_of_seen width [] (filter (λ v. p v.column) (read_from 0 cells)))
    ∙ ap (λ vs. rows_from width [] (contents vs)) (picked p (read_from 0 cells) ∙ ap (filter (λ v. p v.column)) (read_is_visible 0 cells h))

-- a cell that was placed
pub placed : (b : Bool) (lines now : List LineContent) (full : Row) (row next joined : Row) (number : ℕ) (rest : Row → List Row)
    → now ≡ (if b then lines ++ line_of number full ∷ [] else lines) → row ≡ (if b then next else joined)
    → now ++ map (line_of number) (rest row) ≡ lines ++ map (line_of number) (if b then full ∷ rest next else rest joined)
placed true lines now full row next joined number rest e f =
    (λ i. e i ++ map (line_of number) (rest (f i))) ∙ append_assoc lines (line_of number full ∷ []) (map (line_of number) (rest next))
placed false lines now full row next joined number rest e f = λ i. e i ++ map (line_of number) (rest (f i))
