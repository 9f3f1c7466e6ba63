-- Rows that are filled cell by cell are those of the groups.
use Rattle.std.proofs.Common.{◌≡◌, ℕ, ◌<◌, ◌∙◌, Bool, true, false, List, [], ◌∷◌, ◌++◌, length, refl, sym, ap, inl, inr, arith}
use Rattle.std.specs.Prelude.{nat_lt, ◌&&◌, fold, map, if◌then◌else◌}
use Rattle.std.specs.List.{list_all}
use Rattle.std.proofs.lemmas.Bool.{lt-ltb}
use Rattle.std.proofs.lemmas.List.{append-nil, length-append, length-map}
use Rattle.std.proofs.lemmas.Grind.{flat_map-append}
use Rattle.cell_base.specs.Row.{Row}
use Rattle.cell_views.specs.Groups.{joined}
use Rattle.cell_edits.specs.CellList.{cell_columns}
use Rattle.cell_edits.specs.VisibleCells.{VisibleCell, is_space, contents, row_of_visible, row_end_wrapped}
use Rattle.cell_line.specs.Wrapped.{begins_row, continued, rows_of, texts_kept}
use Rattle.cell_line.specs.OpenRows.{breaks, rows_from}
use Rattle.cell_edits.proofs.CellLemmas.{by_test}
use Rattle.cell_edits.proofs.CutLemmas.{length-cell_columns}
use Rattle.cell_views.proofs.GroupLemmas.{some_groups, fold_after}
use Rattle.cell_views.proofs.KeptLemmas.{some_up_to}

-- ---- rows

continued-after : (row : Row) (rows : List Row) → 0 < length rows → continued (row ∷ rows) ≡ row_end_wrapped true row ∷ continued rows
continued-after row [] p = absurd (omega arith)
continued-after row (next ∷ rows) p = refl

row_of_one : (v : VisibleCell) → row_of_visible (v ∷ []) ≡ cell_columns v.cell
row_of_one v = append-nil (cell_columns v.cell)

row_with_one : (cells : List VisibleCell) (v : VisibleCell) → row_of_visible (cells ++ v ∷ []) ≡ row_of_visible cells ++ cell_columns v.cell
row_with_one cells v = flat_map-append (λ (w : VisibleCell). cell_columns w.cell) cells (v ∷ []) ∙ ap (λ (r : Row). row_of_visible cells ++ r) (row_of_one v)

some_columns : (cells : List VisibleCell) → 0 < length cells → nat_lt 0 (length (row_of_visible cells)) ≡ true
some_columns [] p = absurd (omega arith)
some_columns (v ∷ cells) p =
    let both = length-append (cell_columns v.cell) (row_of_visible cells) in
    lt-ltb 0 (length (row_of_visible (v ∷ cells))) (elim (length-cell_columns v.cell) [ inl e ↦ omega arith | inr e ↦ omega arith ])

-- after the cells of an open row
rows_after : (width : ℕ) (before cells : List VisibleCell) → 0 < length before
    → rows_from width (row_of_visible before) (contents cells) ≡ continued (map row_of_visible (fold (joined (begins_row width)) (before ∷ []) cells))
rows_after width before [] p = refl
rows_after width before (v ∷ cells) p =
    let row : Row = row_of_visible before in
    let rest : Bool → List Row = λ t. if t then row_end_wrapped true row ∷ rows_from width (cell_columns v.cell) (contents cells) else rows_from width (row ++ cell_columns v.cell) (contents cells) in
    let groups : Bool → List Row = λ t. continued (map row_of_visible (fold (joined (begins_row width)) (if t then before ∷ (v ∷ []) ∷ [] else (before ++ v ∷ []) ∷ []) cells)) in
    let begins = begins_row width before v in
    let there : breaks width (length row) v.cell ≡ begins = ap (λ t. t && begins) (some_columns before p) in
    ap rest there
    ∙ by_test begins
    (λ b. ap rest b
    ∙ ap (λ (r : Row). row_end_wrapped true row ∷ rows_from width r (contents cells)) (sym (row_of_one v))
    ∙ ap (λ (rs : List Row). row_end_wrapped true row ∷ rs) (rows_after width (v ∷ []) cells (omega arith))
    ∙ sym (continued-after row (map row_of_visible (fold (joined (begins_row width)) ((v ∷ []) ∷ []) cells)) (some_rows width v cells))
    ∙ ap (λ (gs : List (List VisibleCell)). continued (map row_of_visible gs)) (sym (fold_after (begins_row width) before ((v ∷ []) ∷ []) cells (omega arith)))
    ∙ sym (ap groups b))
    (λ b. ap rest b
    ∙ ap (λ (r : Row). rows_from width r (contents cells)) (sym (row_with_one before v))
    ∙ rows_after width (before ++ v ∷ []) cells (some_more before v)
    ∙ sym (ap groups b))
  where
    some_rows : (width : ℕ) (v : VisibleCell) (cells : List VisibleCell) → 0 < length (map row_of_visible (fold (joined (begins_row width)) ((v ∷ []) ∷ []) cells))
    some_rows width v cells =
        let groups = fold (joined (begins_row width)) ((v ∷ []) ∷ []) cells in
        let p = some_groups (begins_row width) ((v ∷ []) ∷ []) cells (omega arith) in
        let e = length-map groups row_of_visible in
        omega arith

    some_more : (before : List VisibleCell) (v : VisibleCell) → 0 < length (before ++ v ∷ [])
    some_more before v = let e = length-append before (v ∷ []) in omega arith

pub rows_filled : (width : ℕ) (cells : List VisibleCell) → 0 < length cells → rows_from width [] (contents cells) ≡ rows_of width cells
rows_filled width [] p = absurd (omega arith)
rows_filled width (v ∷ cells) p = ap (λ (r : Row). rows_from width r (contents cells)) (sym (row_of_one v)) ∙ rows_after width (v ∷ []) cells (omega arith)

-- ---- a line that isn't all spaces keeps a cell

pub texts_are_kept : (cells : List VisibleCell) → list_all is_space cells ≡ false → 0 < length (texts_kept cells)
texts_are_kept cells p = some_up_to is_space cells p
