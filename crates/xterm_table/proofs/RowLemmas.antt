-- The edits of the cursor's row keep its width, whole texts, and what holds of each column.
use Rattle.std.proofs.Common.{◌≡◌, ℕ, ◌+◌, ◌-◌, ◌≤◌, ◌++◌, length, take, drop, replicate, ◌∙◌, arith, length-append}
use Rattle.std.proofs.lemmas.List.{length-replicate, length-take-le, length-drop}
use Rattle.cell_base.specs.Attributes.{Attributes}
use Rattle.cell_base.specs.Row.{Column, Row, blank, set_columns}
use Rattle.cell_base.specs.WholeRow.{IsWhole}
use Rattle.cell_base.proofs.RowLemmas.{length-closed_end, length-closed_start, length-set_columns, whole-append, whole-after, whole-blanks, whole-prefix, whole-set_columns}
use Rattle.cell_edits.specs.RowEdits.{cut, cut_prefix, inserted}
use Rattle.xterm_table.proofs.ColumnLemmas.{Each, IsKept, each-append, each-cut, each-cut_prefix, each-inserted, each-same, each-set_columns}

length-cut : (at : ℕ) (row : Row) → at ≤ length row → length (cut at row) ≡ at
length-cut at row h = length-closed_end (take at row) ∙ length-take-le at row h

length-cut_prefix : (at : ℕ) (row : Row) → length (cut_prefix at row) ≡ length row - at
length-cut_prefix at row = length-closed_start (drop at row) ∙ length-drop at row

-- A row has a width, its halves come in pairs, and each column has a property.
pub record Fits (P : Column → Type 0) (width : ℕ) (row : Row) : Type 0 where
  pub wide : length row ≡ width
  pub whole : IsWhole row
  pub each : Each P row

module _ (P : Column → Type 0) (kept : IsKept P) (width : ℕ) (row : Row) (attributes : Attributes) (f : Fits P width row) (p : P (blank attributes)) where
  abbrev blanks_of : ℕ → Row
  blanks_of count = replicate count (blank attributes)

  some : (count : ℕ) → length (blanks_of count) ≡ count
  some count = length-replicate count (blank attributes)

  -- blanks in place of columns
  pub erased_fits : (at count : ℕ) → at + count ≤ width → Fits P width (set_columns row at (blanks_of count))
  erased_fits at count h =
      let wide = f.wide in
      let size = some count in
      record {
        wide = length-set_columns row at (blanks_of count) (omega (arith, wide, size)) ∙ wide;
        whole = whole-set_columns row at (blanks_of count) f.whole (whole-blanks count attributes);
        each = each-set_columns P kept row at (blanks_of count) f.each (each-same P kept count (blank attributes) p);
      }

  -- blanks between columns
  pub inserted_fits : (at count : ℕ) → at ≤ width → Fits P width (cut width (inserted at (blanks_of count) row))
  inserted_fits at count h =
      let wide = f.wide in
      let size = some count in
      let before : length (cut at row) ≡ at = length-cut at row (omega (arith, wide)) in
      let after = length-cut_prefix at row in
      let first = length-append (cut at row) (blanks_of count) in
      let all = length-append (cut at row ++ blanks_of count) (cut_prefix at row) in
      let long : width ≤ length (inserted at (blanks_of count) row) = omega (arith, wide, size, before, after, first, all) in
      record {
        wide = length-cut width (inserted at (blanks_of count) row) long;
        whole = whole-prefix width (inserted at (blanks_of count) row)
            (whole-append (cut at row ++ blanks_of count) (cut_prefix at row)
            (whole-append (cut at row) (blanks_of count) (whole-prefix at row f.whole) (whole-blanks count attributes)) (whole-after at row f.whole));
        each = each-cut P kept width (inserted at (blanks_of count) row)
            (each-inserted P kept at (blanks_of count) row (each-same P kept count (blank attributes) p) f.each);
      }

  -- blanks at the end, in place of columns that go
  pub deleted_fits : (at count : ℕ) → at + count ≤ width → Fits P width (cut at row ++ cut_prefix (at + count) row ++ blanks_of count)
  deleted_fits at count h =
      let wide = f.wide in
      let size = some count in
      let before : length (cut at row) ≡ at = length-cut at row (omega (arith, wide)) in
      let after = length-cut_prefix (at + count) row in
      let first = length-append (cut at row) (cut_prefix (at + count) row) in
      let all = length-append (cut at row ++ cut_prefix (at + count) row) (blanks_of count) in
      record {
        wide = omega (arith, wide, size, before, after, first, all);
        whole = whole-append (cut at row ++ cut_prefix (at + count) row) (blanks_of count)
            (whole-append (cut at row) (cut_prefix (at + count) row) (whole-prefix at row f.whole) (whole-after (at + count) row f.whole)) (whole-blanks count attributes);
        each = each-append P kept (cut at row ++ cut_prefix (at + count) row) (blanks_of count)
            (each-append P kept (cut at row) (cut_prefix (at + count) row) (each-cut P kept at row f.each) (each-cut_prefix P kept (at + count) row f.each))
            (each-same P kept count (blank attributes) p);
      }
