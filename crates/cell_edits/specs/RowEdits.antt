-- What edits of a line do to its columns. A half that is left alone becomes a blank with the wide cell's attributes.
use Rattle.std.specs.Prelude.{ℕ, zero, suc, ◌+◌, ◌-◌, Bool, false, ◌&&◌, not, nat_lt, nat_le, List, [], ◌∷◌, ◌++◌}
use Rattle.std.specs.Prelude.{length, take, drop, if◌then◌else◌}
use Rattle.std.specs.Str.{bytes_eq}
use Rattle.cell_base.specs.Attributes.{Attributes, plain}
use Rattle.cell_base.specs.CellContent.{CellContent}
use Rattle.cell_base.specs.SameAttributes.{same_attributes}
use Rattle.cell_base.specs.Row.{Column, Narrow, LeftHalf, RightHalf, Row, space, blank, plain_row, closed_end}
use Rattle.cell_base.specs.Row.{closed_start, set_columns}
use Rattle.cell_base.specs.UpToLast.{up_to_last}
use Rattle.cell_edits.specs.CellList.{cell_columns}

-- the first `width` columns
abbrev pub cut : ℕ → Row → Row
cut width row = closed_end (take width row)

-- the columns from a position on
abbrev pub cut_prefix : ℕ → Row → Row
cut_prefix at row = closed_start (drop at row)

-- plain blanks are added where columns are missing
abbrev pub padded : ℕ → Row → Row
padded width row = row ++ plain_row (width - length row)

-- the row, cut or padded to `width` columns
abbrev pub resized : ℕ → Row → Row
resized width row = if nat_lt width (length row) then cut width row else padded width row

-- sets the cell at a position; a row that ends before the cell's end is padded
abbrev pub with_cell : Row → ℕ → CellContent → Row
with_cell row at cell = let columns = cell_columns cell in set_columns (padded (at + length columns) row) at columns

-- the row without the column at a position
abbrev pub removed : ℕ → Row → Row
removed at row = cut at row ++ cut_prefix (at + 1) row

-- inserts columns between the columns before a position and the columns from it on
abbrev pub inserted : ℕ → Row → Row → Row
inserted at columns row = cut at row ++ columns ++ cut_prefix at row

-- drops the last column within the margin if it is there, and inserts the cell's columns at a position; pads a row that
-- ends before it
abbrev pub with_inserted : Row → ℕ → CellContent → ℕ → Row
with_inserted row at cell margin =
    inserted at (cell_columns cell) (padded at (if nat_le margin (length row) then removed (margin - 1) row else row))

-- drops a column, and adds a plain blank
abbrev pub erased : ℕ → Row → Row
erased at row = removed at row ++ plain_row 1

-- drops a column if it is there, and inserts a blank as the last column within the margin if no column before it is
-- missing
abbrev pub erased_within : Row → ℕ → ℕ → Attributes → Row
erased_within row at margin attributes =
    let rest = if nat_lt at (length row) then removed at row else row in
    if nat_le margin (length rest + 1) then inserted (margin - 1) (blank attributes ∷ []) rest else rest

-- a space with plain attributes
abbrev pub is_plain_blank : Column → Bool
is_plain_blank (Narrow text attributes) = bytes_eq text space && same_attributes attributes plain
is_plain_blank (LeftHalf text attributes) = false
is_plain_blank (RightHalf attributes) = false

-- the row less the plain blanks at its end
abbrev pub pruned_row : Row → Row
pruned_row row = up_to_last (λ column. not (is_plain_blank column)) row

-- cells set side by side from a position on
abbrev pub overlaid : Row → ℕ → List CellContent → Row
overlaid row at [] = row
overlaid row at (cell ∷ cells) = overlaid (with_cell row at cell) (at + length (cell_columns cell)) cells

-- a cell set at each of `count` columns in turn
abbrev pub filled : Row → ℕ → ℕ → CellContent → Row
filled row at zero cell = row
filled row at (suc count) cell = with_cell (filled row at count cell) (at + count) cell
