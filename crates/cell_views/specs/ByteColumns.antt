-- The columns of the cells of a text's bytes.
use Rattle.std.specs.Prelude.{ℕ, List, ◌++◌, map, replicate}
use Rattle.std.specs.List.{range_with_len}
use Rattle.cell_views.specs.declared.byte_columns.ByteColumns.{ByteColumns}

-- for each byte the first column of its cell: the counted cells are side by side
abbrev pub columns_in : ByteColumns → List ℕ
columns_in p = range_with_len p.first p.counted ++ map (λ b. b.column) p.after.items

-- for each byte the columns that its cell takes: one where they are counted
abbrev pub widths_in : ByteColumns → List ℕ
widths_in p = replicate p.counted 1 ++ map (λ b. b.width) p.after.items
