use Rattle.std.proofs.Common.{◌≡◌, ◌++◌, false}
use Rattle.std.specs.Prelude.{map}
use Rattle.std.specs.List.{flat_map}
use Rattle.unicode_segmentation.specs.Iter.{graphemes_left}
use Rattle.cell_base.specs.CellContent.{cell_of, row_of_cells}
use Rattle.cell_edits.specs.CellList.{ends_split, cell_columns, text_row}
use Rattle.cell_edits.proofs.text.cells_of_text.Given as goal

-- the columns so far, followed by those of the remaining clusters, are those of the whole text
abbrev pub invariant-loop-cluster : goal.invariant-loop-cluster
invariant-loop-cluster g l = record {
  whole : ends_split l.cells.items ≡ false;
  row : row_of_cells l.cells.items ++ flat_map cell_columns (map (λ cluster. cell_of cluster (g.W.Widths.width_of l.w cluster) l.attrs) (graphemes_left l.cluster-iterator))
      ≡ text_row (g.W.Widths.width_of l.w) l.text l.attrs;
}
