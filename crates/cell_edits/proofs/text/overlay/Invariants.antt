use Rattle.std.proofs.Common.{◌≡◌}
use Rattle.std.specs.Prelude.{map}
use Rattle.unicode_segmentation.specs.Iter.{graphemes_left}
use Rattle.cell_base.specs.CellContent.{cell_of, row_of_cells}
use Rattle.cell_edits.specs.CellList.{text_cells}
use Rattle.cell_edits.specs.RowEdits.{overlaid}
use Rattle.cell_edits.proofs.text.overlay.Given as goal

-- setting the remaining clusters from the current column on gives the row with the whole text set
abbrev pub invariant-loop-cluster : goal.invariant-loop-cluster
invariant-loop-cluster g l =
    overlaid (row_of_cells l.cells.items) l.at (map (λ cluster. cell_of cluster (g.W.Widths.width_of l.w cluster) l.attrs) (graphemes_left l.cluster-iterator))
    ≡ overlaid (row_of_cells l.initial.cells.items) l.start (text_cells (g.W.Widths.width_of l.w) l.text l.attrs)
