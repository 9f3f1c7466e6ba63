-- What a `CellRef` and a `VisibleCellIter` show.
use Rattle.std.specs.Prelude.{ℕ, nat_le, List, ◌++◌, if◌then◌else◌}
use Rattle.cell_base.specs.CellContent.{CellContent, cell_of, row_of_cells}
use Rattle.cell_edits.specs.VisibleCells.{VisibleCell, visible_at, visible_from}
use Rattle.clustered_row.specs.VisibleCells as clustered
use Rattle.cell_views.specs.Halves.{half_left}
use Rattle.cell_views.specs.declared.cell_ref.CellRef.{CellRef}
use Rattle.cell_views.specs.declared.cell_ref.CellRef.TheVariants.{CellRef as of_cell, ClusterRef as of_cluster}
use Rattle.cell_views.specs.declared.visible_cells.CellsLeft.{CellsLeft}
use Rattle.cell_views.specs.declared.visible_cells.ClusteredLeft.{ClusteredLeft}
use Rattle.cell_views.specs.declared.visible_cells.Left.{Left}
use Rattle.cell_views.specs.declared.visible_cells.Left.TheVariants.{Cells, Clustered}
use Rattle.cell_views.specs.declared.visible_cells.VisibleCellIter.{VisibleCellIter}

-- the columns that a cell takes: 2 where its width is at least 2, else 1
abbrev pub one_or_two : ℕ → ℕ
one_or_two width = if nat_le 2 width then 2 else 1

-- the `VisibleCell` of a borrowed cell
abbrev pub shown_by : CellRef → VisibleCell
shown_by (of_cell column cell) = visible_at column cell.now.text (one_or_two cell.now.width) cell.now.attributes
shown_by (of_cluster column text width attributes) = visible_at column text.now (one_or_two width) attributes.now

-- the cell that `as_cell` returns
abbrev pub copied_by : CellRef → CellContent
copied_by (of_cell column cell) = cell.now
copied_by (of_cluster column text width attributes) = cell_of text.now (one_or_two width) attributes.now

-- the copy of a shown cell
abbrev pub copy_of : CellContent → CellContent
copy_of cell = cell_of cell.text cell.width cell.attributes

-- the remaining cells of cells that are read from the left
abbrev pub left_of_cells : CellsLeft → List VisibleCell
left_of_cells s = visible_from s.cell_index (row_of_cells s.cells.now)

-- the remaining cells of a clustered row, and the half after them
abbrev pub left_of_clustered : ClusteredLeft → List VisibleCell
left_of_clustered s = clustered.cells_left s.cells ++ half_left s.half

-- the remaining cells of either kind of row
abbrev pub left_of : Left → List VisibleCell
left_of (Cells cells) = left_of_cells cells
left_of (Clustered cells) = left_of_clustered cells

-- the remaining cells
abbrev pub cells_left : VisibleCellIter → List VisibleCell
cells_left s = left_of s.left
