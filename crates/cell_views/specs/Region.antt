-- A part of a row, as it is seen.
use Rattle.std.specs.Prelude.{ℕ, ◌+◌, ◌-◌, List, [], ◌∷◌, ◌++◌, slice_index_or, if◌then◌else◌}
use Rattle.cell_base.specs.Attributes.{plain}
use Rattle.cell_base.specs.Row.{Row, space, blank}
use Rattle.clustered_row.specs.VisibleColumns.{is_split, column_attributes}
use Rattle.cell_views.specs.CellRefView.{cells_left}
use Rattle.cell_views.specs.Halves.{half_left}
use Rattle.cell_edits.specs.RowEdits.{cut, cut_prefix}
use Rattle.cell_edits.specs.VisibleCells.{VisibleCell, visible_at, visible_from}
use Rattle.cell_views.specs.declared.region.RegionIter.{RegionIter}

-- the visible cells from a column on and before another, where a half that an edge leaves alone is a blank with its
-- wide cell's attributes; the columns are the row's
abbrev pub region : ℕ → ℕ → Row → List VisibleCell
region start end row = visible_from start (cut (end - start) (cut_prefix start row))

-- ---- what an edge at a column leaves of a cell that it cuts, and the column beside it at which none is cut

-- a blank in one column, with the attributes of column `other`
abbrev pub half_at : ℕ → ℕ → Row → List VisibleCell
half_at column other row = visible_at column space 1 (column_attributes (slice_index_or row other (blank plain))) ∷ []

abbrev pub start_half : ℕ → Row → List VisibleCell
start_half start row = if is_split start row then half_at start start row else []

abbrev pub inner_start : ℕ → Row → ℕ
inner_start start row = if is_split start row then start + 1 else start

abbrev pub end_half : ℕ → Row → List VisibleCell
end_half end row = if is_split end row then half_at (end - 1) end row else []

abbrev pub inner_end : ℕ → Row → ℕ
inner_end end row = if is_split end row then end - 1 else end

-- ---- the remaining cells

-- the remaining cells
abbrev pub region_left : RegionIter → List VisibleCell
region_left s = half_left s.half ++ cells_left s.cells
