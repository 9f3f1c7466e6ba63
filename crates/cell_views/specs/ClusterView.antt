-- What a `CellCluster` shows, and clusters that are being made.
use Rattle.std.specs.Prelude.{◌≡◌, ◌+◌, ◌<◌, ◌≤◌, Bool, true, List, [], ◌∷◌, ◌++◌, length, map, replicate}
use Rattle.std.specs.String.{string_bytes}
use Rattle.cell_edits.specs.VisibleCells.{VisibleCell}
use Rattle.cell_views.specs.ByteColumns.{columns_in, widths_in}
use Rattle.cell_views.specs.Clusters.{ClusterContent, cluster_of, begins_cluster, ends_in_space, holds_text}
use Rattle.cell_views.specs.declared.clusters.CellCluster.TheInside.{Inside}
use Rattle.cell_views.specs.declared.clusters.Clusters.{Clusters}

abbrev pub content_of : Inside → ClusterContent
content_of a =
    record {
      attributes = a.attrs;
      text = string_bytes a.text;
      width = a.width;
      first_column = a.first_cell_idx;
      columns = columns_in a.byte_columns;
      widths = widths_in a.byte_columns;
    }

-- each byte of the text has a column and a width
pub record IsPlaced (a : Inside) : Type 0 where
  pub columns : length (string_bytes a.text) ≤ length (columns_in a.byte_columns)
  pub widths : length (string_bytes a.text) ≤ length (widths_in a.byte_columns)

-- a cluster with a cell after its own
abbrev pub grown : ClusterContent → VisibleCell → ClusterContent
grown c v =
    record c {
      text = c.text ++ v.cell.text;
      width = c.width + v.cell.width;
      columns = c.columns ++ replicate (length v.cell.text) v.column;
      widths = c.widths ++ replicate (length v.cell.text) v.cell.width;
    }

-- the cells of the last cluster
abbrev pub last_of : List (List VisibleCell) → List VisibleCell
last_of [] = []
last_of (cells ∷ []) = cells
last_of (cells ∷ more ∷ groups) = last_of (more ∷ groups)

-- whether a cell begins a new cluster after the clusters with these cells
abbrev pub begins_after : List (List VisibleCell) → VisibleCell → Bool
begins_after [] v = true
begins_after (cells ∷ groups) v = begins_cluster (last_of (cells ∷ groups)) v

-- the clusters made so far are the clusters of these cells, and the flags are those of the last group
pub record IsMadeOf (groups : List (List VisibleCell)) (s : Clusters) : Type 0 where
  pub made : s.made.items ≡ map cluster_of groups
  pub ends_in_space : s.ends_in_space ≡ ends_in_space (last_of groups)
  pub holds_text : s.holds_text ≡ holds_text (last_of groups)
  pub holds_cells : 0 < length groups → 0 < length (last_of groups)
