-- The clusters of a row: neighbouring visible cells that are shown together.
use Rattle.std.specs.Prelude.{ℕ, Bool, false, not, ◌&&◌, ◌||◌, List, [], ◌∷◌, length, map, fold, replicate, sum_by}
use Rattle.std.specs.Prelude.{flat_map}
use Rattle.std.specs.List.{list_any}
use Rattle.cell_base.specs.Attributes.{Attributes, plain}
use Rattle.cell_base.specs.SameAttributes.{same_attributes}
use Rattle.cell_views.specs.Groups.{groups_by}
use Rattle.cell_edits.specs.VisibleCells.{VisibleCell, is_space, texts_joined, first_column}

-- ---- which cells are together

-- the attributes, less `wrapped`
abbrev pub unwrapped : Attributes → Attributes
unwrapped attributes = record attributes { wrapped = false }

-- a cluster's attributes are its first cell's, less `wrapped`
abbrev pub cluster_attributes : List VisibleCell → Attributes
cluster_attributes [] = plain
cluster_attributes (v ∷ cells) = unwrapped v.cell.attributes

-- whether the last cell is a space
abbrev pub ends_in_space : List VisibleCell → Bool
ends_in_space cells = fold (λ _ v. is_space v) false cells

-- whether some cell is not a space
abbrev pub holds_text : List VisibleCell → Bool
holds_text cells = list_any (λ v. not (is_space v)) cells

-- whether a cell begins a new cluster after the cells of the last one: its attributes less `wrapped` differ from the
-- cluster's, it is no space and follows a space, or it is a space and follows a space in a cluster with other texts
abbrev pub begins_cluster : List VisibleCell → VisibleCell → Bool
begins_cluster cells v =
    not (same_attributes (cluster_attributes cells) (unwrapped v.cell.attributes)) || not (is_space v)
    && ends_in_space cells || is_space v && ends_in_space cells && holds_text cells

-- the cells of each cluster
abbrev pub clusters_of : List VisibleCell → List (List VisibleCell)
clusters_of cells = groups_by begins_cluster cells

-- ---- what a cluster shows of its cells

-- the columns count from 0; for each byte of the text there is the first column of its cell, and how many columns the
-- cell takes
pub record ClusterContent : Type 0 where
  pub attributes : Attributes
  pub text : List ℕ
  pub width : ℕ
  pub first_column : ℕ
  pub columns : List ℕ
  pub widths : List ℕ

-- a value of each cell, once for each byte of its text
abbrev pub for_each_byte : (VisibleCell → ℕ) → List VisibleCell → List ℕ
for_each_byte value cells = flat_map (λ v. replicate (length v.cell.text) (value v)) cells

abbrev pub cluster_of : List VisibleCell → ClusterContent
cluster_of cells =
    record {
      attributes = cluster_attributes cells;
      text = texts_joined cells;
      width = sum_by (λ v. v.cell.width) cells;
      first_column = first_column cells;
      columns = for_each_byte (λ v. v.column) cells;
      widths = for_each_byte (λ v. v.cell.width) cells;
    }

-- the clusters of cells, in order
abbrev pub cell_clusters : List VisibleCell → List ClusterContent
cell_clusters cells = map cluster_of (clusters_of cells)
