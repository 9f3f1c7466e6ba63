use Rattle.std.proofs.Common.{rules, ◌≡◌, ◌∙◌, ◌++◌, [], sym, ap}
use Rattle.std.specs.Prelude.{map}
use Rattle.std.specs.List.{flat_map}
use Rattle.unicode_segmentation.specs.Iter.{graphemes_left}
use Rattle.cell_base.specs.CellContent.{cell_of, row_of_cells}
use Rattle.cell_base.proofs.PlainClusters.{clusters_are}
use Rattle.cell_edits.specs.CellList.{ends_split, cell_columns}
use Rattle.cell_edits.proofs.text.cells_of_text.Goals as goal

pub loop-cluster-init : goal.loop-cluster-init
loop-cluster-init g c =
    let none : c.new-cells.result.items ≡ [] = search rules in
    let left = ap graphemes_left c.into_iter-cluster-iterator.ensures.into_iter_gives ∙ c.graphemes-cluster-items.ensures.left ∙ sym (clusters_are c.args.text.now c.utf8.text) in
    record {
      whole = ap ends_split none;
      row = λ i. row_of_cells (none i) ++ flat_map cell_columns (map (λ cluster. cell_of cluster (g.W.Widths.width_of c.args.w.now cluster) c.args.attrs.now) (left i));
    }
