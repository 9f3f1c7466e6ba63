use Rattle.std.proofs.Common.{◌∙◌, ap}
use Rattle.std.proofs.lemmas.Result.{IfOk-weaker}
use Rattle.std.proofs.lemmas.Iterator.{items_from_drains}
use Rattle.std.proofs.lemmas.Iterator.Consumers.{YieldsList-from_first}
use Rattle.cell_edits.specs.VisibleCells.{visible_cells}
use Rattle.cell_views.specs.Clusters.{cell_clusters}
use Rattle.cell_views.specs.CellRefView.{shown_by, cells_left}
use Rattle.cell_line.proofs.line.Line.cluster.Goals as goal

pub returns : goal.returns
returns c =
    let yielded = YieldsList-from_first shown_by cells_left {s = c.visible_cells.result} (visible_cells c.args.self.now.columns) c.visible_cells.ensures.cells in
    IfOk-weaker c.make_cluster.result _ _
    (λ clusters p. p.2 ∙ ap cell_clusters (items_from_drains p.0 (p.1.1.0, p.1.1.1, λ _. (p.1.0, p.1.1.2)) yielded))
    c.make_cluster.ensures
