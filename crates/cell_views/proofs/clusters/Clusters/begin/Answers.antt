use Rattle.std.proofs.Common.{◌≡◌, ◌∙◌, ap, List, ◌∷◌, [], ◌++◌}
use Rattle.std.specs.Prelude.{not}
use Rattle.std.specs.Str.{bytes_eq}
use Rattle.cell_base.specs.Row.{space}
use Rattle.cell_views.specs.CellRefView.{shown_by}
use Rattle.cell_edits.specs.VisibleCells.{is_space}
use Rattle.cell_views.specs.Clusters.{ClusterContent}
use Rattle.cell_views.proofs.ClusterLemmas.{made_begun}
use Rattle.cell_views.proofs.clusters.Clusters.begin.Goals as goal

pub returns : goal.returns
returns c groups is b =
    let v = shown_by c.args.cell.now in
    let s : c.is_space-space.result ≡ is_space v = c.is_space-space.ensures ∙ ap (λ t. bytes_eq t space) c.str.ensures in
    let made = ◌∙◌ {A = List ClusterContent} c.in_ok-push.ensures.items (ap (λ (x : ClusterContent). c.args.self.now.made.items ++ x ∷ []) c.in_ok-of_cell.ensures) in
    made_begun groups c.args.self.now _ v is b made s (ap not s)
