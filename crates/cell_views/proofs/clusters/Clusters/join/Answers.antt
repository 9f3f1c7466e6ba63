use Rattle.std.proofs.Common.{◌≡◌, ◌∙◌, ◌-◌, ap, [], ◌∷◌, arith}
use Rattle.std.specs.Prelude.{not, ◌||◌}
use Rattle.std.specs.Str.{bytes_eq}
use Rattle.cell_base.specs.Row.{space}
use Rattle.cell_views.specs.CellRefView.{shown_by}
use Rattle.cell_edits.specs.VisibleCells.{is_space}
use Rattle.cell_views.specs.Clusters.{cluster_of}
use Rattle.cell_views.proofs.ClusterLemmas.{made_joined, made_length}
use Rattle.cell_views.proofs.clusters.Clusters.join.Goals as goal

pub returns : goal.returns
returns c groups is b =
    let v = shown_by c.args.cell.now in
    let made = c.args.self.now.made in
    let d = cluster_of (v ∷ []) in
    let s : c.is_space-space.result ≡ is_space v = c.is_space-space.ensures ∙ ap (λ t. bytes_eq t space) c.str.ensures in
    let e = made_length groups c.args.self.now is in
    made_joined groups c.args.self.now _ v (made.len - 1) d (omega (arith, e, made.ok.0, c.requires)) is b (c.in_ok-grow_last.ensures d) s (ap (λ t. c.args.self.now.holds_text || not t) s)
