use Rattle.std.proofs.Common.{◌≡◌, ◌∙◌, ◌-◌, ap, List, length, get_or, arith}
use Rattle.std.specs.Prelude.{not, ◌&&◌, ◌||◌}
use Rattle.std.specs.Str.{bytes_eq}
use Rattle.cell_base.specs.Row.{space}
use Rattle.cell_base.specs.SameAttributes.{same_attributes}
use Rattle.cell_views.specs.CellRefView.{shown_by}
use Rattle.cell_edits.specs.VisibleCells.{is_space}
use Rattle.cell_views.specs.Clusters.{ClusterContent, unwrapped}
use Rattle.cell_views.proofs.ClusterLemmas.{begins_made, made_length}
use Rattle.cell_views.proofs.clusters.Clusters.begins.Goals as goal

pub returns-in_ok-same-in-Some-clause-exact : goal.returns-in_ok-same-in-Some-clause-exact
returns-in_ok-same-in-Some-clause-exact c groups is =
    let v = shown_by c.args.cell.now in
    let made = c.args.self.now.made.items in
    let last = c.in-Some.last.now in
    let at : last ≡ get_or made (length made - 1) last = c.in-Some.ensures.item.1 ∙ ap (λ (xs : List ClusterContent). get_or xs (length xs - 1) last) c.deref.ensures.value in
    let s : c.is_space-space.result ≡ is_space v = c.is_space-space.ensures ∙ ap (λ t. bytes_eq t space) c.str.ensures in
    let same : c.in_ok-same-in-Some.same ≡ same_attributes (get_or made (length made - 1) last).attributes (unwrapped v.cell.attributes) = c.in_ok-same-in-Some.ensures ∙ ap (λ (x : ClusterContent). same_attributes x.attributes (unwrapped v.cell.attributes)) at in
    c.breaks.ensures
    ∙ (λ i. not (same i) || not (s i) && c.args.self.now.ends_in_space || s i && c.args.self.now.ends_in_space && c.args.self.now.holds_text)
    ∙ begins_made groups c.args.self.now v (length made - 1) last (omega (arith, made_length groups c.args.self.now is, ap length c.deref.ensures.value, c.in-Some.ensures.item.3.0)) is
