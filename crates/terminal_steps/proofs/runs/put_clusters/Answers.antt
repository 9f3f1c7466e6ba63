use Rattle.std.proofs.Common.{rules, ◌≡◌, ◌∙◌, ◌∷◌, [], true, List, map, refl, sym, ap, subst}
use Rattle.std.specs.Prelude.{⊤, ℕ, Result, Err, Some}
use Rattle.std.proofs.lemmas.Result.{err_from_is_err_and}
use Rattle.text_clusters.proofs.PlainLemmas.{graphemes-nil}
use Rattle.unicode_segmentation.specs.Grapheme.{graphemes}
use Rattle.cell_base.specs.Cluster.{clusters, read_cluster}
use Rattle.cell_base.proofs.PlainClusters.{read_alone}
use Rattle.cell_surface.specs.Surface.{shown_by}
use Rattle.cell_surface.specs.declared.error.SurfaceError.{SurfaceError}
use Rattle.terminal_table.specs.Modes.{Modes}
use Rattle.terminal_table.specs.Runs.{run_done}
use Rattle.terminal_table.proofs.ClusterLemmas.{AreRunTexts}
use Rattle.xterm_steps.specs.Additions.{AddsWith}
use Rattle.terminal_steps.specs.ProfileView.{modes_in}
use Rattle.terminal_steps.proofs.RunLemmas.{midway_begun, midway_ends, midway_next, midway_stops}
use Rattle.terminal_steps.proofs.WholeRunLemmas.{some_of}
use Rattle.terminal_steps.proofs.runs.put_clusters.Goals as goal

-- the first cluster
cut : (left cluster after : List ℕ) → graphemes true left ≡ cluster ∷ graphemes true after → graphemes true cluster ≡ cluster ∷ [] → clusters left ≡ cluster ∷ clusters after
cut left cluster after e alone = ap (map read_cluster) e ∙ (λ i. read_alone cluster alone i ∷ clusters after)

pub loop-cluster-init : goal.loop-cluster-init
loop-cluster-init g c = record {
  leads = λ f can. midway_begun (λ w. g.W.Widths.width_of w) (modes_in c.args.modes.now) c.args.surface.now c.pooled_text.new.self _ c.args.text.now c.requires.stays c.pooled_text.ensures.same can c.pooled_text.ensures.empty
      (record { column = c.cursor_position-column.ensures.column; row = c.cursor_position-column.ensures.row });
  text = c.utf8.text;
}

pub returns-in_err-put_next : goal.returns-in_err-put_next
returns-in_err-put_next g c = λ f can.
    let modes : Modes = modes_in c.args.modes.now in
    let of = g.W.Widths.width_of c.args.surface.now.grid.widths in
    let m = c.loop-cluster.invariant.leads f can in
    let first = cut c.loop-cluster.left.now c.in-Some.cluster.now c.in-Some.after.now c.in-Some.ensures.clusters c.in-Some.ensures.alone in
    let goes = c.in_err-put_next.ensures c.args.surface.now m.running f (subst AreRunTexts first m.rest).0 m.on in
    let p = err_from_is_err_and c.from_residual.result c.from_residual.ensures.1 in
    let result : c.from_residual.result ≡ Err c.in_err-put_next.field-0.0 = p.1 ∙ ap Err p.2 in
    subst (λ (r : Result ⊤ SurfaceError). AddsWith true (λ w. g.W.Widths.width_of w) c.args.surface.now (run_done modes of (shown_by c.args.surface.now).screen c.args.text.now).changes r c.put_next.new.surface) (sym result)
    (midway_stops (λ w. g.W.Widths.width_of w) modes c.args.surface.now c.loop-cluster.surface c.put_next.new.surface c.loop-cluster.run c.put_next.new.run c.args.text.now c.loop-cluster.left.now c.in-Some.cluster.now c.in-Some.after.now c.in_err-put_next.field-0.0 can
    (some_of c.args.text.now c.requires.some) m first goes)

pub loop-cluster-preserved : goal.loop-cluster-preserved
loop-cluster-preserved g c = record {
  leads = λ f can.
      let modes : Modes = modes_in c.args.modes.now in
      let m = c.loop-cluster.invariant.leads f can in
      let first = cut c.loop-cluster.left.now c.in-Some.cluster.now c.in-Some.after.now c.in-Some.ensures.clusters c.in-Some.ensures.alone in
      let goes = c.in_ok-put_next.ensures c.args.surface.now m.running f (subst AreRunTexts first m.rest).0 m.on in
      midway_next (λ w. g.W.Widths.width_of w) modes c.args.surface.now c.loop-cluster.surface c.put_next.new.surface c.loop-cluster.run c.put_next.new.run c.args.text.now c.loop-cluster.left.now c.in-Some.cluster.now c.in-Some.after.now m first goes.goes;
  text = search rules;
}

pub returns : goal.returns
returns g c = λ f can.
    let empty : c.loop-cluster.left.now ≡ [] = c.in_default.ensures.none.0 refl in
    let none : clusters c.loop-cluster.left.now ≡ [] = ap clusters empty ∙ ap (map read_cluster) graphemes-nil in
    midway_ends (λ w. g.W.Widths.width_of w) (modes_in c.args.modes.now) c.args.surface.now c.loop-cluster.surface c.end.new.surface c.loop-cluster.run c.args.text.now c.loop-cluster.left.now c.end.result can
    (some_of c.args.text.now c.requires.some) (c.loop-cluster.invariant.leads f can) none c.end.ensures.added
