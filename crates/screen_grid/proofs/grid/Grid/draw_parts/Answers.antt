use Rattle.std.proofs.Common.{[], ◌∷◌, ◌∙◌, subst, ap, length, arith}
use Rattle.cell_base.specs.Cluster.{clusters}
use Rattle.screen_grid.specs.Grid.{Shows, clusters_done, display_of}
use Rattle.screen_grid.specs.Parts.{parts_done}
use Rattle.screen_grid.proofs.PartLemmas.{prefix_leads, control_leads}
use Rattle.screen_effects.specs.Strokes.{Control}
use Rattle.screen_grid.proofs.grid.Grid.draw_parts.Goals as goal

pub loop-control-init : goal.loop-control-init
loop-control-init g c = record {
  leads = prefix_leads (g.W.Widths.width_of c.args.self.now.widths) c.args.self.now c.put_run.new.self c.args.text.now c.split_at_control.result.0.now c.split_at_control.result.1.now c.in_ok-put_run.ensures c.split_at_control.ensures.parts c.split_at_control.ensures.control;
  text = c.split_at_control.ensures.utf8;
}

pub loop-control-smaller : goal.loop-control-smaller
loop-control-smaller g c = let a = ap length c.in-Some.ensures.len in let b = c.split_at_control-in-Some.ensures.len in omega arith

pub loop-control-preserved : goal.loop-control-preserved
loop-control-preserved g c =
    let leads = c.loop-control.invariant.leads in
    let width_of = g.W.Widths.width_of c.args.self.now.widths in
    let now = c.loop-control.self in
    let ctl = c.control.new.self in
    let new = c.put_run-in-Some.new.self in
    let s = subst (λ (w : g.row.W.Denot). Shows now ctl (parts_done (g.W.Widths.width_of w) (display_of now) (Control c.in-Some.control ∷ []))) leads.widths c.in_ok-control.ensures in
    let t = subst (λ (w : g.row.W.Denot). Shows ctl new (clusters_done (g.W.Widths.width_of w) (display_of ctl) (clusters c.split_at_control-in-Some.result.0.now))) (s.widths ∙ leads.widths) c.in_ok-put_run-2.ensures in
    record {
      leads = control_leads width_of c.args.self.now now ctl new c.args.text.now c.loop-control.rest.now c.in-Some.after.now c.split_at_control-in-Some.result.1.now c.in-Some.control leads c.in-Some.ensures.parts s
          (prefix_leads width_of ctl new c.in-Some.after.now c.split_at_control-in-Some.result.0.now c.split_at_control-in-Some.result.1.now t c.split_at_control-in-Some.ensures.parts c.split_at_control-in-Some.ensures.control);
      text = c.split_at_control-in-Some.ensures.utf8;
    }
