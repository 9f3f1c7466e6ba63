use Rattle.std.proofs.Common.{◌∙◌, ap, length, arith}
use Rattle.change_sequence.specs.Positions.{position_of}
use Rattle.change_sequence.specs.Sequence.{stroke_moved}
use Rattle.change_sequence.proofs.MoveLemmas.{prefix_leads, control_leads}
use Rattle.change_sequence.proofs.moves.after_text.Goals as goal

pub loop-control-init : goal.loop-control-init
loop-control-init g c = record {
  leads = prefix_leads (stroke_moved (g.W.Widths.width_of c.args.widths.now) c.args.columns) (position_of c.args.position) (position_of c.after_run-position.result) c.args.text.now c.split_at_control.result.0.now c.split_at_control.result.1.now c.after_run-position.ensures.moved c.split_at_control.ensures.parts;
  within = c.after_run-position.ensures.within;
  control = c.split_at_control.ensures.control;
  text = c.split_at_control.ensures.utf8;
}

pub loop-control-smaller : goal.loop-control-smaller
loop-control-smaller g c = let a = ap length c.in-Some.ensures.len in let b = c.split_at_control-in-Some.ensures.len in omega arith

pub loop-control-preserved : goal.loop-control-preserved
loop-control-preserved g c =
    let step = stroke_moved (g.W.Widths.width_of c.args.widths.now) c.args.columns in
    let control = position_of c.after_control-position.result in record {
      leads =
          prefix_leads step control (position_of c.after_run-position-in-Some.result) c.in-Some.after.now c.split_at_control-in-Some.result.0.now c.split_at_control-in-Some.result.1.now c.after_run-position-in-Some.ensures.moved c.split_at_control-in-Some.ensures.parts
          ∙ control_leads step (position_of c.loop-control.position) control c.loop-control.rest.now c.in-Some.after.now c.in-Some.control c.after_control-position.ensures.moved c.in-Some.ensures.parts
          ∙ c.loop-control.invariant.leads;
      within = c.after_run-position-in-Some.ensures.within;
      control = c.split_at_control-in-Some.ensures.control;
      text = c.split_at_control-in-Some.ensures.utf8;
    }
