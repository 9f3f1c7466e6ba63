use Rattle.std.proofs.Common.{drop}
use Rattle.terminal.specs.Played.{AreStepSizes, history_of}
use Rattle.terminal.proofs.PlayLemmas.{IsPlayed}
use Rattle.terminal.proofs.steps.play.Given as goal

abbrev pub invariant-loop-step : goal.invariant-loop-step
invariant-loop-step g l = record {
  sizes : AreStepSizes (drop l.step-index l.steps);
  played : IsPlayed (λ w. g.W.Widths.width_of w) l.fn.widths l.fn.width l.fn.height (history_of l.steps) (history_of (drop l.step-index l.steps)) l.terminal;
}
