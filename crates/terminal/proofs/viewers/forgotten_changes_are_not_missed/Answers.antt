use Rattle.terminal.proofs.ViewLemmas.{sound_of, counted_of, forgets_nothing, same_update}
use Rattle.terminal.proofs.viewers.forgotten_changes_are_not_missed.Goals as goal

pub returns-clause-state : goal.returns-clause-state
returns-clause-state g c = λ before now sound goes. forgets_nothing (λ w. g.W.Widths.width_of w) c.args.terminal.now now before (sound_of (λ w. g.W.Widths.width_of w) c.args.terminal.now (c.stands.ensures.stands sound) (c.stands.ensures.spelled sound)) goes

pub returns-clause-update : goal.returns-clause-update
returns-clause-update g c = λ before number now sound goes within.
    same_update (λ w. g.W.Widths.width_of w) c.forgotten_changes_are_not_due.ensures c.args.terminal.now now before number (sound_of (λ w. g.W.Widths.width_of w) c.args.terminal.now (c.stands.ensures.stands sound) (c.stands.ensures.spelled sound))
    (counted_of (λ w. g.W.Widths.width_of w) c.args.terminal.now c.surface.result.now c.surface.ensures c.surfaces_stay_lawful.ensures.counted) goes within
