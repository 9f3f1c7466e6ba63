use Rattle.terminal.proofs.ViewLemmas.{sound_of, counted_of, shown_on}
use Rattle.terminal.proofs.viewers.terminals_go_on_being_shown.Goals as goal

pub returns-clause-history : goal.returns-clause-history
returns-clause-history g c = λ shown number now history sound sizes lawful within shows goes.
    shown_on (λ w. g.W.Widths.width_of w) c.viewers_go_on_showing.ensures.history c.args.terminal.now now shown number history
    (sound_of (λ w. g.W.Widths.width_of w) c.args.terminal.now (c.stands.ensures.stands sound) (c.stands.ensures.spelled sound))
    sizes lawful (counted_of (λ w. g.W.Widths.width_of w) c.args.terminal.now c.surface.result.now c.surface.ensures c.surfaces_stay_lawful.ensures.counted) within shows goes

pub returns-clause-seen : goal.returns-clause-seen
returns-clause-seen g c = λ sound.
    c.viewers_go_on_showing.ensures.seen (g.W.Widths.width_of c.args.terminal.now.surface.grid.widths) _ c.args.terminal.now.surface.log (counted_of (λ w. g.W.Widths.width_of w) c.args.terminal.now c.surface.result.now c.surface.ensures c.surfaces_stay_lawful.ensures.counted)
