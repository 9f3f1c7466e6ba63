use Rattle.terminal.specs.Viewing.{standing_of}
use Rattle.terminal.proofs.ViewLemmas.{at_view, can_answer, counted_of, sound_of}
use Rattle.terminal.proofs.viewers.sessions_show_the_screen.Goals as goal

pub returns-clause-answers : goal.returns-clause-answers
returns-clause-answers g c = λ view count turns at answer sound stands lawful_turns.
    c.sessions_show_the_screen.ensures.answers (g.W.Widths.width_of c.args.terminal.now.surface.grid.widths) (standing_of c.args.terminal.now view) count turns at answer
    (can_answer (λ w. g.W.Widths.width_of w) c.args.terminal.now
    (at_view (λ w. g.W.Widths.width_of w) c.args.terminal.now
    (sound_of (λ w. g.W.Widths.width_of w) c.args.terminal.now (c.stands.ensures.stands sound) (c.stands.ensures.spelled sound))
    view stands)
    (counted_of (λ w. g.W.Widths.width_of w) c.args.terminal.now c.surface.result.now c.surface.ensures c.surfaces_stay_lawful.ensures.counted))
    lawful_turns

pub returns-clause-rounds : goal.returns-clause-rounds
returns-clause-rounds g c = λ view count turns answers sound stands lawful_turns.
    c.sessions_show_the_screen.ensures.rounds (g.W.Widths.width_of c.args.terminal.now.surface.grid.widths) (standing_of c.args.terminal.now view) count turns answers
    (can_answer (λ w. g.W.Widths.width_of w) c.args.terminal.now
    (at_view (λ w. g.W.Widths.width_of w) c.args.terminal.now
    (sound_of (λ w. g.W.Widths.width_of w) c.args.terminal.now (c.stands.ensures.stands sound) (c.stands.ensures.spelled sound))
    view stands)
    (counted_of (λ w. g.W.Widths.width_of w) c.args.terminal.now c.surface.result.now c.surface.ensures c.surfaces_stay_lawful.ensures.counted))
    lawful_turns
