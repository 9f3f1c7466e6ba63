use Rattle.terminal.proofs.ViewLemmas.{sound_of, rendered_shown, rendered_idle}
use Rattle.terminal.proofs.viewers.renderings_are_shown.Goals as goal

pub returns-clause-shown : goal.returns-clause-shown
returns-clause-shown g c = λ change actions after sound idle plain sent writable goes. rendered_shown (λ w. g.W.Widths.width_of w) c.args.viewer.now after change actions (sound_of (λ w. g.W.Widths.width_of w) c.args.viewer.now (c.stands.ensures.stands sound) (c.stands.ensures.spelled sound)) idle plain sent writable goes c.rendered_texts_have_the_effect.ensures.effect

pub returns-clause-idle : goal.returns-clause-idle
returns-clause-idle g c = λ change actions after sound idle plain sent writable goes. rendered_idle (λ w. g.W.Widths.width_of w) c.args.viewer.now after change actions (sound_of (λ w. g.W.Widths.width_of w) c.args.viewer.now (c.stands.ensures.stands sound) (c.stands.ensures.spelled sound)) idle plain sent writable goes c.rendered_texts_have_the_effect.ensures.idle
