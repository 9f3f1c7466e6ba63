use Rattle.terminal.proofs.ViewLemmas.{patch_idle, patch_shown, sound_of}
use Rattle.terminal.proofs.viewers.patches_are_shown.Goals as goal

pub returns-clause-shown : goal.returns-clause-shown
returns-clause-shown g c = λ shown after can goes.
    patch_shown (λ w. g.W.Widths.width_of w) c.args.terminal.now c.args.viewer.now shown
    (sound_of (λ w. g.W.Widths.width_of w) c.args.terminal.now (c.stands.ensures.stands can.sound) (c.stands.ensures.spelled can.sound))
    (sound_of (λ w. g.W.Widths.width_of w) c.args.viewer.now (c.stands-2.ensures.stands can.reads) (c.stands-2.ensures.spelled can.reads))
    can c.viewers_read_patches.ensures.shown after goes

pub returns-clause-idle : goal.returns-clause-idle
returns-clause-idle g c = λ shown after can goes.
    patch_idle (λ w. g.W.Widths.width_of w) c.args.terminal.now c.args.viewer.now shown
    (sound_of (λ w. g.W.Widths.width_of w) c.args.terminal.now (c.stands.ensures.stands can.sound) (c.stands.ensures.spelled can.sound))
    (sound_of (λ w. g.W.Widths.width_of w) c.args.viewer.now (c.stands-2.ensures.stands can.reads) (c.stands-2.ensures.spelled can.reads))
    can c.viewers_read_patches.ensures.idle after goes
