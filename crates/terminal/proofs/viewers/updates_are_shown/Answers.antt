use Rattle.terminal.proofs.ViewLemmas.{sound_of, update_shown, update_idle}
use Rattle.terminal.proofs.viewers.updates_are_shown.Goals as goal

pub returns-clause-shown : goal.returns-clause-shown
returns-clause-shown g c = λ number after can goes.
    update_shown (λ w. g.W.Widths.width_of w) c.args.terminal.now c.args.viewer.now after number
    (sound_of (λ w. g.W.Widths.width_of w) c.args.terminal.now (c.stands.ensures.stands can.sound) (c.stands.ensures.spelled can.sound))
    (sound_of (λ w. g.W.Widths.width_of w) c.args.viewer.now (c.stands-2.ensures.stands can.reads) (c.stands-2.ensures.spelled can.reads))
    can.idle can.plain can.widths can.shows goes c.viewers_read_updates.ensures.shown

pub returns-clause-idle : goal.returns-clause-idle
returns-clause-idle g c = λ number after can goes.
    update_idle (λ w. g.W.Widths.width_of w) c.args.terminal.now c.args.viewer.now after number
    (sound_of (λ w. g.W.Widths.width_of w) c.args.terminal.now (c.stands.ensures.stands can.sound) (c.stands.ensures.spelled can.sound))
    (sound_of (λ w. g.W.Widths.width_of w) c.args.viewer.now (c.stands-2.ensures.stands can.reads) (c.stands-2.ensures.spelled can.reads))
    can.idle can.plain can.widths can.shows goes c.viewers_read_updates.ensures.idle
