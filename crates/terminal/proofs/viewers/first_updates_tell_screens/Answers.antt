use Rattle.terminal.proofs.ViewLemmas.{sound_of, first_tells}
use Rattle.terminal.proofs.viewers.first_updates_tell_screens.Goals as goal

pub returns : goal.returns
returns g c = λ sound other same wide tall bytes.
    first_tells (λ w. g.W.Widths.width_of w) c.viewers_read_updates.ensures.shown c.args.one.now c.args.other.now
    (sound_of (λ w. g.W.Widths.width_of w) c.args.one.now (c.stands.ensures.stands sound) (c.stands.ensures.spelled sound))
    (sound_of (λ w. g.W.Widths.width_of w) c.args.other.now (c.stands-2.ensures.stands other) (c.stands-2.ensures.spelled other))
    same wide tall bytes
