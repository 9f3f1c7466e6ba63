use Rattle.terminal.proofs.ViewLemmas.{at_view, patch_plain, patch_printed, sound_of}
use Rattle.terminal.proofs.viewers.patches_print_the_fresh_cells.Goals as goal

pub returns-clause-prints : goal.returns-clause-prints
returns-clause-prints g c = λ shown view can stands.
    patch_printed (λ w. g.W.Widths.width_of w) c.args.terminal.now c.args.viewer.now shown
    (sound_of (λ w. g.W.Widths.width_of w) c.args.terminal.now (c.stands.ensures.stands can.sound) (c.stands.ensures.spelled can.sound))
    (at_view (λ w. g.W.Widths.width_of w) c.args.viewer.now
    (sound_of (λ w. g.W.Widths.width_of w) c.args.viewer.now (c.stands-2.ensures.stands can.reads) (c.stands-2.ensures.spelled can.reads))
    view stands)
    can c.patches_print_the_fresh_cells.ensures.prints

pub returns-clause-plain : goal.returns-clause-plain
returns-clause-plain g c = λ shown view can stands.
    patch_plain (λ w. g.W.Widths.width_of w) c.args.terminal.now c.args.viewer.now shown
    (sound_of (λ w. g.W.Widths.width_of w) c.args.terminal.now (c.stands.ensures.stands can.sound) (c.stands.ensures.spelled can.sound))
    (at_view (λ w. g.W.Widths.width_of w) c.args.viewer.now
    (sound_of (λ w. g.W.Widths.width_of w) c.args.viewer.now (c.stands-2.ensures.stands can.reads) (c.stands-2.ensures.spelled can.reads))
    view stands)
    can c.patches_print_the_fresh_cells.ensures.plain
