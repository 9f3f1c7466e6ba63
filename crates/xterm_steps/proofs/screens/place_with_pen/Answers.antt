use Rattle.std.proofs.Common.{refl, sym, ◌∙◌}
use Rattle.cell_base.specs.Screen.{Screen}
use Rattle.cell_surface.specs.Surface.{shown_by}
use Rattle.xterm_table.specs.Follows.{Follows}
use Rattle.xterm_steps.proofs.AddLemmas.{follows_itself, pen_follows}
use Rattle.xterm_steps.proofs.MoveLemmas.{cursor_led}
use Rattle.xterm_steps.proofs.screens.place_with_pen.Goals as goal

pub returns : goal.returns
returns g c =
    let s : Screen = (shown_by c.args.surface.now).screen in
    let width_of = g.W.Widths.width_of c.args.surface.now.grid.widths in
    let itself : Follows width_of s s = follows_itself width_of (shown_by c.args.surface.now) (c.surfaces_stay_lawful.ensures.lawful c.requires.stays) (c.surfaces_stay_lawful.ensures.cells c.requires.stays) in
    c.show.ensures (record s { column = c.args.column; row = c.args.row; pen = c.args.pen.now })
    (c.in_ok-changes.ensures ∙ sym (cursor_led s c.args.column c.args.row c.args.pen.now))
    (pen_follows width_of s s c.args.column c.args.row c.args.pen.now c.requires.column c.requires.row itself) refl
