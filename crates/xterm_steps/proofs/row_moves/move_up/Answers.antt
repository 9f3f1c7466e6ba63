use Rattle.std.proofs.Common.{refl}
use Rattle.cell_base.specs.Screen.{Screen}
use Rattle.cell_surface.specs.Surface.{shown_by}
use Rattle.xterm_table.specs.Follows.{Follows}
use Rattle.xterm_table.specs.RowMoves.{in_column, rows_up}
use Rattle.xterm_steps.proofs.AddLemmas.{column_follows, follows_itself}
use Rattle.xterm_steps.proofs.row_moves.move_up.Goals as goal

pub up_changes-requires-clause-follows : goal.up_changes-requires-clause-follows
up_changes-requires-clause-follows g c =
    let s : Screen = (shown_by c.args.surface.now).screen in
    let width_of = g.W.Widths.width_of c.args.surface.now.grid.widths in
    let itself : Follows width_of s s = follows_itself width_of (shown_by c.args.surface.now) (c.surfaces_stay_lawful.ensures.lawful c.requires.stays) (c.surfaces_stay_lawful.ensures.cells c.requires.stays) in
    column_follows width_of s (rows_up c.args.first c.args.size c.args.count s) c.args.column c.requires.column
    (c.row_moves_follow.ensures.up width_of s s c.args.first c.args.size c.args.count (g.met.W.Widths.space_is_one c.args.surface.now.grid.widths) itself)

pub returns : goal.returns
returns g c =
    let s : Screen = (shown_by c.args.surface.now).screen in
    let width_of = g.W.Widths.width_of c.args.surface.now.grid.widths in
    let itself : Follows width_of s s = follows_itself width_of (shown_by c.args.surface.now) (c.surfaces_stay_lawful.ensures.lawful c.requires.stays) (c.surfaces_stay_lawful.ensures.cells c.requires.stays) in
    let new : Screen = in_column c.args.column (rows_up c.args.first c.args.size c.args.count s) in
    c.show.ensures new c.in_ok-changes.ensures.changes
    (column_follows width_of s (rows_up c.args.first c.args.size c.args.count s) c.args.column c.requires.column
    (c.row_moves_follow.ensures.up width_of s s c.args.first c.args.size c.args.count (g.met.W.Widths.space_is_one c.args.surface.now.grid.widths) itself)) refl
