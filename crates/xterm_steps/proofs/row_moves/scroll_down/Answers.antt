use Rattle.std.proofs.Common.{◌≡◌, ◌+◌, ◌-◌, subst, arith}
use Rattle.cell_base.specs.Screen.{Screen}
use Rattle.cell_surface.specs.Surface.{shown_by}
use Rattle.xterm_table.specs.RowMoves.{in_column, rows_down}
use Rattle.xterm_steps.specs.Becomes.{Becomes}
use Rattle.xterm_steps.proofs.row_moves.scroll_down.Goals as goal

pub returns : goal.returns
returns g c =
    let s : Screen = (shown_by c.args.surface.now).screen in
    let order = c.requires.order in
    let size : c.args.bottom - c.args.top + 1 ≡ c.args.bottom + 1 - c.args.top = omega (arith, order) in
    subst (λ (new : Screen). Becomes (λ w. g.W.Widths.width_of w) c.args.surface.now new c.move_down.result c.move_down.new.surface)
    (λ i. in_column (c.cursor_position-column.ensures.column i) (rows_down c.args.top (size i) c.args.count s)) c.move_down.ensures
