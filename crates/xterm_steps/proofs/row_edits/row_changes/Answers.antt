use Rattle.std.proofs.Common.{◌<◌, ◌++◌, [], ◌∷◌, sym, ap, ◌∙◌, arith, List}
use Rattle.cell_base.specs.declared.attributes.Position.TheVariants.{Absolute}
use Rattle.cell_base.specs.Screen.{Screen, height}
use Rattle.cell_surface.specs.Differences.{lines_difference}
use Rattle.cell_surface.specs.Surface.{shown_by}
use Rattle.screen_change.specs.ChangeValue.{ChangeValue, AllAttributes, CursorPosition}
use Rattle.xterm_steps.proofs.AddLemmas.{with_row_led}
use Rattle.xterm_steps.proofs.row_edits.row_changes.Goals as goal

pub returns-clause-changes : goal.returns-clause-changes
returns-clause-changes g c =
    let s : Screen = (shown_by c.args.surface.now).screen in
    let row = c.cursor_position-row.ensures.row in
    let within = c.cursor_position-row.ensures.within c.requires.stays in
    let in_rows : s.row < height s = omega (arith, row, within) in
    c.in_ok-push_cursor.ensures
    ∙ ap (λ (changes : List ChangeValue). changes ++ CursorPosition (Absolute c.active_column-column.result) (Absolute c.cursor_position-row.result.1) ∷ AllAttributes c.pen.result.now ∷ []) c.in_ok-changes.ensures.changes
    ∙ (λ i. lines_difference (shown_by c.args.surface.now) (row i) (c.args.line.now.columns ∷ []) ++ CursorPosition (Absolute (c.active_column-column.ensures i)) (Absolute (row i)) ∷ AllAttributes (c.pen.ensures i) ∷ [])
    ∙ sym (with_row_led (g.W.Widths.width_of c.args.surface.now.grid.widths) s c.args.line.now.columns in_rows c.requires.follows)
