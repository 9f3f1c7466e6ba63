use Rattle.std.proofs.Common.{ℕ, List, ap, sym, subst, ◌∙◌}
use Rattle.screen_grid.specs.Grid.{display_of}
use Rattle.cell_base.specs.Attributes.{Attributes}
use Rattle.screen_change.specs.CellChanges.{attributes_due}
use Rattle.screen_change.specs.Written.{begun}
use Rattle.cell_line.specs.LineContent.{LineContent}
use Rattle.screen_repaint.specs.PaintedRows.{AreFilled, rows_of, with_changes}
use Rattle.screen_repaint.specs.Repaint.{are_some, rows_painted, cursor_placed, cursor_shown, titles}
use Rattle.screen_repaint.proofs.ScreenLemmas.{filled, repainted}
use Rattle.screen_repaint.proofs.screen.repaint_from.Goals as goal

pub paint_rows-requires-clause-filled : goal.paint_rows-requires-clause-filled
paint_rows-requires-clause-filled g c =
    ap_filled
  where
    ap_filled : AreFilled (rows_of c.lines.result.now)
    ap_filled = subst (λ ls. AreFilled (rows_of ls)) (sym c.lines.ensures) (filled (rows_of c.args.grid.now.lines) c.args.grid.now.width c.requires.drawn.lawful.lawful.wide_enough c.requires.drawn.lawful.lawful.even c.requires.drawn.lawful.whole)

pub returns : goal.returns
returns g c =
    c.in_ok-changes.ensures
    ∙ repainted (display_of c.args.grid.now) c.args.also_empty c.new-writer.result c.write_clear.new.writer c.write_titles.new.writer c.paint_rows.new.writer c.write_position.new.writer c.write_pen.new.writer c.write_cursor.new.writer c.in_ok-painted.painted
    (c.new-writer.ensures ∙ ap begun c.requires.plain)
    c.in_ok-write_clear.ensures
    (c.in_ok-write_titles.ensures ∙ ap (λ (t : List ℕ). with_changes (titles c.args.also_empty t) c.write_clear.new.writer) c.title.ensures)
    (c.in_ok-painted.ensures.written ∙ ap (λ (ls : List LineContent). with_changes (rows_painted c.write_titles.new.writer.pen (rows_of ls)) c.write_titles.new.writer) c.lines.ensures)
    (c.in_ok-painted.ensures.any ∙ ap (λ (ls : List LineContent). are_some (rows_painted c.write_titles.new.writer.pen (rows_of ls))) c.lines.ensures)
    (c.in_ok-write_position.ensures ∙ (λ i. with_changes (cursor_placed c.in_ok-painted.painted (c.cursor_position.ensures.column i) (c.cursor_position.ensures.row i)) c.paint_rows.new.writer))
    (c.in_ok-write_pen.ensures ∙ ap (λ (a : Attributes). with_changes (attributes_due c.write_position.new.writer.pen a) c.write_position.new.writer) c.pen-pen.ensures)
    (c.in_ok-write_cursor.ensures ∙ (λ i. with_changes (cursor_shown (c.cursor_visibility.ensures i) (c.cursor_shape.ensures i)) c.write_pen.new.writer))
