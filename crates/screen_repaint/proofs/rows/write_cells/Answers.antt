use Rattle.std.proofs.Common.{take}
use Rattle.screen_change.specs.Written.{with_cells}
use Rattle.cell_views.specs.CellRefView.{cells_left}
use Rattle.screen_repaint.specs.Repaint.{row_cells}
use Rattle.screen_repaint.proofs.StretchLemmas.{all_is_written}
use Rattle.screen_repaint.proofs.rows.write_cells.Goals as goal

pub returns-then-written-eq0 : goal.returns-then-written-eq0
returns-then-written-eq0 c =
    all_is_written c.loop-written.writer c.write_next.new.writer (with_cells c.args.writer.now (take c.args.count (row_cells c.args.line.now.columns))) c.loop-written.left c.in_ok-written.written
    (cells_left c.loop-written.cells) (cells_left c.write_next.new.cells) c.in_ok-written.ensures c.if-written-eq0.true c.loop-written.invariant
