use Rattle.cell_edits.specs.VisibleCells.{first_column}
use Rattle.cell_views.specs.CellRefView.{cells_left}
use Rattle.screen_repaint.proofs.StretchLemmas.{stretch_written}
use Rattle.screen_repaint.proofs.fast.plain_cells.write_plain.Goals as goal

pub returns : goal.returns
returns c =
    stretch_written (first_column (cells_left c.args.cells.now)) c.in-Some.text.now c.in-Some.attrs.now c.args.writer.now c.push_plain.new.self c.args.most (cells_left c.args.cells.now) (cells_left c.pass_plain.new.self)
    c.in-Some.ensures.left c.in-Some.ensures.some.0 c.in-Some.ensures.some.1 c.in_ok-push_plain.ensures
