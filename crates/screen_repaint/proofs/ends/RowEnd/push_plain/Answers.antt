use Rattle.std.proofs.Common.{arith}
use Rattle.cell_edits.specs.VisibleCells.{first_column}
use Rattle.cell_views.specs.CellRefView.{cells_left}
use Rattle.screen_repaint.proofs.StretchLemmas.{blanks_within, stretch_count, stretch_ends, text_pushed}
use Rattle.screen_repaint.proofs.ends.RowEnd.push_plain.Goals as goal

pub overflow_sub-text : goal.overflow_sub-text
overflow_sub-text c = let within = blanks_within c.in_ok-text.text.now c.in_ok-text.attrs.now in let is = c.blanks_at_end-blanks.ensures in omega arith

pub push-requires : goal.push-requires
push-requires c =
    let within = blanks_within c.in_ok-text.text.now c.in_ok-text.attrs.now in
    let is = c.blanks_at_end-blanks.ensures in
    let all = stretch_count (first_column (cells_left c.args.cells.now)) c.in_ok-text.text.now c.in_ok-text.attrs.now (cells_left c.args.cells.now) (cells_left c.pass_plain.new.self) c.in_ok-text.ensures.left in
    omega arith

pub returns : goal.returns
returns c =
    stretch_ends (first_column (cells_left c.args.cells.now)) c.in_ok-text.text.now c.in_ok-text.attrs.now c.args.self.now c.push.new.self (cells_left c.args.cells.now) (cells_left c.pass_plain.new.self)
    c.in_ok-text.ensures.left c.in_ok-text.ensures.some.0
    (text_pushed c.in_ok-text.text.now c.in_ok-text.attrs.now c.args.self.now c.push.new.self c.blanks_at_end-blanks.result c.blanks_at_end-blanks.ensures c.push.ensures)
