use Rattle.std.proofs.Common.{arith}
use Rattle.cell_edits.proofs.CutLemmas.{pad_row, pad_none}
use Rattle.cell_edits.proofs.row.pad.Goals as goal

pub returns-in_ok-push_blanks-clause-row : goal.returns-in_ok-push_blanks-clause-row
returns-in_ok-push_blanks-clause-row c =
    pad_row c.args.cells.now.items c.cut_at.new.cells.items c.push_blanks.new.cells.items c.len-len.result c.args.width (omega arith) (omega arith)
    c.in_ok-cut_at.ensures.whole c.in_ok-cut_at.ensures.before c.in_ok-push_blanks.ensures

pub returns-else-len-width-clause-row : goal.returns-else-len-width-clause-row
returns-else-len-width-clause-row c = pad_none c.args.cells.now.items c.args.width (omega arith)
