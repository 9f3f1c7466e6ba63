use Rattle.std.proofs.Common.{arith}
use Rattle.cell_edits.proofs.CutLemmas.{whole_end, row_end}
use Rattle.cell_edits.proofs.row.close_end.Goals as goal

pub returns-clause-whole : goal.returns-clause-whole
returns-clause-whole c = whole_end c.args.cells.now.items c.cut_at.new.cells.items c.len-len.result (omega arith) (omega arith) c.in_ok-cut_at.ensures.whole

pub returns-clause-row : goal.returns-clause-row
returns-clause-row c = row_end c.args.cells.now.items c.cut_at.new.cells.items c.len-len.result (omega arith) (omega arith) c.in_ok-cut_at.ensures.before
