use Rattle.std.proofs.Common.{arith}
use Rattle.cell_line.proofs.StorageLemmas.{length_of_cells}
use Rattle.cell_line.proofs.row_writing.set_blanks.Goals as goal

pub set_blanks-requires-2-clause-within : goal.set_blanks-requires-2-clause-within
set_blanks-requires-2-clause-within c = let n = length_of_cells c.line.inside c.args.line.now c.line.view_is c.if-line.false in omega arith
