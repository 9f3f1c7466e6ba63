use Rattle.std.proofs.Common.{arith}
use Rattle.cell_line.proofs.StorageLemmas.{length_of_cells}
use Rattle.cell_line.proofs.row_writing.set_plain.Goals as goal

pub set_plain-requires-clause-within : goal.set_plain-requires-clause-within
set_plain-requires-clause-within c = let n = length_of_cells c.line.inside c.args.line.now c.line.view_is c.if-line.false in omega arith
