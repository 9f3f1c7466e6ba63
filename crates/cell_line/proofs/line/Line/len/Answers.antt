use Rattle.std.proofs.Common.{subst}
use Rattle.cell_base.specs.WholeRow.{IsWhole}
use Rattle.cell_line.proofs.line.Line.len.Goals as goal

pub returns-clause-whole : goal.returns-clause-whole
returns-clause-whole c = subst IsWhole c.stored_cells.ensures c.len.ensures.whole
