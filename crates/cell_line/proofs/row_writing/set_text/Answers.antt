use Rattle.std.proofs.Common.{arith}
use Rattle.cell_views.proofs.RegionLemmas.{clusters_left}
use Rattle.cell_line.proofs.StorageLemmas.{length_of_cells}
use Rattle.cell_line.proofs.row_writing.set_text.Goals as goal

pub set_text-requires-2-clause-within : goal.set_text-requires-2-clause-within
set_text-requires-2-clause-within g c = let n = length_of_cells c.line.inside c.args.line.now c.line.view_is c.if-line.false in omega arith

pub returns-then-line-clause-rest : goal.returns-then-line-clause-rest
returns-then-line-clause-rest g c = clusters_left _ c.args.text.now c.in_ok-at.left.now c.utf8.text c.in_ok-at.ensures.left

pub returns-clause-rest : goal.returns-clause-rest
returns-clause-rest g c = clusters_left _ c.args.text.now c.in_ok-at-2.left.now c.utf8.text c.in_ok-at-2.ensures.left
