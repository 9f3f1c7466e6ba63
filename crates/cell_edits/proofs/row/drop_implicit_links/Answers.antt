use Rattle.std.proofs.Common.{arith}
use Rattle.cell_edits.specs.Links.{cell_without_implicit}
use Rattle.cell_edits.proofs.LinkLemmas.{mapped_done, mapped_rest}
use Rattle.cell_edits.proofs.row.drop_implicit_links.Goals as goal

pub loop-cell-preserved : goal.loop-cell-preserved
loop-cell-preserved c = record {
  done = mapped_done cell_without_implicit c.args.cells.now c.loop-cell.cells c.loop-cell.cell-index c.drop_implicit.new.cell c.cell-item.result (omega arith) c.loop-cell.auto.cells
      c.loop-cell.invariant.done c.loop-cell.invariant.rest c.drop_implicit.ensures;
  rest = mapped_rest c.args.cells.now c.loop-cell.cells c.loop-cell.cell-index c.drop_implicit.new.cell c.loop-cell.invariant.rest;
}
