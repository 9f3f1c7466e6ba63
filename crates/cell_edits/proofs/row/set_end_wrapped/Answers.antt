use Rattle.std.proofs.Common.{◌∙◌, ap, arith}
use Rattle.cell_edits.specs.VisibleCells.{mark_cell}
use Rattle.cell_edits.specs.CellList.{last_read}
use Rattle.cell_edits.proofs.EndLemmas.{end_set}
use Rattle.cell_edits.proofs.row.set_end_wrapped.Goals as goal

pub returns : goal.returns
returns c =
    let at = c.last_read-at.result in
    end_set c.args.cells.now.items at c.args.wrapped c.index_mut.result.now c.mark.new.cell (omega arith) (c.last_read-at.ensures.at ∙ ap last_read c.deref.ensures.value)
    (c.mark.ensures ∙ ap (mark_cell c.args.wrapped) c.index_mut.ensures.value)
