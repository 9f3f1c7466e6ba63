use Rattle.std.proofs.Common.{◌∙◌, ap}
use Rattle.clustered_row.specs.VisibleCells.{cells_left, next_column, row_left}
use Rattle.clustered_row.proofs.CellRows.{lent_first, lent_last}
use Rattle.clustered_row.proofs.row.ClusteredRow.to_cells.Goals as goal

pub loop-cell-init : goal.loop-cell-init
loop-cell-init c =
    let same = c.into_iter-cell-iterator.ensures.into_iter_gives in
    lent_first c.new-cells.result.items c.args.self.now (row_left c.into_iter-cell-iterator.result) (next_column c.into_iter-cell-iterator.result) c.new-cells.ensures.items
    (ap row_left same ∙ c.visible_cells-cell-items.ensures.row) (ap next_column same ∙ c.visible_cells-cell-items.ensures.column) c.visible_cells-cell-items.ensures.whole

pub returns-clause-row : goal.returns-clause-row
returns-clause-row c =
    lent_last c.loop-cell.cells.items c.args.self.now (cells_left c.loop-cell.cell-iterator) c.in-None.ensures.steps.0 c.loop-cell.invariant c.visible_cells-cell-items.ensures.whole
