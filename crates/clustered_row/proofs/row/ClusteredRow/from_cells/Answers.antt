use Rattle.std.proofs.Common.{◌∙◌, ◌+◌, ◌-◌, ap, length, subst, sym}
use Rattle.cell_base.specs.CellContent.{CellContent}
use Rattle.cell_base.specs.Row.{Row, set_columns}
use Rattle.clustered_row.specs.FirstCells.{first_columns}
use Rattle.clustered_row.proofs.CellRows.{LeadsTo, put_first, put_last, put_next}
use Rattle.clustered_row.proofs.row.ClusteredRow.from_cells.Goals as goal

pub loop-at-init : goal.loop-at-init
loop-at-init c = subst (λ (r : Row). LeadsTo c.args.cells.now r 0) (sym c.new-row.ensures) (put_first c.args.cells.now)

pub loop-at-preserved : goal.loop-at-preserved
loop-at-preserved c =
    let row = c.loop-at.row in
    let at = c.loop-at.at in
    let room = length row - at in
    put_next c.args.cells.now row c.put.new.self at c.in_ok-at.at c.index-cells-at.result c.loop-at.invariant c.loop-at-test.true
    (c.in_ok-at.ensures.row ∙ ap (λ (cell : CellContent). set_columns row at (first_columns cell room)) c.index-cells-at.is)
    (c.in_ok-at.ensures.next ∙ ap (λ (cell : CellContent). at + length (first_columns cell room)) c.index-cells-at.is)

pub returns : goal.returns
returns c = put_last c.args.cells.now c.loop-at.row c.loop-at.at c.loop-at.invariant c.loop-at-test.false
