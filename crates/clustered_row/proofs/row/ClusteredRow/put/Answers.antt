use Rattle.std.proofs.Common.{◌∙◌, ◌-◌, ap, length, arith}
use Rattle.cell_base.specs.CellContent.{cell_of}
use Rattle.cell_base.specs.Row.{set_columns}
use Rattle.cell_edits.specs.CellList.{cell_columns}
use Rattle.clustered_row.proofs.CellRows.{first_whole}
use Rattle.clustered_row.proofs.ShownLemmas.{width_of_row}
use Rattle.clustered_row.proofs.row.ClusteredRow.put.Goals as goal

pub returns-clause-row : goal.returns-clause-row
returns-clause-row c =
    let r = c.self.inside in
    let width = width_of_row r.columns r.width r.rest c.args.self.now c.self.invariant c.self.view_is in
    let value = c.width-columns.ensures.value in
    c.in_ok-set_cell.ensures.done
    ∙ (λ i. set_columns c.args.self.now c.args.at (cell_columns (cell_of (c.str.ensures i) (value i) (c.attrs-2.ensures i))))
    ∙ ap (set_columns c.args.self.now c.args.at) (first_whole c.args.cell.now (length c.args.self.now - c.args.at) c.width-columns.ensures.lawful (omega (arith, width, value, c.if-self-at.false)))
