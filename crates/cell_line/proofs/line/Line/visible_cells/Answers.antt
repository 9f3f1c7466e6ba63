use Rattle.std.proofs.Common.{◌∙◌, ap, subst}
use Rattle.cell_base.specs.WholeRow.{IsWhole}
use Rattle.cell_edits.specs.VisibleCells.{visible_from, row_of_visible}
use Rattle.cell_edits.proofs.RowLaws.{row_again}
use Rattle.cell_line.proofs.line.Line.visible_cells.Goals as goal

pub returns-clause-row : goal.returns-clause-row
returns-clause-row c =
    let whole = subst IsWhole c.stored_cells.ensures c.new.ensures.whole in
    ap row_of_visible (c.new.ensures.value ∙ ap (visible_from 0) c.stored_cells.ensures) ∙ row_again 0 c.args.self.now.columns whole
