use Rattle.std.proofs.Common.{◌∙◌, sym, ap, subst, length}
use Rattle.cell_base.specs.WholeRow.{IsWhole}
use Rattle.cell_edits.proofs.CellLemmas.{length-row}
use Rattle.cell_edits.proofs.RowLaws.{whole_cells}
use Rattle.cell_views.specs.StoredCells.{stored_row}
use Rattle.cell_views.proofs.stored_cells.StoredCells.len.Goals as goal

pub returns-in-Cells-clause-value : goal.returns-in-Cells-clause-value
returns-in-Cells-clause-value c = sym (length-row c.in-Cells.cells.now) ∙ ap (λ s. length (stored_row s)) (sym c.in-Cells.is)

pub returns-in-Cells-clause-whole : goal.returns-in-Cells-clause-whole
returns-in-Cells-clause-whole c = subst (λ s. IsWhole (stored_row s)) (sym c.in-Cells.is) (whole_cells c.in-Cells.cells.now)
