use Rattle.std.proofs.Common.{◌≤◌, ◌∙◌, length, ap, subst}
use Rattle.cell_edits.proofs.CellLemmas.{length-row}
use Rattle.cell_views.specs.StoredCells.{stored_row}
use Rattle.cell_views.proofs.region.RegionIter.new.Goals as goal

pub of_cells-requires-clause-within : goal.of_cells-requires-clause-within
of_cells-requires-clause-within c =
    let same = ap (λ s. length (stored_row s)) c.in-Cells.is ∙ length-row c.in-Cells.cells.now in
    subst (λ n. c.args.end ≤ n) same c.requires.within
