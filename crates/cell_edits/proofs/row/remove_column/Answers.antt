use Rattle.std.proofs.Common.{◌∙◌, ◌+◌, ◌++◌, ap, take, drop}
use Rattle.cell_base.specs.CellContent.{row_of_cells}
use Rattle.cell_edits.proofs.CellLemmas.{row_joined}
use Rattle.cell_edits.proofs.row.remove_column.Goals as goal

pub returns-clause-row : goal.returns-clause-row
returns-clause-row c =
    let x = c.open.new.cells.items in
    ap row_of_cells c.remove-removed.ensures.by_index.2 ∙ row_joined (take c.args.at x) (drop (c.args.at + 1) x) c.in_ok-open.ensures.whole
    ∙ (λ i. c.in_ok-open.ensures.before i ++ c.in_ok-open.ensures.after i)
