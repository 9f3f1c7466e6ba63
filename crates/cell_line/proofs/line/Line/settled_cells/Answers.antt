use Rattle.std.proofs.Common.{◌∙◌, false, ap}
use Rattle.cell_base.specs.CellContent.{row_of_cells}
use Rattle.cell_edits.specs.ShownCells.{lent_cells}
use Rattle.cell_line.proofs.StorageLemmas.{columns_by, same_lender}
use Rattle.cell_line.proofs.line.Line.settled_cells.Goals as goal

pub returns : goal.returns
returns c =
    let v = c.self.view_is in
    let columns = columns_by c.self.inside c.args.self.now v in (
      same_lender _ (λ i w. record { number = (v i).number; bits = (v i).bits; columns = row_of_cells w.items; clustered = false }),
      record { writes_back = tt; cells = (c.in_ok-settle.ensures.done ∙ ap lent_cells columns, c.in_ok-settle.ensures.row ∙ columns) },
    )
