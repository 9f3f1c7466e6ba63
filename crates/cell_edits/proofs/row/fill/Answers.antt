use Rattle.std.proofs.Common.{◌≡◌, ◌∙◌, ◌-◌, ap, arith}
use Rattle.cell_base.specs.CellContent.{row_of_cells}
use Rattle.cell_edits.specs.RowEdits.{filled}
use Rattle.cell_edits.proofs.row.fill.Goals as goal

pub returns : goal.returns
returns c =
    let count : c.loop-at.at - c.args.start ≡ c.args.end - c.args.start = omega arith in
    c.loop-at.invariant.set ∙ ap (λ n. filled (row_of_cells c.reserve.new.self.items) c.args.start n c.args.cell.now) count
    ∙ ap (λ items. filled (row_of_cells items) c.args.start (c.args.end - c.args.start) c.args.cell.now) c.reserve.ensures.items
