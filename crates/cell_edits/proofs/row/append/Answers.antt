use Rattle.std.proofs.Common.{◌∙◌, ◌++◌, ap, arith}
use Rattle.cell_base.specs.CellContent.{row_of_cells}
use Rattle.cell_base.specs.Row.{Row}
use Rattle.cell_edits.proofs.CellLemmas.{row_joined}
use Rattle.cell_edits.proofs.CutLemmas.{whole_end, row_end}
use Rattle.cell_edits.proofs.row.append.Goals as goal

pub returns : goal.returns
returns c =
    let cells = c.args.cells.now.items in
    let x = c.cut_at.new.cells.items in
    ap row_of_cells c.in_ok-append.ensures.items
    ∙ row_joined x c.args.other.items (whole_end cells x c.len-len.result (omega arith) (omega arith) c.in_ok-cut_at.ensures.whole)
    ∙ ap (λ (r : Row). r ++ row_of_cells c.args.other.items) (row_end cells x c.len-len.result (omega arith) (omega arith) c.in_ok-cut_at.ensures.before)
