use Rattle.std.proofs.Common.{◌∙◌, ◌++◌, ◌∷◌, [], ap, arith}
use Rattle.cell_base.specs.Attributes.{plain}
use Rattle.cell_base.specs.CellContent.{CellContent, row_of_cells, blank_cell}
use Rattle.cell_base.specs.Row.{Row, plain_row}
use Rattle.cell_edits.proofs.CellLemmas.{row_joined}
use Rattle.cell_edits.proofs.CutLemmas.{whole_end, row_end}
use Rattle.cell_edits.proofs.row.erase_column.Goals as goal

pub returns : goal.returns
returns c =
    let cells = c.remove_column.new.cells.items in
    let x = c.cut_at.new.cells.items in
    ap row_of_cells (c.in_ok-push.ensures.items ∙ ap (λ (b : CellContent). x ++ b ∷ []) c.blank.ensures)
    ∙ row_joined x (blank_cell plain ∷ []) (whole_end cells x c.len-len.result (omega arith) (omega arith) c.in_ok-cut_at.ensures.whole)
    ∙ ap (λ (r : Row). r ++ plain_row 1) (row_end cells x c.len-len.result (omega arith) (omega arith) c.in_ok-cut_at.ensures.before ∙ c.in_ok-remove_column.ensures.row)
