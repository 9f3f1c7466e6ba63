use Rattle.std.proofs.Common.{◌≡◌, ◌∙◌, ◌∷◌, ◌-◌, [], ap, length, arith}
use Rattle.std.specs.Prelude.{nat_lt, if◌then◌else◌}
use Rattle.std.specs.Global.{Vec}
use Rattle.cell_base.specs.declared.cell.Cell.{Cell}
use Rattle.cell_base.specs.CellContent.{CellContent, row_of_cells}
use Rattle.cell_base.specs.Row.{blank}
use Rattle.cell_edits.specs.CellList.{cell_columns}
use Rattle.cell_edits.specs.RowEdits.{removed, inserted}
use Rattle.cell_edits.proofs.CellLemmas.{length-row}
use Rattle.cell_edits.proofs.CutLemmas.{rest_removed, rest_kept, reaches, falls_short}
use Rattle.cell_edits.proofs.row.erase_within.Goals as goal
use Rattle.cell_edits.proofs.row.erase_within.Goals.{then-x-len+in_ok-remove_column, else-x-len}

pub returns-in_ok-insert_columns : goal.returns-in_ok-insert_columns
returns-in_ok-insert_columns c =
    let cells = c.args.cells.now.items in
    let mid = c.if-x-len.cells.items in
    let rest : row_of_cells mid ≡ (if nat_lt c.args.x (length (row_of_cells cells)) then removed c.args.x (row_of_cells cells) else row_of_cells cells) =
    elim c.if-x-len.branch [
      | then-x-len+in_ok-remove_column w ↦ rest_removed cells mid c.args.x (omega arith) (ap (λ (v : Vec Cell). row_of_cells v.items) w.cells-is ∙ w.in_ok-remove_column.ensures.row)
      | else-x-len w ↦ rest_kept cells mid c.args.x (omega arith) (ap (λ (v : Vec Cell). v.items) w.cells-is)
    ] in
    let n = length-row mid in
    let k = ap length rest in
    c.in_ok-insert_columns.ensures
    ∙ ap (λ (b : CellContent). inserted (c.args.right_margin - 1) (cell_columns b) (row_of_cells mid)) c.blank_with_attrs.ensures
    ∙ ap (inserted (c.args.right_margin - 1) (blank c.args.blank_attr ∷ [])) rest
    ∙ reaches _ c.args.right_margin c.args.blank_attr (omega arith)

pub returns-else-right_margin-len : goal.returns-else-right_margin-len
returns-else-right_margin-len c =
    let cells = c.args.cells.now.items in
    let mid = c.if-x-len.cells.items in
    let rest : row_of_cells mid ≡ (if nat_lt c.args.x (length (row_of_cells cells)) then removed c.args.x (row_of_cells cells) else row_of_cells cells) =
    elim c.if-x-len.branch [
      | then-x-len+in_ok-remove_column w ↦ rest_removed cells mid c.args.x (omega arith) (ap (λ (v : Vec Cell). row_of_cells v.items) w.cells-is ∙ w.in_ok-remove_column.ensures.row)
      | else-x-len w ↦ rest_kept cells mid c.args.x (omega arith) (ap (λ (v : Vec Cell). v.items) w.cells-is)
    ] in
    let n = length-row mid in
    let k = ap length rest in
    rest ∙ falls_short _ c.args.right_margin c.args.blank_attr (omega arith)
