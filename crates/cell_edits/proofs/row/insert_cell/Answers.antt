use Rattle.std.proofs.Common.{◌≡◌, ◌∙◌, ◌-◌, ap, length, arith}
use Rattle.std.specs.Prelude.{nat_le, if◌then◌else◌}
use Rattle.std.specs.Global.{Vec}
use Rattle.cell_base.specs.declared.cell.Cell.{Cell}
use Rattle.cell_base.specs.CellContent.{row_of_cells}
use Rattle.cell_edits.specs.CellList.{cell_columns}
use Rattle.cell_edits.specs.RowEdits.{removed, inserted, padded}
use Rattle.cell_edits.proofs.CutLemmas.{margin_removed, margin_kept}
use Rattle.cell_edits.proofs.row.insert_cell.Goals as goal
use Rattle.cell_edits.proofs.row.insert_cell.Goals.{then-right_margin-len+in_ok-remove_column, else-right_margin-len}

pub returns : goal.returns
returns c =
    let cells = c.args.cells.now.items in
    let mid = c.if-right_margin-len.cells.items in
    let m = c.args.right_margin in
    let rest : row_of_cells mid ≡ (if nat_le m (length (row_of_cells cells)) then removed (m - 1) (row_of_cells cells) else row_of_cells cells) =
    elim c.if-right_margin-len.branch [
      | then-right_margin-len+in_ok-remove_column w ↦ margin_removed cells mid m (omega arith) (ap (λ (v : Vec Cell). row_of_cells v.items) w.cells-is ∙ w.in_ok-remove_column.ensures.row)
      | else-right_margin-len w ↦ margin_kept cells mid m (omega arith) (ap (λ (v : Vec Cell). v.items) w.cells-is)
    ] in
    c.in_ok-insert_columns.ensures ∙ ap (inserted c.args.x (cell_columns c.args.cell)) (c.in_ok-pad.ensures.row ∙ ap (padded c.args.x) rest)
