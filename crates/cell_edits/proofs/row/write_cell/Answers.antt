use Rattle.std.proofs.Common.{◌≡◌, ◌∙◌, ◌+◌, ap, sym, take, drop, set, length, arith}
use Rattle.std.specs.Global.{Vec}
use Rattle.cell_base.specs.declared.cell.Cell.{Cell}
use Rattle.cell_base.specs.CellContent.{row_of_cells}
use Rattle.cell_edits.specs.RowEdits.{cut_prefix}
use Rattle.cell_edits.proofs.CutLemmas.{between_narrow, between_wide, set_one, set_two, count_wide, count_narrow, columns_narrow}
use Rattle.cell_edits.proofs.row.write_cell.Goals as goal
use Rattle.cell_edits.proofs.row.write_cell.Goals.{then-count-eq2, else-count-eq2}

pub returns-clause-row : goal.returns-clause-row
returns-clause-row c =
    let x = c.open.new.cells.items in
    let r = row_of_cells c.args.cells.now.items in
    let count = c.column_count-count.ensures in
    elim c.if-count-eq2.branch [
      | then-count-eq2 w ↦
          ap row_of_cells (c.put-2.ensures ∙ ap (λ l. set l c.args.at c.args.cell) (ap (λ (v : Vec Cell). v.items) w.cells-is ∙ w.put.ensures) ∙ set_two x c.args.at c.args.cell w.blank.result (omega arith))
          ∙ between_wide (take c.args.at x) (drop (c.args.at + 2) x) c.args.cell w.blank.result _ _ c.in_ok-open.ensures.whole c.in_ok-open.ensures.before
          (ap (λ n. row_of_cells (drop (c.args.at + n) x)) (sym w.if-count-eq2.true) ∙ c.in_ok-open.ensures.after ∙ ap (λ n. cut_prefix (c.args.at + n) r) count)
          (count_wide c.args.cell (sym count ∙ w.if-count-eq2.true))
      | else-count-eq2 w ↦
          let narrow = count_narrow c.args.cell (λ e. w.if-count-eq2.false (count ∙ e)) in
          let one : c.column_count-count.result ≡ 1 = count ∙ ap length (columns_narrow c.args.cell narrow) in
          ap row_of_cells (c.put-2.ensures ∙ ap (λ l. set l c.args.at c.args.cell) (ap (λ (v : Vec Cell). v.items) w.cells-is) ∙ set_one x c.args.at c.args.cell (omega arith))
          ∙ between_narrow (take c.args.at x) (drop (c.args.at + 1) x) c.args.cell _ _ c.in_ok-open.ensures.whole c.in_ok-open.ensures.before
          (ap (λ n. row_of_cells (drop (c.args.at + n) x)) (sym one) ∙ c.in_ok-open.ensures.after ∙ ap (λ n. cut_prefix (c.args.at + n) r) count)
          narrow
    ]
