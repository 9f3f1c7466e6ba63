use Rattle.std.proofs.Common.{◌∙◌, ap, sym, take, drop, arith}
use Rattle.std.specs.Global.{Vec}
use Rattle.std.specs.Prelude.{insert}
use Rattle.cell_base.specs.declared.cell.Cell.{Cell}
use Rattle.cell_base.specs.CellContent.{row_of_cells}
use Rattle.cell_edits.proofs.CutLemmas.{between_narrow, between_wide, insert_two, count_wide, count_narrow}
use Rattle.cell_edits.proofs.row.insert_columns.Goals as goal
use Rattle.cell_edits.proofs.row.insert_columns.Goals.{then-column_count-eq2+in_ok-insert, else-column_count-eq2}

pub returns : goal.returns
returns c =
    let x = c.open.new.cells.items in
    elim c.if-column_count-eq2.branch [
      | then-column_count-eq2+in_ok-insert w ↦
          ap row_of_cells (c.in_ok-insert-2.ensures.items ∙ ap (λ l. insert l c.args.at c.args.cell) (ap (λ (v : Vec Cell). v.items) w.cells-is ∙ w.in_ok-insert.ensures.items) ∙ insert_two x c.args.at c.args.cell w.blank.result (omega arith))
          ∙ between_wide (take c.args.at x) (drop c.args.at x) c.args.cell w.blank.result _ _ c.in_ok-open.ensures.whole c.in_ok-open.ensures.before c.in_ok-open.ensures.after (count_wide c.args.cell (sym c.column_count.ensures ∙ w.if-column_count-eq2.true))
      | else-column_count-eq2 w ↦
          ap row_of_cells (c.in_ok-insert-2.ensures.items ∙ ap (λ l. insert l c.args.at c.args.cell) (ap (λ (v : Vec Cell). v.items) w.cells-is))
          ∙ between_narrow (take c.args.at x) (drop c.args.at x) c.args.cell _ _ c.in_ok-open.ensures.whole c.in_ok-open.ensures.before c.in_ok-open.ensures.after (count_narrow c.args.cell (λ e. w.if-column_count-eq2.false (c.column_count.ensures ∙ e)))
    ]
