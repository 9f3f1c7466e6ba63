use Rattle.std.proofs.Common.{◌≡◌, ◌∙◌, ◌+◌, ap, sym, take, drop, set, length, arith}
use Rattle.std.specs.Global.{Vec}
use Rattle.cell_base.specs.declared.cell.Cell.{Cell}
use Rattle.cell_base.specs.CellContent.{row_of_cells, cell_of, blank_cell}
use Rattle.cell_edits.specs.RowEdits.{cut_prefix}
use Rattle.cell_edits.proofs.CutLemmas.{between_narrow, between_wide, set_one, set_two, count_wide, count_narrow, columns_narrow}
use Rattle.cell_edits.proofs.runs.write_cluster.Goals as goal
use Rattle.cell_edits.proofs.runs.write_cluster.Goals.{then-count-eq2+in_ok-put_blank, else-count-eq2}

pub returns-clause-row : goal.returns-clause-row
returns-clause-row c =
    let x = c.open.new.cells.items in
    let r = row_of_cells c.args.cells.now.items in
    let at = c.args.at in
    let a = c.args.attrs.now in
    let cell = cell_of c.args.cluster.now c.args.width a in
    let blank = blank_cell a in
    let count = c.cluster_columns-count.ensures a in
    let put = c.in_ok-put_cluster.ensures.items in
    elim c.if-count-eq2.branch [
      | then-count-eq2+in_ok-put_blank w ↦
          ap row_of_cells (put ∙ ap (λ l. set l at cell) (ap (λ (v : Vec Cell). v.items) w.cells-is ∙ w.in_ok-put_blank.ensures.items) ∙ set_two x at cell blank (omega arith))
          ∙ between_wide (take at x) (drop (at + 2) x) cell blank _ _ c.in_ok-open.ensures.whole c.in_ok-open.ensures.before
          (ap (λ n. row_of_cells (drop (at + n) x)) (sym w.if-count-eq2.true) ∙ c.in_ok-open.ensures.after ∙ ap (λ n. cut_prefix (at + n) r) count)
          (count_wide cell (sym count ∙ w.if-count-eq2.true))
      | else-count-eq2 w ↦
          let narrow = count_narrow cell (λ e. w.if-count-eq2.false (count ∙ e)) in
          let one : c.cluster_columns-count.result ≡ 1 = count ∙ ap length (columns_narrow cell narrow) in
          ap row_of_cells (put ∙ ap (λ l. set l at cell) (ap (λ (v : Vec Cell). v.items) w.cells-is) ∙ set_one x at cell (omega arith))
          ∙ between_narrow (take at x) (drop (at + 1) x) cell _ _ c.in_ok-open.ensures.whole c.in_ok-open.ensures.before
          (ap (λ n. row_of_cells (drop (at + n) x)) (sym one) ∙ c.in_ok-open.ensures.after ∙ ap (λ n. cut_prefix (at + n) r) count)
          narrow
    ]
