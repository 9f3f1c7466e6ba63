use Rattle.std.proofs.Common.{◌≡◌, ◌∙◌, zero, ap, sym, take, arith}
use Rattle.cell_base.specs.Attributes.{plain}
use Rattle.cell_base.specs.CellContent.{CellContent, row_of_cells, blank_cell}
use Rattle.cell_base.specs.Row.{Narrow}
use Rattle.cell_edits.specs.RowEdits.{is_plain_blank, pruned_row}
use Rattle.cell_edits.proofs.EndLemmas.{prune_step, prune_end, prune_end_wide}
use Rattle.cell_edits.proofs.row.pruned_width.Goals as goal

pub loop-width-preserved : goal.loop-width-preserved
loop-width-preserved c =
    let whole = sym c.is_split.ensures ∙ c.if-not-is_split.true in
    record {
      within = omega arith;
      whole = whole;
      same = prune_step c.args.cells.now c.loop-width.width c.index-cells-width.result (omega arith) (omega arith) c.loop-width.invariant.whole whole
          (ap (λ (x : CellContent). is_plain_blank (Narrow x.text x.attributes)) (sym c.index-cells-width.is) ∙ sym c.is_plain_blank.ensures ∙ c.if-is_plain_blank.true)
          ∙ c.loop-width.invariant.same;
    }

pub returns-else-is_plain_blank-clause-row : goal.returns-else-is_plain_blank-clause-row
returns-else-is_plain_blank-clause-row c =
    prune_end c.args.cells.now c.loop-width.width c.index-cells-width.result (omega arith) (omega arith) c.loop-width.invariant.whole (sym c.is_split.ensures ∙ c.if-not-is_split.true)
    (ap (λ (x : CellContent). is_plain_blank (Narrow x.text x.attributes)) (sym c.index-cells-width.is) ∙ sym c.is_plain_blank.ensures ∙ c.if-is_plain_blank.false)
    ∙ c.loop-width.invariant.same

pub returns-else-not-is_split-clause-row : goal.returns-else-not-is_split-clause-row
returns-else-not-is_split-clause-row c =
    prune_end_wide c.args.cells.now c.loop-width.width (blank_cell plain) (omega arith) (omega arith) (sym c.is_split.ensures ∙ c.if-not-is_split.false) ∙ c.loop-width.invariant.same

pub returns-after-loop-width-clause-row : goal.returns-after-loop-width-clause-row
returns-after-loop-width-clause-row c =
    let none : c.loop-width.width ≡ zero = omega arith in
    ap (λ n. row_of_cells (take n c.args.cells.now)) none ∙ sym (ap (λ n. pruned_row (row_of_cells (take n c.args.cells.now))) none) ∙ c.loop-width.invariant.same
