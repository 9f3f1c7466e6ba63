use Rattle.std.proofs.Common.{◌≡◌, ◌<◌, ◌∙◌, zero, ap, sym, take, length, arith}
use Rattle.std.proofs.lemmas.List.{length-take-le}
use Rattle.cell_base.specs.CellContent.{row_of_cells}
use Rattle.cell_edits.specs.RowEdits.{pruned_row}
use Rattle.cell_edits.proofs.CellLemmas.{length-row}
use Rattle.cell_edits.proofs.CutLemmas.{row_end}
use Rattle.cell_edits.proofs.row.prune.Goals as goal

pub returns-then-width-eq0-clause-none : goal.returns-then-width-eq0-clause-none
returns-then-width-eq0-clause-none c _ =
    let same = row_end c.args.cells.now.items c.cut_at.new.cells.items c.len-len.result (omega arith) (omega arith) c.in_ok-cut_at.ensures.before in
    let none : c.pruned_width-width.result ≡ zero = c.if-width-eq0.true in (
      ap pruned_row (sym (ap row_of_cells c.deref.ensures.value ∙ same)) ∙ sym c.pruned_width-width.ensures.row ∙ ap (λ n. row_of_cells (take n c.deref.result.now)) none,
      same,
    )

pub returns-clause-some : goal.returns-clause-some
returns-clause-some c _ =
    let same = row_end c.args.cells.now.items c.cut_at.new.cells.items c.len-len.result (omega arith) (omega arith) c.in_ok-cut_at.ensures.before in
    let w = c.pruned_width-width.result in
    let kept : row_of_cells (take w c.deref.result.now) ≡ pruned_row (row_of_cells c.args.cells.now.items) = c.pruned_width-width.ensures.row ∙ ap pruned_row (ap row_of_cells c.deref.ensures.value ∙ same) in
    let n = length-row (take w c.deref.result.now) in
    let m = length-take-le w c.deref.result.now c.pruned_width-width.ensures.within in
    let k = ap length kept in
    let some : 0 < w = omega arith in (
      omega arith,
      ap row_of_cells (c.truncate.ensures.items ∙ ap (take w) (sym c.deref.ensures.value)) ∙ kept,
    )
