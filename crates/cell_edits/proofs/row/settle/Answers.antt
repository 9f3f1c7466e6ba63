use Rattle.std.proofs.Common.{◌≡◌, ◌+◌, ◌<◌, length, get_or, sym, ap, ◌∙◌, subst, arith}
use Rattle.std.proofs.lemmas.List.{get_or_default}
use Rattle.cell_base.specs.Attributes.{plain}
use Rattle.cell_base.specs.CellContent.{CellContent, blank_cell}
use Rattle.cell_edits.proofs.SettleLemmas.{IsSettled, settled_narrow, settled_put}
use Rattle.cell_edits.proofs.row.settle.Goals as goal
use Rattle.cell_edits.proofs.row.settle.Goals.{then-width-ge2+in_ok-settle_cell, else-width-ge2}

pub loop-at-preserved : goal.loop-at-preserved
loop-at-preserved c =
    let old = c.args.cells.now.items in
    let cells = c.loop-at.cells in
    let at = c.loop-at.at in
    let d : CellContent = blank_cell plain in
    let so_far : IsSettled at cells.items old = record { whole = c.loop-at.invariant.whole; row = c.loop-at.invariant.row; same = c.loop-at.invariant.same } in
    let within : at < length cells.items = omega (arith, c.loop-at-test.true, c.len.ensures, cells.ok.0) in
    let width : c.width.result ≡ (get_or cells.items at d).width =
    c.width.ensures.value ∙ ap (λ (x : CellContent). x.width) (c.index.ensures ∙ get_or_default cells.items at c.index.result.now d within) in
    elim c.if-width-ge2.branch [
      | then-width-ge2+in_ok-settle_cell w ↦
          let put = settled_put old cells.items at cells.len d cells.ok.0 within (omega arith) (omega arith) so_far in
          let next : IsSettled (c.if-width-ge2.at + 1) c.if-width-ge2.cells.items old =
          subst (λ (T : Type 0). T) (sym (λ i. IsSettled (w.at-is i + 1) (((ap (λ v. v.items) w.cells-is) ∙ w.in_ok-settle_cell.ensures.done) i) old)) put in
          record { whole = next.whole; row = next.row; same = next.same }
      | else-width-ge2 w ↦
          let kept = settled_narrow old cells.items at d within (omega arith) (omega arith) so_far in
          let next : IsSettled (c.if-width-ge2.at + 1) c.if-width-ge2.cells.items old =
          subst (λ (T : Type 0). T) (sym (λ i. IsSettled (w.at-is i + 1) (w.cells-is i).items old)) kept in
          record { whole = next.whole; row = next.row; same = next.same }
    ]
