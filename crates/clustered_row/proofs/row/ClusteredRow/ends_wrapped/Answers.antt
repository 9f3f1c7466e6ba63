use Rattle.std.proofs.Common.{◌∙◌, ◌-◌, ap, length, List, arith}
use Rattle.cell_base.specs.Row.{Column}
use Rattle.cell_edits.specs.VisibleCells.{visible_cells, ends_wrapped}
use Rattle.clustered_row.proofs.AskedLemmas.{blank_wrapped, column_wrapped}
use Rattle.clustered_row.proofs.row.ClusteredRow.ends_wrapped.Goals as goal

pub returns-then-len-self : goal.returns-then-len-self
returns-then-len-self c =
    let r = c.self.inside in
    c.wrapped.ensures ∙ blank_wrapped r.columns (r.width - length r.columns) r.rest c.len-len.ensures.whole (omega (arith, c.len-len.ensures.len, c.if-len-self.true)) ∙ ap (λ (x : List Column). ends_wrapped (visible_cells x)) c.self.view_is

pub returns : goal.returns
returns c =
    let r = c.self.inside in
    c.wrapped-2.ensures
    ∙ column_wrapped r.columns (r.width - length r.columns) r.rest c.attributes_at.result.now (c.len-len.result - 1) c.len-len.ensures.whole
    (omega (arith, c.len-len.ensures.len, c.if-len-self.false, c.self.invariant)) (omega (arith, c.len-len.ensures.len, c.if-len-eq0.false)) c.attributes_at.ensures
    ∙ ap (λ (x : List Column). ends_wrapped (visible_cells x)) c.self.view_is
