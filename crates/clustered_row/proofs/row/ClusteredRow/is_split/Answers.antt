use Rattle.std.proofs.Common.{◌∙◌, ◌-◌, sym, ap, length, replicate, arith}
use Rattle.std.proofs.lemmas.Bool.{le-ltb}
use Rattle.cell_base.specs.Row.{blank}
use Rattle.clustered_row.specs.VisibleColumns.{is_split}
use Rattle.clustered_row.proofs.AskedLemmas.{split_before, split_after}
use Rattle.clustered_row.proofs.CellRows.{whole_shown}
use Rattle.clustered_row.proofs.row.ClusteredRow.is_split.Goals as goal

pub returns-then-column-len-clause-value : goal.returns-then-column-len-clause-value
returns-then-column-len-clause-value c =
    let r = c.self.inside in
    c.is_split.ensures ∙ sym (split_before r.columns (replicate (r.width - length r.columns) (blank r.rest)) c.args.column (omega (arith, c.len.ensures.len, c.if-column-len.true))) ∙ ap (is_split c.args.column) c.self.view_is

pub returns-else-column-len-clause-value : goal.returns-else-column-len-clause-value
returns-else-column-len-clause-value c =
    let r = c.self.inside in
    le-ltb c.args.column c.len.result (omega arith) ∙ sym (split_after r.columns (r.width - length r.columns) c.args.column r.rest (omega (arith, c.len.ensures.len, c.if-column-len.false))) ∙ ap (is_split c.args.column) c.self.view_is

pub returns-then-column-len-clause-whole : goal.returns-then-column-len-clause-whole
returns-then-column-len-clause-whole c =
    let r = c.self.inside in
    whole_shown r.columns (r.width - length r.columns) r.rest c.args.self.now c.len.ensures.whole c.self.view_is

pub returns-else-column-len-clause-whole : goal.returns-else-column-len-clause-whole
returns-else-column-len-clause-whole c =
    let r = c.self.inside in
    whole_shown r.columns (r.width - length r.columns) r.rest c.args.self.now c.len.ensures.whole c.self.view_is
