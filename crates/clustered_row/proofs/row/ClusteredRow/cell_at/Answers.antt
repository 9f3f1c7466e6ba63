use Rattle.std.proofs.Common.{◌∙◌, ◌-◌, ap, length, replicate, arith}
use Rattle.cell_base.specs.Row.{blank}
use Rattle.cell_edits.specs.VisibleCells.{cell_at}
use Rattle.clustered_row.proofs.AskedLemmas.{cell_before, blank_after, none_after}
use Rattle.clustered_row.proofs.ShownLemmas.{width_of_row}
use Rattle.clustered_row.proofs.row.ClusteredRow.cell_at.Goals as goal

pub returns-then-column-len : goal.returns-then-column-len
returns-then-column-len c =
    let r = c.self.inside in
    c.cell_at.ensures ∙ cell_before r.columns (replicate (r.width - length r.columns) (blank r.rest)) c.args.column (omega (arith, c.len.ensures.len, c.if-column-len.true)) ∙ ap (cell_at c.args.column) c.self.view_is

pub returns-then-self-column : goal.returns-then-self-column
returns-then-self-column c =
    let r = c.self.inside in
    let width = width_of_row r.columns r.width r.rest c.args.self.now c.self.invariant c.self.view_is in
    none_after c.args.self.now c.args.column (omega (arith, width, c.if-self-column.true))

pub returns : goal.returns
returns c =
    let r = c.self.inside in
    blank_after r.columns (r.width - length r.columns) c.args.column r.rest (omega (arith, c.len.ensures.len, c.if-column-len.false)) (omega (arith, c.len.ensures.len, c.if-column-len.false, c.if-self-column.false, c.self.invariant)) ∙ ap (cell_at c.args.column) c.self.view_is
