use Rattle.std.proofs.Common.{◌∙◌, ◌-◌, ◌++◌, ap, refl, min, drop, take, length, replicate, List, arith}
use Rattle.cell_base.specs.Row.{Column, blank}
use Rattle.clustered_row.specs.VisibleColumns.{is_split}
use Rattle.clustered_row.proofs.BetweenLemmas.{split_within, blanks_between}
use Rattle.clustered_row.proofs.ShownLemmas.{length-shown}
use Rattle.clustered_row.proofs.row.ClusteredRow.cells_between.Goals as goal

pub between-requires-clause-first : goal.between-requires-clause-first
between-requires-clause-first c =
    let r = c.self.inside in
    split_within r.columns (replicate (r.width - length r.columns) (blank r.rest)) c.args.start c.min-from.result (c.min-from.ensures ∙ ap (min c.args.start) c.len-len.ensures.len) (ap (is_split c.args.start) c.self.view_is ∙ c.requires.first)

pub between-requires-clause-last : goal.between-requires-clause-last
between-requires-clause-last c =
    let r = c.self.inside in
    split_within r.columns (replicate (r.width - length r.columns) (blank r.rest)) c.args.stop c.min-to.result (c.min-to.ensures ∙ ap (min c.args.stop) c.len-len.ensures.len) (ap (is_split c.args.stop) c.self.view_is ∙ c.requires.last)

pub returns-clause-row : goal.returns-clause-row
returns-clause-row c =
    let r = c.self.inside in
    let from = c.min-from.result in
    let to = c.min-to.result in
    let blanks = c.args.stop - to - (c.args.start - from) in
    let long = length-shown r.columns r.width r.rest c.self.invariant in
    let same = ap (λ (x : List Column). length x) c.self.view_is in
    ap (λ (x : List Column). x ++ replicate blanks (blank r.rest)) c.between.ensures.row
    ∙ blanks_between r.columns (r.width - length r.columns) c.args.start c.args.stop from to blanks (blank r.rest) c.requires.order (omega (arith, long, same, c.requires.within, c.self.invariant))
    (c.min-from.ensures ∙ ap (min c.args.start) c.len-len.ensures.len) (c.min-to.ensures ∙ ap (min c.args.stop) c.len-len.ensures.len) refl
    ∙ ap (λ (x : List Column). drop c.args.start (take c.args.stop x)) c.self.view_is
