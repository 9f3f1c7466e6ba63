use Rattle.std.proofs.Common.{◌≤◌, length, ap, sym, ◌∙◌, eqb-true, eq-eqb, arith}
use Rattle.screen_log.specs.LogSteps.{Sized}
use Rattle.screen_log.proofs.StoredLemmas.{none_left, all_dropped}
use Rattle.screen_log.proofs.change_log.ChangeLog.is_empty.Goals as goal

pub returns : goal.returns
returns c =
    let a = c.self.inside in
    let items = a.changes.items in
    let within : a.start ≤ length items = let g = c.self.invariant.half_dropped in omega arith in
    let len = c.len.ensures in
    let shown = ap (λ (s : Sized). s.log.entries) c.self.view_is in (
      λ t. sym shown ∙ none_left items a.start a.most within (let e = eqb-true a.start c.len.result t in omega arith),
      λ e. eq-eqb a.start c.len.result (let n = all_dropped items a.start a.most within (shown ∙ e) in omega arith),
    )
