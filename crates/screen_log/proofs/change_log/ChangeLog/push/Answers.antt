use Rattle.std.proofs.Common.{◌≡◌, ◌+◌, ◌-◌, ◌≤◌, ◌++◌, ◌∷◌, [], List, length, drop, ap, ◌∙◌, arith}
use Rattle.std.specs.Prelude.{max}
use Rattle.screen_change.specs.ValueOf.{value_of}
use Rattle.screen_change.specs.declared.change.Change.{Change}
use Rattle.screen_log.specs.LogSteps.{Logged, Sized, step_of_kept}
use Rattle.screen_log.proofs.StoredLemmas.{pushed}
use Rattle.screen_log.proofs.change_log.ChangeLog.push.Goals as goal

pub returns-then-self-len-clause-done : goal.returns-then-self-len-clause-done
returns-then-self-len-clause-done c =
    let a = c.self.inside in
    let items = a.changes.items in
    let more = c.if-self-len.true in
    let kept = c.self.invariant.kept in
    let within : a.start ≤ length items = let g = c.self.invariant.half_dropped in omega arith in
    let len = c.push_reserved.ensures.len in
    let reserved = c.in_ok-reserve.ensures.len in
    let first : a.start + 1 ≡ max a.start (length items + 1 - a.most) = omega arith in
    let added = c.push_reserved.ensures.items ∙ ap (λ (xs : List Change). xs ++ c.args.change ∷ []) c.in_ok-reserve.ensures.items in
    let shown = c.drop_before.ensures.left ∙ ap (drop (a.start + 1)) added in
    let entries = pushed items a.start a.most within c.args.change (a.start + 1) (drop c.drop_before.new.start c.drop_before.new.changes.items) first shown in
    (λ i. record { most = a.most; log = record { number = a.number + 1; entries = entries i } })
    ∙ ap (λ (s : Sized). step_of_kept s (Logged (value_of c.args.change))) c.self.view_is
