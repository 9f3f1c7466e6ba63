use Rattle.std.proofs.Common.{◌≡◌, ◌+◌, ◌-◌, ◌≤◌, length, drop, map, ap, subst, sym, ◌∙◌, arith}
use Rattle.screen_change.specs.ValueOf.{value_of}
use Rattle.screen_log.specs.Log.{forgotten}
use Rattle.screen_log.specs.LogSteps.{Sized}
use Rattle.screen_log.specs.LogView.{log_of}
use Rattle.screen_log.proofs.StoredLemmas.{forgotten_here, from_number}
use Rattle.screen_log.proofs.change_log.ChangeLog.forget_before.Goals as goal

pub returns-then-number-self : goal.returns-then-number-self
returns-then-number-self c =
    let a = c.self.inside in
    let items = a.changes.items in
    let number = c.args.number in
    let within : a.start ≤ length items = let g = c.self.invariant.half_dropped in omega arith in
    let numbered = c.self.invariant.numbered in
    let many : c.len.result ≡ length items = omega arith in
    let position = a.start + c.saturating_sub.result in
    let at : position ≡ a.start + (number - (a.number - (length items - a.start))) = ap (λ m. a.start + m) (c.saturating_sub.ensures ∙ ap (λ m. number - (a.number - (m - a.start))) many) in
    let shown = drop c.drop_before.new.start c.drop_before.new.changes.items in
    let entries = ap (map value_of) (c.drop_before.ensures.left ∙ ap (λ m. drop m items) at) ∙ from_number items a.start a.most within a.number number numbered in
    subst (λ (s : Sized). record { most = a.most; log = record { number = a.number; entries = map value_of shown } } ≡ record { most = s.most; log = forgotten number s.log }) c.self.view_is
    (λ i. record { most = a.most; log = (ap (λ es. record { number = a.number; entries = es }) entries ∙ sym (forgotten_here (log_of a).log number c.if-number-self.true)) i })
