use Rattle.std.proofs.Common.{◌≡◌, ℕ, ◌+◌, ◌-◌, ◌≤◌, List, length, take, drop, map, ap, sym, subst, ◌∙◌, arith, length-drop}
use Rattle.std.specs.Prelude.{Some, false, ◌==◌}
use Rattle.std.proofs.lemmas.Bool.Decides.{nat_tests}
use Rattle.std.proofs.lemmas.List.{take_all}
use Rattle.screen_change.specs.ChangeValue.{ChangeValue}
use Rattle.screen_change.specs.ValueOf.{value_of}
use Rattle.screen_change.specs.declared.change.Change.{Change}
use Rattle.screen_log.specs.Log.{due}
use Rattle.screen_log.specs.LogSteps.{Sized}
use Rattle.screen_log.specs.LogView.{log_of}
use Rattle.screen_log.proofs.StoredLemmas.{count, due_here, from_number}
use Rattle.screen_log.proofs.change_log.ChangeLog.due.Goals as goal

-- the changes from a position on
to_end : (at : ℕ) (changes : List Change) → take (length changes - at) (drop at changes) ≡ drop at changes
to_end at changes = take_all (length changes - at) (drop at changes) (let n = length-drop at changes in omega arith)

pub returns : goal.returns
returns c =
    let a = c.self.inside in
    let items = a.changes.items in
    let lent = c.deref.result.now in
    let number = c.args.number in
    let within : a.start ≤ length items = let g = c.self.invariant.half_dropped in omega arith in
    let numbered = c.self.invariant.numbered in
    let at = a.start + (number - (a.number - (length items - a.start))) in
    let at_len = a.start + (number - (a.number - (c.len.result - a.start))) in
    let many : c.len.result ≡ length items = omega arith in
    let position : at_len ≡ at = ap (λ n. a.start + (number - (a.number - (n - a.start)))) many in
    let n = count items a.start a.most within in
    let last = c.if-self-number.false in
    let first = c.if-number-first.false in
    let shown = ap (map value_of) (to_end at_len lent ∙ ap (drop at_len) c.deref.ensures.value ∙ ap (λ m. drop m items) position) ∙ from_number items a.start a.most within a.number number numbered in
    let nonzero : (number == 0) ≡ false = let z = c.if-number-eq0.false in grind (arith, nat_tests) in
    subst (λ (s : Sized). Some (map value_of (take (length lent - at_len) (drop at_len lent))) ≡ due s.most s.log number) c.self.view_is
    (ap (λ (es : List ChangeValue). Some es) shown ∙ sym (due_here a.most (log_of a).log number nonzero (omega arith) c.if-self-number.false c.if-self-number-2.false))
