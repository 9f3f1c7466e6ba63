use Rattle.std.proofs.Common.{inl, inr, ap, ◌∙◌, arith}
use Rattle.screen_log.specs.LogSteps.{Sized}
use Rattle.screen_log.proofs.StoredLemmas.{some_kept}
use Rattle.screen_log.proofs.change_log.ChangeLog.resize.Goals as goal

pub overflow_add-self : goal.overflow_add-self
overflow_add-self c =
    let a = c.self.inside in
    let some = c.if-self-len.true in
    let number = ap (λ (s : Sized). s.log.number) c.self.view_is in
    elim c.requires [
      | inl e ↦ absurd (some_kept a.changes.items a.start (omega arith) (ap (λ (s : Sized). s.log.entries) c.self.view_is ∙ e))
      | inr h ↦ omega (arith, h, number)
    ]
