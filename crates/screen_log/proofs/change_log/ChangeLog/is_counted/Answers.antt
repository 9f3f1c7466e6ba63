use Rattle.std.proofs.Common.{◌≤◌, length, subst, arith}
use Rattle.screen_log.specs.LogSteps.{Sized}
use Rattle.screen_log.proofs.StoredLemmas.{count}
use Rattle.screen_log.proofs.change_log.ChangeLog.is_counted.Goals as goal

pub returns-clause-numbered : goal.returns-clause-numbered
returns-clause-numbered c =
    let a = c.self.inside in
    let kept = count a.changes.items a.start a.most (let g = c.self.invariant.half_dropped in omega arith) in
    let numbered = c.self.invariant.numbered in
    subst (λ (s : Sized). length s.log.entries ≤ s.log.number) c.self.view_is (omega arith)

pub returns-clause-most : goal.returns-clause-most
returns-clause-most c =
    let a = c.self.inside in
    let kept = count a.changes.items a.start a.most (let g = c.self.invariant.half_dropped in omega arith) in
    let most = c.self.invariant.kept in
    subst (λ (s : Sized). length s.log.entries ≤ s.most) c.self.view_is (omega arith)
