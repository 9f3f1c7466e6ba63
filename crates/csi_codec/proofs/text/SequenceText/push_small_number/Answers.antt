use Rattle.std.proofs.Common.{◌+◌, ◌++◌, ◌≤◌, arith, ap, subst, sym, take, ◌∙◌, IsUtf8}
use Rattle.std.specs.Fmt.{decimal}
use Rattle.csi_codec.proofs.TextSteps.{small_put, small_stays, with_three, has_room}
use Rattle.csi_codec.proofs.text.SequenceText.push_small_number.Goals as goal

pub invariant_of-self : goal.invariant_of-self
invariant_of-self c =
    let room : c.self.inside.len + 3 ≤ 32 = has_room c.args.self.now c.self.inside.bytes c.self.inside.len 3 (sym c.self.view_is) (omega arith) c.requires in (
      omega arith,
      subst (λ k. ∥ IsUtf8 (take (c.self.inside.len + k) (with_three c.self.inside.bytes c.self.inside.len c.digits-first.result.0 c.digits-first.result.1 c.digits-first.result.2)) ∥₁)
          (sym c.digit_count.ensures.same)
          (small_stays c.self.inside.bytes c.self.inside.len c.args.number c.digits-first.result.0 c.digits-first.result.1 c.digits-first.result.2 (omega arith) (omega arith) c.digits-first.ensures c.self.invariant.1),
    )

pub returns-clause-text : goal.returns-clause-text
returns-clause-text c =
    let room : c.self.inside.len + 3 ≤ 32 = has_room c.args.self.now c.self.inside.bytes c.self.inside.len 3 (sym c.self.view_is) (omega arith) c.requires in
    ap (λ k. take (c.self.inside.len + k) (with_three c.self.inside.bytes c.self.inside.len c.digits-first.result.0 c.digits-first.result.1 c.digits-first.result.2)) c.digit_count.ensures.same
    ∙ small_put c.self.inside.bytes c.self.inside.len c.args.number c.digits-first.result.0 c.digits-first.result.1 c.digits-first.result.2 (omega arith) (omega arith) c.digits-first.ensures
    ∙ ap (λ it. it ++ decimal c.args.number) c.self.view_is
