use Rattle.std.proofs.Common.{◌≡◌, ◌∙◌, inl, inr, refl, sym, arith, rules}
use Rattle.escape_framing.specs.Held.{nothing_held}
use Rattle.escape_framing.proofs.CommandLemmas.{reads_command}
use Rattle.escape_framing.proofs.framer.Framer.whole_command.Goals as goal

pub returns-in-7 : goal.returns-in-7
returns-in-7 c =
    let h : c.args.self.now.held ≡ nothing_held = search rules in
    reads_command c.args.self.now c.args.bytes.now c.in_ok-remaining.remaining.now c.body_of-body.result.now c.in_ok-byte.field-0-1.now c.in_ok-byte.byte.now 1 _ h c.in_ok-remaining.ensures c.body_of-body.ensures
    (sym c.after.ensures ∙ c.in_ok-byte.ensures.cases.0) (inl (c.in-7.is, refl)) (omega arith)

pub returns-in-27 : goal.returns-in-27
returns-in-27 c =
    let h : c.args.self.now.held ≡ nothing_held = search rules in
    reads_command c.args.self.now c.args.bytes.now c.in_ok-remaining.remaining.now c.body_of-body.result.now c.in_ok-byte.field-0-1.now c.in_ok-byte.byte.now 0 _ h c.in_ok-remaining.ensures c.body_of-body.ensures
    (sym c.after.ensures ∙ c.in_ok-byte.ensures.cases.0) (inr (c.in-27.is, refl)) (omega arith)
