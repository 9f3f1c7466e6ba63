use Rattle.std.proofs.Common.{◌≡◌, ℕ, [], inl, inr, sym, subst, arith}
use Rattle.escape_framing.specs.Held.{InEscape, steps, character_step}
use Rattle.escape_framing.proofs.FirstLemmas.{first_escape, first_print, first_control, first_waits, first_stray}
use Rattle.escape_framing.proofs.characters.first.Goals as goal

pub returns-in-27 : goal.returns-in-27
returns-in-27 c = sym (subst (λ (b : ℕ). character_step [] b ≡ steps [] (InEscape [])) (sym c.in-27.is) first_escape)

pub returns-in-32-to-126 : goal.returns-in-32-to-126
returns-in-32-to-126 c = sym (first_print c.args.byte (omega arith) (omega arith))

pub returns-in-194-to-244 : goal.returns-in-194-to-244
returns-in-194-to-244 c = sym (first_waits c.args.byte (omega arith) (omega arith))

pub returns-in_default : goal.returns-in_default
returns-in_default c = sym (first_stray c.args.byte (omega arith) (inl (omega arith)))

pub returns-in_default-2 : goal.returns-in_default-2
returns-in_default-2 c = sym (first_stray c.args.byte (omega arith) (inr (omega arith)))

pub returns-in-0-to-31 : goal.returns-in-0-to-31
returns-in-0-to-31 c = sym (first_control c.args.byte (inr (omega arith)) (λ e. omega arith))

pub returns-in-0-to-31-2 : goal.returns-in-0-to-31-2
returns-in-0-to-31-2 c = sym (first_control c.args.byte (inl (omega arith)) (λ e. omega arith))
