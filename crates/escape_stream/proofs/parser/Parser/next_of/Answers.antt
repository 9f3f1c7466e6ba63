use Rattle.std.proofs.Common.{◌≡◌, Bool, true, false, Option, Some, sym, ap, subst, ◌∙◌, rules}
use Rattle.std.specs.Prelude.{is_none}
use Rattle.escape_stream.specs.Sequences.{Gives, actions_left}
use Rattle.escape_stream.specs.declared.sequence.Sequence.{Sequence}
use Rattle.escape_stream.proofs.AdvanceLemmas.{gives_left}
use Rattle.escape_stream.proofs.parser.Parser.next_of.Goals as goal
use Rattle.escape_stream.proofs.parser.Parser.next_of.Goals.{then-is_none, then-is_none-via-then-is_none, then-is_none-via-else-is_none+then-is_over, else-is_none+else-is_over}

separate : {b : Bool} → b ≡ true → b ≡ false → ⊥
separate t f = cc

pub returns-clause-gives : goal.returns-clause-gives
returns-clause-gives c =
    let p = c.args.self.now.parameters in
    let tokens : p.tokens ≡ c.parameters-parameters.result.now = search rules in
    let truncated : p.truncated ≡ c.parameters_truncated-truncated.result = search rules in
    let old : c.args.sequence.now ≡ Some c.in-Some.left = search rules in
    let gives = c.in_ok-action.ensures.gives p tokens truncated in
    let left : is_none c.in_ok-action.action ≡ false → actions_left p (Some c.next.new.self) ≡ actions_left p c.if-is_none.sequence
    = λ some. elim c.if-is_none.branch [
      | then-is_none w ↦ elim w.then-is_none.branch [
        | then-is_none-via-then-is_none v ↦ let none : is_none c.in_ok-action.action ≡ true = search rules in absurd (separate none some)
        | then-is_none-via-else-is_none+then-is_over v ↦ v.is_over.ensures p tokens v.if-is_over.true ∙ ap (actions_left p) (sym w.sequence-is)
      ]
      | else-is_none+else-is_over w ↦ ap (actions_left p) (sym w.sequence-is)
    ] in
    gives_left (actions_left p c.args.sequence.now) (actions_left p (Some c.next.new.self)) (actions_left p c.if-is_none.sequence) c.in_ok-action.action
    (subst (λ (s : Option Sequence). Gives (actions_left p s) c.in_ok-action.action (actions_left p (Some c.next.new.self))) (sym old) gives) left
