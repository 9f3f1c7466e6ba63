use Rattle.std.proofs.Common.{ap, subst, sym, ◌∙◌}
use Rattle.std.specs.Prelude.{Option}
use Rattle.escape_stream.specs.declared.action.Action.{Action}
use Rattle.escape_stream.specs.ParserShown.{Parsing}
use Rattle.escape_stream.specs.Sequences.{Gives, actions_left}
use Rattle.escape_stream.proofs.AdvanceLemmas.{gives_action, gives_none, sequence_over, found_after}
use Rattle.escape_stream.proofs.pieces.Reading.find.Goals as goal

pub returns-in-Some : goal.returns-in-Some
returns-in-Some c =
    let n = c.in_ok-action.ensures in
    let i = c.loop-action.invariant in
    let p = c.loop-action.self.parser.now.parameters in
    record {
      same = n.remaining.same ∙ i.same;
      stage = n.remaining.stage ∙ i.stage;
      failed = ap (λ (x : Parsing). x.failed) n.remaining.parser ∙ i.failed;
      gives = gives_action c.args.self.now c.loop-action.self c.next_of_sequence.new.self c.in-Some.action i.goes n.remaining
          (subst (λ (x : Option Action). Gives (actions_left p c.loop-action.self.sequence) x (actions_left p c.next_of_sequence.new.self.sequence)) c.in-Some.is n.gives);
      memory = tt;
    }

pub returns-then-self : goal.returns-then-self
returns-then-self c =
    let n = c.in_ok-action.ensures in
    let i = c.loop-action.invariant in
    let p = c.loop-action.self.parser.now.parameters in
    let none = subst (λ (x : Option Action). Gives (actions_left p c.loop-action.self.sequence) x (actions_left p c.next_of_sequence.new.self.sequence)) c.in_default.is n.gives in
    record {
      same = n.remaining.same ∙ i.same;
      stage = n.remaining.stage ∙ i.stage;
      failed = ap (λ (x : Parsing). x.failed) n.remaining.parser ∙ i.failed;
      gives = gives_none c.args.self.now c.next_of_sequence.new.self (sequence_over c.args.self.now c.loop-action.self c.next_of_sequence.new.self i.goes n.remaining none (n.over c.in_default.is)) (n.over c.in_default.is) c.if-self.true;
      memory = tt;
    }

pub returns-then-is_some : goal.returns-then-is_some
returns-then-is_some c =
    let n = c.in_ok-action.ensures in
    let i = c.loop-action.invariant in
    let r = c.in_ok-piece.ensures in
    let p = c.loop-action.self.parser.now.parameters in
    let none = subst (λ (x : Option Action). Gives (actions_left p c.loop-action.self.sequence) x (actions_left p c.next_of_sequence.new.self.sequence)) c.in_default.is n.gives in
    let over = sequence_over c.args.self.now c.loop-action.self c.next_of_sequence.new.self i.goes n.remaining none (n.over c.in_default.is) in
    record {
      same = r.same ∙ n.remaining.same ∙ i.same;
      stage = r.stage ∙ n.remaining.stage ∙ i.stage;
      failed = r.failed;
      gives = found_after c.args.self.now c.next_of_sequence.new.self c.read.new.self c.in_ok-piece.piece over r.finds (sym c.is_some.ensures ∙ c.if-is_some.true);
      memory = tt;
    }
