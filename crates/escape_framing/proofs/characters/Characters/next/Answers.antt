use Rattle.std.proofs.Common.{ℕ, ◌+◌, take, set, sym, ap, subst, ◌∙◌, arith}
use Rattle.std.proofs.lemmas.Grind.{common_steps}
use Rattle.escape_framing.specs.Segment.{Begun, IsUnfinished}
use Rattle.escape_framing.specs.Held.{InCharacter, character_step}
use Rattle.escape_framing.specs.Event.{GoesOn}
use Rattle.escape_framing.specs.Characters.{Breaks}
use Rattle.escape_framing.proofs.CharacterLemmas.{take_set, prefix_one, filled, waits_unfinished, begun_more, waits_goes, whole_goes, begun_goes}
use Rattle.escape_framing.proofs.BreaksLemmas.{whole_goes_on, begun_goes_on, broken_breaks}
use Rattle.escape_framing.proofs.characters.Characters.next.Goals as goal

pub invariant_of-self : goal.invariant_of-self
invariant_of-self c = (omega arith, subst (λ l. IsUnfinished (Begun l)) (sym (prefix_one c.self.inside.bytes c.args.byte (omega arith))) (waits_unfinished c.args.byte c.in-Waits.ensures))

pub returns-in-Waits-clause-steps : goal.returns-in-Waits-clause-steps
returns-in-Waits-clause-steps c =
    waits_goes _ _ _ c.args.byte c.in-Waits.is (prefix_one c.self.inside.bytes c.args.byte (omega arith)) (sym c.self.view_is ∙ ap (λ (n : ℕ). take n c.self.inside.bytes) c.if-count-eq0.true) c.in-Waits.ensures

pub invariant_of-self-in-Begun : goal.invariant_of-self-in-Begun
invariant_of-self-in-Begun c =
    let d = c.self.inside in
    let e = take_set d.bytes d.count c.args.byte (omega arith) in
    let h = begun_more (take d.count d.bytes) (take (d.count + 1) (set d.bytes d.count c.args.byte)) c.args.byte c.self.invariant.1 e c.in-Begun.ensures in
    (let l = h.1 in grind (arith, common_steps), h.0)

pub returns-in-Whole-clause-steps : goal.returns-in-Whole-clause-steps
returns-in-Whole-clause-steps c =
    let d = c.self.inside in
    let e = take_set d.bytes d.count c.args.byte (omega arith) in
    whole_goes (take d.count d.bytes) (take (d.count + 1) (set d.bytes d.count c.args.byte)) c.args.byte c.in-Whole.c _ (filled d.bytes d.count c.if-count-eq0.false c.self.told) e c.in-Whole.ensures c.whole.ensures
    ∙ ap (λ l. character_step l c.args.byte) c.self.view_is

pub returns-in-Begun-clause-steps : goal.returns-in-Begun-clause-steps
returns-in-Begun-clause-steps c =
    let d = c.self.inside in
    let e = take_set d.bytes d.count c.args.byte (omega arith) in
    begun_goes (take d.count d.bytes) (take (d.count + 1) (set d.bytes d.count c.args.byte)) c.args.byte (filled d.bytes d.count c.if-count-eq0.false c.self.told) e c.in-Begun.ensures
    ∙ ap (λ l. character_step l c.args.byte) c.self.view_is

pub returns-in-Whole-clause-goes : goal.returns-in-Whole-clause-goes
returns-in-Whole-clause-goes c =
    let d = c.self.inside in
    subst (λ l. GoesOn (InCharacter l) c.args.byte) c.self.view_is
    (whole_goes_on (take d.count d.bytes) _ c.args.byte c.in-Whole.c (filled d.bytes d.count c.if-count-eq0.false c.self.told) c.self.invariant.1 (take_set d.bytes d.count c.args.byte (omega arith)) c.in-Whole.ensures)

pub returns-in-Begun-clause-goes : goal.returns-in-Begun-clause-goes
returns-in-Begun-clause-goes c =
    let d = c.self.inside in
    subst (λ l. GoesOn (InCharacter l) c.args.byte) c.self.view_is
    (begun_goes_on (take d.count d.bytes) _ c.args.byte (filled d.bytes d.count c.if-count-eq0.false c.self.told) c.self.invariant.1 (take_set d.bytes d.count c.args.byte (omega arith)) c.in-Begun.ensures)

pub returns-in-Broken-clause-breaks : goal.returns-in-Broken-clause-breaks
returns-in-Broken-clause-breaks c = λ _.
    let d = c.self.inside in
    subst (λ l. Breaks l c.args.byte) c.self.view_is
    (broken_breaks (take d.count d.bytes) _ c.args.byte (filled d.bytes d.count c.if-count-eq0.false c.self.told) (take_set d.bytes d.count c.args.byte (omega arith)) c.in-Broken.ensures)
