use Rattle.std.proofs.Common.{◌≡◌, ◌∙◌, true, false, None, sym, ap, subst, rules}
use Rattle.escape_framing.specs.Held.{TakesMemory, Step, kept_step}
use Rattle.escape_framing.specs.Lending.{Lending}
use Rattle.escape_framing.specs.FramerView.{lending_of}
use Rattle.escape_framing.specs.Event.{handed_out, resumed}
use Rattle.escape_framing.proofs.WaitingLemmas.{took_memory, lead_cuts}
use Rattle.escape_framing.proofs.EventLemmas.{other_left, other_goes, lead_is_left, data_goes, data_is_left, on_err}
use Rattle.escape_framing.proofs.framer.Framer.after_lead.Goals as goal

pub returns-then-not-first-clause-steps : goal.returns-then-not-first-clause-steps
returns-then-not-first-clause-steps c =
    let r : c.in_ok-first.first.is_read ≡ false = search rules in
    other_left c.args.self.now.held c.step.new.self.held c.args.byte (handed_out c.step.new.self c.in_ok-first.first.event) c.in_ok-first.first.is_read c.requires.waiting c.in_ok-first.ensures.waiting c.requires.plain r c.in_ok-first.ensures.steps

pub returns-then-not-first-clause-left : goal.returns-then-not-first-clause-left
returns-then-not-first-clause-left c = λ r.
    lead_is_left c.args.self.now.held c.step.new.self.held c.args.byte (handed_out c.step.new.self c.in_ok-first.first.event) c.in_ok-first.first.event c.in_ok-first.first.is_read c.requires.waiting c.in_ok-first.ensures.waiting r c.in_ok-first.ensures.steps (c.in_ok-first.ensures.left r)

pub returns-in_err-second-in-None-clause-memory : goal.returns-in_err-second-in-None-clause-memory
returns-in_err-second-in-None-clause-memory c =
    let r : c.in_ok-first.first.is_read ≡ true = search rules in
    let n : c.in_ok-first.first.event ≡ None = search rules in
    let k : c.step.new.self.held.kept ≡ (kept_step c.args.self.now.held.kept 0xC2).kept = sym (ap (λ (s : Step). s.kept) (c.in_ok-first.ensures.steps ∙ (λ i. resumed (handed_out c.step.new.self (n i)) c.step.new.self.held.kept (r i) 0xC2))) in
    on_err _ _ (took_memory c.args.self.now.held.kept 0xC2 lead_cuts (subst TakesMemory (ap (λ (l : Lending). l.held.kept) c.self.view_is ∙ k) c.in_err-second-in-None.ensures.memory))

pub returns-in-Some-clause-steps : goal.returns-in-Some-clause-steps
returns-in-Some-clause-steps c =
    let r : c.in_ok-first.first.is_read ≡ true = search rules in
    data_goes c.args.self.now.held c.args.byte c.step.new.self (lending_of c.self.inside) c.in_ok-first.first c.left.result c.in-Some.event c.requires.waiting c.self.view_is r c.in-Some.is c.left.ensures c.in_ok-first.ensures.steps c.requires.plain

pub returns-in-Some-clause-left : goal.returns-in-Some-clause-left
returns-in-Some-clause-left c = λ z.
    let r : c.in_ok-first.first.is_read ≡ true = search rules in
    data_is_left c.args.self.now.held c.args.byte c.step.new.self (lending_of c.self.inside) c.in_ok-first.first c.left.result c.in-Some.event c.requires.waiting c.self.view_is r c.in-Some.is c.left.ensures c.in_ok-first.ensures.steps (c.in_ok-first.ensures.goes r)

pub returns-in_ok-second-in-None-clause-steps : goal.returns-in_ok-second-in-None-clause-steps
returns-in_ok-second-in-None-clause-steps c =
    let r : c.in_ok-first.first.is_read ≡ true = search rules in
    other_goes c.args.self.now.held _ c.args.byte c.step.new.self c.in_ok-first.first.event c.in_ok-first.first.is_read _ c.requires.waiting c.requires.plain c.in-None.is r (sym (ap (λ (l : Lending). l.held.kept) c.self.view_is)) c.in_ok-first.ensures.steps c.in_ok-second-in-None.ensures.steps
