use Rattle.std.proofs.Common.{◌≡◌, ◌∙◌, true, false, ap, rules}
use Rattle.escape_framing.specs.Lending.{Lending}
use Rattle.escape_framing.specs.Event.{handed_out}
use Rattle.escape_framing.proofs.EventLemmas.{escape_kept, c1_left, c1_read}
use Rattle.escape_framing.proofs.framer.Framer.after_c1.Goals as goal

pub returns-then-not-first-clause-steps : goal.returns-then-not-first-clause-steps
returns-then-not-first-clause-steps c =
    let r : c.in_ok-first.first.is_read ≡ false = search rules in
    c1_left c.args.self.now.held c.step.new.self.held c.args.byte (handed_out c.step.new.self c.in_ok-first.first.event) c.in_ok-first.first.is_read c.requires.waiting c.in_ok-first.ensures.waiting c.requires.half r c.in_ok-first.ensures.steps

pub in_escape-requires : goal.in_escape-requires
in_escape-requires c =
    let r : c.in_ok-first.first.is_read ≡ true = search rules in
    ap (λ (l : Lending). l.held.kept) c.self.view_is
    ∙ escape_kept c.args.self.now.held.kept c.step.new.self.held.kept (handed_out c.step.new.self c.in_ok-first.first.event) c.in_ok-first.first.is_read (c.in_ok-first.ensures.goes r) r c.in_ok-first.ensures.steps

pub returns-clause-steps : goal.returns-clause-steps
returns-clause-steps c =
    let r : c.in_ok-first.first.is_read ≡ true = search rules in
    c1_read c.args.self.now.held c.in_escape.new.self.held c.args.byte (handed_out c.in_escape.new.self c.in_escape.result.event) c.in_escape.result.is_read c.requires.waiting c.in_escape.ensures.waiting c.requires.half (c.in_ok-first.ensures.goes r) c.in_escape.ensures.read c.in_escape.ensures.steps
