use Rattle.std.proofs.Common.{◌≡◌, ◌∙◌, Bool, true, false, ap, sym, subst, rules}
use Rattle.escape_framing.specs.Held.{Held, held_step}
use Rattle.escape_framing.specs.Event.{handed_out, held_resumed, IsHeldLeft}
use Rattle.escape_framing.proofs.ReadEventLemmas.{reads_one, reads_left}
use Rattle.escape_framing.proofs.framer.Framer.read_bytes.Goals as goal

pub returns-then-stepped-clause-reads : goal.returns-then-stepped-clause-reads
returns-then-stepped-clause-reads c =
    let same : c.read_run.new.self.held ≡ c.args.self.now.held = search rules in
    let r : c.in_ok-stepped.stepped.is_read ≡ true = search rules in
    reads_one c.args.self.now.held c.args.byte c.requires.prefix.0 c.args.bytes.now c.advance.new.self c.in_ok-stepped.stepped.event c.requires.prefix.1
    (ap (λ (h : Held). held_step h c.args.byte) (sym same) ∙ c.in_ok-stepped.ensures.steps
    ∙ ap (λ (x : Bool). held_resumed (handed_out c.advance.new.self c.in_ok-stepped.stepped.event) c.advance.new.self.held x c.args.byte) r)
    c.requires.none

pub returns-else-stepped-clause-reads : goal.returns-else-stepped-clause-reads
returns-else-stepped-clause-reads c =
    let same : c.read_run.new.self.held ≡ c.args.self.now.held = search rules in
    let r : c.in_ok-stepped.stepped.is_read ≡ false = search rules in
    reads_left c.args.self.now.held c.args.byte c.requires.prefix.0 c.args.bytes.now c.advance.new.self c.in_ok-stepped.stepped.event c.requires.prefix.1
    (ap (λ (h : Held). held_step h c.args.byte) (sym same) ∙ c.in_ok-stepped.ensures.steps
    ∙ ap (λ (x : Bool). held_resumed (handed_out c.advance.new.self c.in_ok-stepped.stepped.event) c.advance.new.self.held x c.args.byte) r)
    (subst (λ (h : Held). IsHeldLeft h c.args.byte c.in_ok-stepped.stepped.event c.advance.new.self.held) same (c.in_ok-stepped.ensures.left r))
