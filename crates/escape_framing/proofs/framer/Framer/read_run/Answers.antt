use Rattle.std.proofs.Common.{◌≡◌, ◌++◌, ◌∙◌, false, refl, ap, sym, rules}
use Rattle.escape_framing.specs.Lending.{Lending}
use Rattle.escape_framing.proofs.RunLemmas.{parameters_silent, body_silent, string_silent}
use Rattle.escape_framing.proofs.PrefixLemmas.{reads_some}
use Rattle.escape_framing.proofs.framer.Framer.read_run.Goals as goal

pub returns-in-ControlSequence-clause-some : goal.returns-in-ControlSequence-clause-some
returns-in-ControlSequence-clause-some c =
    let w : c.self.inside.waiting ≡ false = search rules in
    reads_some c.args.self.now.held c.args.bytes.now c.push_all.result c.some_count.result _ c.some_count.ensures.some
    (parameters_silent c.args.self.now.held _ c.self.inside.parameters c.push_all.new.self c.args.bytes.now c.push_all.result c.self.inside.waiting
    (sym (ap (λ (l : Lending). l.held) c.self.view_is) ∙ rw c.in-ControlSequence.is refl) w c.push_all.ensures.count c.push_all.ensures.tokens (rw c.in-ControlSequence.is refl))

pub returns-in_ok-extend_from_slice-in-Command-clause-some : goal.returns-in_ok-extend_from_slice-in-Command-clause-some
returns-in_ok-extend_from_slice-in-Command-clause-some c =
    let w : c.self.inside.waiting ≡ false = search rules in
    let i : c.extend_from_slice.new.self.items ≡ c.self.inside.body.items ++ c.body_of-run.result.now = search rules in
    reads_some c.args.self.now.held c.args.bytes.now _ c.some_count-in-Command.result _ c.some_count-in-Command.ensures.some
    (body_silent c.args.self.now.held _ c.self.inside.body.items c.extend_from_slice.new.self.items c.args.bytes.now c.body_of-run.result.now c.self.inside.waiting
    (sym (ap (λ (l : Lending). l.held) c.self.view_is) ∙ rw c.in-Command.is refl) w c.body_of-run.ensures i (rw c.in-Command.is refl))

pub returns-in-String-clause-some : goal.returns-in-String-clause-some
returns-in-String-clause-some c =
    let w : c.self.inside.waiting ≡ false = search rules in
    reads_some c.args.self.now.held c.args.bytes.now c.string_len.result c.some_count-in-String.result _ c.some_count-in-String.ensures.some
    (string_silent c.args.self.now.held c.args.bytes.now c.string_len.result c.self.inside.waiting (sym (ap (λ (l : Lending). l.held) c.self.view_is) ∙ rw c.in-String.is refl) w c.string_len.ensures)
