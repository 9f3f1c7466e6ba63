use Rattle.std.proofs.Common.{◌≡◌, ◌≢◌, ◌∙◌, Bool, false, refl, sym, ap, rules}
use Rattle.escape_framing.specs.Bytes.{is_stop}
use Rattle.escape_framing.specs.Held.{InDevice}
use Rattle.escape_framing.specs.Lending.{Lending}
use Rattle.escape_framing.proofs.PrefixLemmas.{reads_data}
use Rattle.escape_framing.proofs.framer.Framer.whole_data.Goals as goal

pub returns-else-byte : goal.returns-else-byte
returns-else-byte c =
    let w : c.self.inside.waiting ≡ false = search rules in
    let h : c.args.self.now.held ≡ record { kept = InDevice; waiting = c.self.inside.waiting } = sym (ap (λ (l : Lending). l.held) c.self.view_is) ∙ rw c.in-Device.is refl in
    let s : is_stop c.in_ok-byte-in-Device.byte.now ≡ false = search rules in
    let lead : c.in_ok-byte-in-Device.byte.now ≢ 0xC2 = search rules in
    reads_data c.args.self.now c.args.bytes.now c.in_ok-byte-in-Device.field-0-1.now c.in_ok-byte-in-Device.byte.now (h ∙ ap (λ (x : Bool). record { kept = InDevice; waiting = x }) w) c.in_ok-byte-in-Device.ensures.cases.0 s lead
