use Rattle.std.proofs.Common.{◌≡◌, ◌≢◌, ℕ, Some, None, sym, ap, subst, ◌∙◌}
use Rattle.bstr.specs.Utf8.{Decoded}
use Rattle.escape_framing.specs.Segment.{IsPrintable}
use Rattle.escape_framing.proofs.DecodedLemmas.{some_character, no_character_here}
use Rattle.escape_framing.proofs.texts.character_len.Goals as goal

pub returns-then-is_lendable : goal.returns-then-is_lendable
returns-then-is_lendable c =
    let lendable = c.is_lendable.ensures.0 c.if-is_lendable.true in
    some_character c.args.bytes.now c.in-Some-default.c c.decode.result.1
    (λ i. record { char = (sym c.decode.ensures.char ∙ c.in-Some-default.is-0) i; size = sym c.decode.ensures.size i }) lendable.0 lendable.1

pub returns-else-is_lendable : goal.returns-else-is_lendable
returns-else-is_lendable c = no_character_here c.args.bytes.now (λ d n e p r.
    let same : Some c.in-Some-default.c ≡ Some d = sym c.in-Some-default.is-0 ∙ c.decode.ensures.char ∙ ap (λ (x : Decoded). x.char) e in
    let k : d ≡ c.in-Some-default.c = cc in
    let t = c.is_lendable.ensures.1 (subst (λ (x : ℕ). IsPrintable x × (x ≢ 0xFFFD)) k (p, r)) in
    let f = c.if-is_lendable.false in
    cc)

pub returns-in-None-default : goal.returns-in-None-default
returns-in-None-default c = no_character_here c.args.bytes.now (λ d n e p r.
    let same : None ≡ Some d = sym c.in-None-default.is-0 ∙ c.decode.ensures.char ∙ ap (λ (x : Decoded). x.char) e in cc)
