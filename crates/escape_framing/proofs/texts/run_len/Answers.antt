use Rattle.std.proofs.Common.{rules, ◌≡◌, ◌<◌, ◌≤◌, ◌⊎◌, ◌∷◌, true, false, arith, ⊎_elim}
use Rattle.std.proofs.lemmas.Bool.{cases_lt}
use Rattle.std.proofs.lemmas.Bool.Decides.{nat_tests}
use Rattle.text_clusters.specs.Plain.{is_printable}
use Rattle.escape_framing.proofs.LenLemmas.{character_run, none_run, stray_run}
use Rattle.escape_framing.proofs.DecodedLemmas.{plain_run}
use Rattle.escape_framing.proofs.texts.run_len.Goals as goal

pub returns-in-Some : goal.returns-in-Some
returns-in-Some c =
    let is : c.args.bytes.now ≡ c.in-Some.byte.now ∷ c.in-Some.field-0-1.now = search rules in
    let plain : is_printable c.in-Some.byte.now ≡ true = search rules in
    plain_run c.args.bytes.now c.in-Some.byte.now c.in-Some.field-0-1.now c.printable_len.result is plain c.printable_len.ensures

pub returns-in_default : goal.returns-in_default
returns-in_default c = character_run c.args.bytes.now c.character_len.result c.character_len.ensures

pub returns-in-Some-2 : goal.returns-in-Some-2
returns-in-Some-2 c =
    let is : c.args.bytes.now ≡ c.in-Some.byte.now ∷ c.in-Some.field-0-1.now = search rules in
    let plain : is_printable c.in-Some.byte.now ≡ false = search rules in
    let low : (c.in-Some.byte.now < 0x80) ⊎ (0x80 ≤ c.in-Some.byte.now) = cases_lt c.in-Some.byte.now 0x80 in
    ⊎_elim
    (λ l. none_run c.args.bytes.now c.in-Some.byte.now c.in-Some.field-0-1.now is l (λ p. ⊎_elim (λ r. let m = r.0 in let h = r.1 in grind (arith, nat_tests)) (λ h. omega arith) p))
    (λ h. stray_run c.args.bytes.now c.in-Some.byte.now c.in-Some.field-0-1.now is h c.if-byte-lt194.true)
    low
