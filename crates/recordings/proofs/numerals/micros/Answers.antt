use Rattle.std.proofs.Common.{◌≡◌, ◌∙◌, ◌-◌, ◌++◌, ℕ, List, ap, length, min, refl, take}
use Rattle.recordings.specs.Numerals.{greatest, micros, number_after, zeros}
use Rattle.recordings.proofs.NumeralLemmas.{joined_stopped}
use Rattle.recordings.proofs.numerals.micros.Goals as goal

-- the result of a step, where its digits are the first `wanted` ones of those given
step : (value : ℕ) (digits given : List ℕ) (count wanted result : ℕ) → digits ≡ take count given → count ≡ wanted
    → result ≡ min (number_after value digits) greatest → result ≡ min (number_after value (take wanted given)) greatest
step value digits given count wanted result cut same is =
    is ∙ ap (λ ds. min (number_after value ds) greatest) (cut ∙ ap (λ k. take k given) same)

pub returns : goal.returns
unfolding micros
returns c =
    let point = c.args.point in
    let whole = c.whole-whole.result.now in
    let fraction = c.fraction-fraction.result.now in
    let after : c.saturating_sub-after.result ≡ point - length whole = c.saturating_sub-after.ensures in
    let last : c.saturating_sub.result ≡ point - length whole - length fraction =
    c.saturating_sub.ensures ∙ ap (λ k. k - length fraction) after in
    let in_turn = joined_stopped greatest point whole fraction zeros c.with_digits-value.result c.with_digits-value-2.result c.with_digits.result
    (step 0 c.first.result.now whole point point c.with_digits-value.result c.first.ensures refl c.with_digits-value.ensures)
    (step c.with_digits-value.result c.first-2.result.now fraction c.saturating_sub-after.result (point - length whole) c.with_digits-value-2.result c.first-2.ensures after c.with_digits-value-2.ensures)
    (step c.with_digits-value-2.result c.first-3.result.now zeros c.saturating_sub.result (point - length whole - length fraction) c.with_digits.result c.first-3.ensures last c.with_digits.ensures) in
    in_turn
    ∙ (λ i. min (number_after 0 (take (c.requires.point i) (c.whole-whole.ensures.value i ++ (c.fraction-fraction.ensures.value i ++ zeros)))) greatest)
