use Rattle.std.proofs.Common.{◌≡◌, ◌∙◌, ◌+◌, ◌<◌, ◌≤◌, drop, get_or, length, min, sym, arith}
use Rattle.std.proofs.lemmas.List.{at_drop_more, at_drop_all}
use Rattle.recordings.specs.Numerals.{greatest, number_after}
use Rattle.recordings.proofs.NumeralLemmas.{digit_taken}
use Rattle.recordings.proofs.numerals.with_digits.Goals as goal

pub returns : goal.returns
returns c =
    let after : length c.args.digits.now ≤ c.loop-digit.digit-index = omega (arith, c.loop-digit-test.false) in
    let is : c.loop-digit.value ≡ min c.loop-digit.value greatest = omega (arith, c.loop-digit.invariant.fits) in
    is
    ∙ sym (at_drop_all (λ digits. min (number_after c.loop-digit.value digits) greatest) c.args.digits.now c.loop-digit.digit-index after)
    ∙ c.loop-digit.invariant.read

pub loop-digit-preserved : goal.loop-digit-preserved
loop-digit-preserved c =
    let within : c.loop-digit.digit-index < length c.args.digits.now = omega (arith, c.loop-digit-test.true) in
    let digits = c.args.digits.now in
    let at = c.loop-digit.digit-index in
    record {
      read = digit_taken greatest c.loop-digit.value c.saturating_add-value.result (get_or digits at 0) (drop (at + 1) digits)
          (omega (arith, c.saturating_sub.ensures, c.from-unit.ensures, c.saturating_mul.ensures, c.saturating_add-value.ensures))
          ∙ sym (at_drop_more (λ ds. min (number_after c.loop-digit.value ds) greatest) digits at 0 within)
          ∙ c.loop-digit.invariant.read;
      fits = omega (arith, c.saturating_add-value.ensures);
    }
