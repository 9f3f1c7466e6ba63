use Rattle.std.proofs.Common.{◌≡◌, ◌≤◌, drop, min}
use Rattle.recordings.specs.Numerals.{greatest, number_after}
use Rattle.recordings.proofs.numerals.with_digits.Given as goal

abbrev pub invariant-loop-digit : goal.invariant-loop-digit
invariant-loop-digit l = record {
  read : min (number_after l.value (drop l.digit-index l.digits)) greatest ≡ min (number_after l.fn.value l.digits) greatest;
  fits : l.value ≤ greatest;
}
