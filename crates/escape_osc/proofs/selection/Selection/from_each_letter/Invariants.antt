use Rattle.std.proofs.Common.{◌≡◌, drop, option_map}
use Rattle.std.specs.Int.RustNames.{bit_or}
use Rattle.escape_osc.specs.Selection.{bits_of, letters_bits}
use Rattle.escape_osc.proofs.selection.Selection.from_each_letter.Given as goal

abbrev pub invariant-loop-letter : goal.invariant-loop-letter
invariant-loop-letter l = option_map (bit_or (bits_of l.all)) (letters_bits (drop l.letter-index l.letters)) ≡ letters_bits l.letters
