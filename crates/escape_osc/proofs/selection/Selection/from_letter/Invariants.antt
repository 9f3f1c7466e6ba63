use Rattle.std.proofs.Common.{◌≡◌, drop}
use Rattle.escape_osc.specs.declared.show.TheConstants.{LETTERS}
use Rattle.escape_osc.specs.Selection.{letter_bits}
use Rattle.escape_osc.proofs.ShowLemmas.{row_bits}
use Rattle.escape_osc.proofs.selection.Selection.from_letter.Given as goal

abbrev pub invariant-loop-known : goal.invariant-loop-known
invariant-loop-known l = row_bits l.letter (drop l.known-index LETTERS) ≡ letter_bits l.letter
