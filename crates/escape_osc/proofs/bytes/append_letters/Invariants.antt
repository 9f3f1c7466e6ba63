use Rattle.std.proofs.Common.{◌≡◌, ◌++◌, take}
use Rattle.escape_osc.proofs.ShowLemmas.{row_letters}
use Rattle.escape_osc.specs.Selection.{bits_of}
use Rattle.escape_osc.proofs.bytes.append_letters.Given as goal

abbrev pub invariant-loop-letter : goal.invariant-loop-letter
invariant-loop-letter l = l.dest.items ≡ l.fn.dest.items ++ row_letters (bits_of l.selection) (take l.letter-index l.letter-items)
