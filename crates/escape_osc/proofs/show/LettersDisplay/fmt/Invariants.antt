use Rattle.std.proofs.Common.{take}
use Rattle.std.specs.Fmt.{HasWritten, IsPlainFormatter}
use Rattle.escape_osc.proofs.ShowLemmas.{row_letters}
use Rattle.escape_osc.specs.Selection.{bits_of}
use Rattle.escape_osc.proofs.show.LettersDisplay.fmt.Given as goal

abbrev pub invariant-loop-letter : goal.invariant-loop-letter
invariant-loop-letter g l =
    IsPlainFormatter l.initial.f → HasWritten g.W.Write.write_str_gives l.initial.f (row_letters (bits_of l.self.0) (take l.letter-index l.letter-items)) l.f
