use Rattle.std.proofs.Common.{true, refl, arith}
use Rattle.std.proofs.Output.{has_written_of_eq, has_written_to_eq}
use Rattle.escape_osc.proofs.ShowLemmas.{letter_written, letter_skipped, row_letters_end}
use Rattle.escape_osc.proofs.show.LettersDisplay.fmt.Goals as goal
use Rattle.escape_osc.proofs.show.LettersDisplay.fmt.Goals.{then-contains+in_ok-write_char, else-contains}

pub loop-letter-preserved : goal.loop-letter-preserved
loop-letter-preserved g c = λ p. elim c.if-contains.branch [
  | then-contains+in_ok-write_char w ↦
      let before = c.loop-letter.invariant p in
      has_written_to_eq _ _ _ _ _ w.f-is
      (letter_written _ _ _ _ _ _ _ _ _ (omega arith) (c.contains.ensures tt) w.if-contains.true before (w.in_ok-write_char.ensures.writes before.plain (refl {a = true})))
  | else-contains w ↦
      has_written_to_eq _ _ _ _ _ w.f-is
      (letter_skipped _ _ _ _ _ _ _ _ (omega arith) (c.contains.ensures tt) w.if-contains.false (c.loop-letter.invariant p))
]

pub returns-clause-writes : goal.returns-clause-writes
returns-clause-writes g c = λ p ok. has_written_of_eq _ _ _ _ _ (row_letters_end _ c.loop-letter.letter-index (omega arith)) (c.loop-letter.invariant p)
