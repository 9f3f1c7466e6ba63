use Rattle.std.proofs.Common.{rules, arith}
use Rattle.escape_osc.proofs.AppendLemmas.{letter_appended, letter_passed, letters_appended}
use Rattle.escape_osc.proofs.bytes.append_letters.Goals as goal
use Rattle.escape_osc.proofs.bytes.append_letters.Goals.{then-contains+in_ok-extend_from_slice, else-contains}

pub loop-letter-preserved : goal.loop-letter-preserved
loop-letter-preserved c = elim c.if-contains.branch [
  | then-contains+in_ok-extend_from_slice w ↦
      letter_appended _ _ w.as_bytes.result.now _ _ _ _ _ _ (omega arith) (c.contains.ensures tt) w.if-contains.true (search rules) c.loop-letter.invariant (search rules)
  | else-contains w ↦
      letter_passed _ _ _ _ c.loop-letter.letter-index _ _ (omega arith) (c.contains.ensures tt) w.if-contains.false (search rules)
]

pub returns-clause-ok : goal.returns-clause-ok
returns-clause-ok c = letters_appended _ _ _ c.loop-letter.letter-index (omega arith) c.loop-letter.invariant
