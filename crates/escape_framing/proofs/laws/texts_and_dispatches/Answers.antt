use Rattle.escape_framing.proofs.SpellLemmas.{framed_spells, framed_separate, placed_same}
use Rattle.escape_framing.proofs.laws.texts_and_dispatches.Goals as goal

pub returns-clause-spelled : goal.returns-clause-spelled
returns-clause-spelled c = framed_spells

pub returns-clause-separate : goal.returns-clause-separate
returns-clause-separate c = framed_separate

pub returns-clause-held : goal.returns-clause-held
returns-clause-held c = λ stream bytes. placed_same bytes stream
