use Rattle.change_sequence.proofs.ScreenLemmas.{text_column}
use Rattle.change_sequence.proofs.laws.texts_move_as_on_a_screen.Goals as goal

pub returns : goal.returns
returns c = text_column
