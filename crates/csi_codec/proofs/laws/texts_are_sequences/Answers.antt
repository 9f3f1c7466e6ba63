use Rattle.csi_codec.proofs.PrefixTrip.{texts_are_sequences-lem}
use Rattle.csi_codec.proofs.laws.texts_are_sequences.Goals as goal

pub returns : goal.returns
returns c = texts_are_sequences-lem
