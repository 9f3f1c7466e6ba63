use Rattle.csi_codec.proofs.RoundTrip.{writable_actions_read_back-lem}
use Rattle.csi_codec.proofs.PrefixTrip.{writable_texts_are_sequences-lem}
use Rattle.csi_codec.proofs.laws.writable_actions_read_back.Goals as goal

pub returns : goal.returns
returns c = record { action = writable_actions_read_back-lem; text = writable_texts_are_sequences-lem }
