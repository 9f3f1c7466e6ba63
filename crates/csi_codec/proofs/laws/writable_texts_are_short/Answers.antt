use Rattle.csi_codec.proofs.SizeLemmas.{actions_are_short}
use Rattle.csi_codec.proofs.laws.writable_texts_are_short.Goals as goal

pub returns : goal.returns
returns c = record { action = actions_are_short }
