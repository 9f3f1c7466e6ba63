use Rattle.csi_codec.proofs.RoundTrip.{actions_read_back-lem}
use Rattle.csi_codec.proofs.laws.actions_read_back.Goals as goal

pub returns : goal.returns
returns c = actions_read_back-lem
