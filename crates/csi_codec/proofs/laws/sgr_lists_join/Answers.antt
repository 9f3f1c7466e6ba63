use Rattle.csi_codec.proofs.JoinLemmas.{sgr_lists_join-lem}
use Rattle.csi_codec.proofs.laws.sgr_lists_join.Goals as goal

pub returns : goal.returns
returns c = sgr_lists_join-lem
