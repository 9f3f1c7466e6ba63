use Rattle.csi_codec.proofs.PrefixLemmas.{one_prefix-lem}
use Rattle.csi_codec.proofs.laws.one_prefix.Goals as goal

pub returns : goal.returns
returns c = one_prefix-lem
