use Rattle.csi_codec.proofs.LongestLemmas.{longest_shape_decides-lem}
use Rattle.csi_codec.proofs.laws.longest_shape_decides.Goals as goal

pub returns : goal.returns
returns c = longest_shape_decides-lem
