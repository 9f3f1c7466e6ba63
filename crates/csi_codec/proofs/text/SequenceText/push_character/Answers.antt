use Rattle.std.proofs.Common.{arith}
use Rattle.csi_codec.proofs.TextSteps.{pair_short}
use Rattle.csi_codec.proofs.text.SequenceText.push_character.Goals as goal

pub returns-else-byte-lt128-clause-short : goal.returns-else-byte-lt128-clause-short
returns-else-byte-lt128-clause-short c = pair_short _ _ c.args.byte (omega arith) (omega arith) c.push_pair.ensures
