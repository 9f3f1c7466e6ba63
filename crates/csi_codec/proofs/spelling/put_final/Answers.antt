use Rattle.std.proofs.Common.{[]}
use Rattle.csi_codec.proofs.TextSteps.{with_final}
use Rattle.csi_codec.proofs.spelling.put_final.Goals as goal

pub returns : goal.returns
returns c =
    with_final [] c.args.control _ _
    c.opened-built.ensures c.push_sign.ensures.text
