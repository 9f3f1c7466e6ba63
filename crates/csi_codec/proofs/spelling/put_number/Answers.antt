use Rattle.std.proofs.Common.{[], ◌∷◌, pos}
use Rattle.csi_codec.specs.declared.parameters.CsiParam.TheVariants.{Integer}
use Rattle.csi_codec.proofs.TextSteps.{with_token, with_final}
use Rattle.csi_codec.proofs.spelling.put_number.Goals as goal

pub returns : goal.returns
returns c =
    with_final (Integer (pos c.args.number) ∷ []) c.args.control _ _
    (with_token [] (Integer (pos c.args.number)) _ _ c.opened-built.ensures c.push_number.ensures.text) c.push_sign.ensures.text
