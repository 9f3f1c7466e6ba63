use Rattle.std.proofs.Common.{[], ◌∷◌}
use Rattle.csi_codec.specs.declared.parameters.CsiParam.TheVariants.{P}
use Rattle.csi_codec.specs.Rendition.{number}
use Rattle.csi_codec.proofs.TextSteps.{with_token, with_final}
use Rattle.csi_codec.proofs.sgr_spelling.put_line.Goals as goal

pub returns : goal.returns
returns c =
    with_final (number 4 ∷ P 58 ∷ number c.args.kind ∷ []) 109 _ _
    (with_token (number 4 ∷ P 58 ∷ []) (number c.args.kind) _ _ (with_token (number 4 ∷ []) (P 58) _ _ (with_token [] (number 4) _ _ c.opened-built.ensures c.push_small_number.ensures.text) c.push_sign.ensures.text) c.push_small_number-2.ensures.text) c.push_sign-2.ensures.text
