use Rattle.std.proofs.Common.{[], ◌∷◌}
use Rattle.csi_codec.specs.declared.parameters.CsiParam.TheVariants.{P}
use Rattle.csi_codec.specs.Rendition.{number}
use Rattle.csi_codec.proofs.TextSteps.{with_token, with_final}
use Rattle.csi_codec.proofs.sgr_spelling.put_palette.Goals as goal

pub returns : goal.returns
returns c =
    with_final (number c.args.target ∷ P 58 ∷ number 5 ∷ P 58 ∷ number c.args.index ∷ []) 109 _ _
    (with_token (number c.args.target ∷ P 58 ∷ number 5 ∷ P 58 ∷ []) (number c.args.index) _ _ c.color_opened-built.ensures.text c.push_small_number.ensures.text) c.push_sign.ensures.text
