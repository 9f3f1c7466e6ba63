use Rattle.std.proofs.Common.{[], ◌∷◌}
use Rattle.csi_codec.specs.declared.parameters.CsiParam.TheVariants.{P}
use Rattle.csi_codec.specs.Rendition.{number}
use Rattle.csi_codec.proofs.TextSteps.{with_final}
use Rattle.csi_codec.proofs.sgr_spelling.put_opaque.Goals as goal

pub returns : goal.returns
returns c =
    with_final (number c.args.target ∷ P 58 ∷ number 2 ∷ P 58 ∷ P 58 ∷ number c.args.red ∷ P 58 ∷ number c.args.green ∷ P 58 ∷ number c.args.blue ∷ []) 109 _ _
    c.channels_opened-built.ensures.text c.push_sign.ensures.text
