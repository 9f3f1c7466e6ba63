use Rattle.std.proofs.Common.{[], ◌∷◌}
use Rattle.csi_codec.specs.declared.parameters.CsiParam.TheVariants.{P}
use Rattle.csi_codec.specs.Rendition.{number}
use Rattle.csi_codec.proofs.TextSteps.{with_token}
use Rattle.csi_codec.proofs.sgr_spelling.channels_opened.Goals as goal

pub returns-clause-text : goal.returns-clause-text
returns-clause-text c =
    with_token (number c.args.target ∷ P 58 ∷ number c.args.kind ∷ P 58 ∷ P 58 ∷ number c.args.red ∷ P 58 ∷ number c.args.green ∷ P 58 ∷ []) (number c.args.blue) _ _ (with_token (number c.args.target ∷ P 58 ∷ number c.args.kind ∷ P 58 ∷ P 58 ∷ number c.args.red ∷ P 58 ∷ number c.args.green ∷ []) (P 58) _ _ (with_token (number c.args.target ∷ P 58 ∷ number c.args.kind ∷ P 58 ∷ P 58 ∷ number c.args.red ∷ P 58 ∷ []) (number c.args.green) _ _ (with_token (number c.args.target ∷ P 58 ∷ number c.args.kind ∷ P 58 ∷ P 58 ∷ number c.args.red ∷ []) (P 58) _ _ (with_token (number c.args.target ∷ P 58 ∷ number c.args.kind ∷ P 58 ∷ P 58 ∷ []) (number c.args.red) _ _ (with_token (number c.args.target ∷ P 58 ∷ number c.args.kind ∷ P 58 ∷ []) (P 58) _ _ c.color_opened-text.ensures.text c.push_sign.ensures.text) c.push_small_number.ensures.text) c.push_sign-2.ensures.text) c.push_small_number-2.ensures.text) c.push_sign-3.ensures.text) c.push_small_number-3.ensures.text
