use Rattle.csi_codec.specs.Devices.{device_spelling}
use Rattle.std.proofs.Common.{[], ◌∷◌}
use Rattle.csi_codec.specs.declared.parameters.CsiParam.TheVariants.{P}
use Rattle.csi_codec.proofs.TextSteps.{with_token, with_final}
use Rattle.csi_codec.proofs.devices.put_soft_reset.Goals as goal

pub returns : goal.returns
unfolding device_spelling
returns c =
    with_final (P 33 ∷ []) 112 _ _
    (with_token [] (P 33) _ _ c.opened-built.ensures c.push_sign.ensures.text) c.push_sign-2.ensures.text
