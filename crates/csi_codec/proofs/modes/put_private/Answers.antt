use Rattle.csi_codec.specs.Modes.{dec_mode_code}
use Rattle.std.proofs.Common.{[], ◌∷◌, ◌++◌, pos, ap, ◌∙◌}
use Rattle.std.specs.Fmt.{decimal}
use Rattle.csi_codec.specs.declared.parameters.CsiParam.TheVariants.{Integer, P}
use Rattle.csi_codec.proofs.TextSteps.{with_token, with_final}
use Rattle.csi_codec.proofs.modes.put_private.Goals as goal

pub returns : goal.returns
returns c =
    with_final (P 63 ∷ Integer (pos (dec_mode_code c.args.mode)) ∷ []) c.args.control _ _
    (with_token (P 63 ∷ []) (Integer (pos (dec_mode_code c.args.mode))) _ _ (with_token [] (P 63) _ _ c.opened-built.ensures c.push_sign.ensures.text) (c.push_number.ensures.text ∙ ap (λ n. c.push_sign.new.self ++ decimal n) c.number.ensures)) c.push_sign-2.ensures.text
