use Rattle.csi_codec.specs.Cursors.{cursor_spelling, cursor_style_number}
use Rattle.std.proofs.Common.{[], ◌∷◌, ◌++◌, pos, ap, ◌∙◌}
use Rattle.std.specs.Fmt.{decimal}
use Rattle.csi_codec.specs.declared.parameters.CsiParam.TheVariants.{Integer, P}
use Rattle.csi_codec.proofs.TextSteps.{with_token, with_final}
use Rattle.csi_codec.proofs.cursors.put_style.Goals as goal

pub returns : goal.returns
unfolding cursor_spelling
returns c =
    with_final (Integer (pos (cursor_style_number c.args.style)) ∷ P 32 ∷ []) 113 _ _
    (with_token (Integer (pos (cursor_style_number c.args.style)) ∷ []) (P 32) _ _ (with_token [] (Integer (pos (cursor_style_number c.args.style))) _ _ c.opened-built.ensures (c.push_number.ensures.text ∙ ap (λ n. c.opened-built.result ++ decimal n) c.to_u16.ensures)) c.push_sign.ensures.text) c.push_sign-2.ensures.text
