use Rattle.std.proofs.Common.{[], ◌∷◌, ◌++◌, pos, ap, ◌∙◌}
use Rattle.std.specs.Fmt.{decimal}
use Rattle.csi_codec.specs.declared.parameters.CsiParam.TheVariants.{Integer, P}
use Rattle.csi_codec.proofs.TextSteps.{with_token, with_final}
use Rattle.csi_codec.proofs.spelling.put_pair.Goals as goal

pub returns : goal.returns
returns c =
    with_final (Integer (pos c.args.a) ∷ P 59 ∷ Integer (pos c.args.b) ∷ []) c.args.control _ _
    (with_token (Integer (pos c.args.a) ∷ P 59 ∷ []) (Integer (pos c.args.b)) _ _ (with_token (Integer (pos c.args.a) ∷ []) (P 59) _ _ (with_token [] (Integer (pos c.args.a)) _ _ c.opened-built.ensures (c.push_number.ensures.text ∙ ap (λ n. c.opened-built.result ++ decimal n) c.as_one_based.ensures.same)) c.push_sign.ensures.text) (c.push_number-2.ensures.text ∙ ap (λ n. c.push_sign.new.self ++ decimal n) c.as_one_based-2.ensures.same)) c.push_sign-2.ensures.text
