use Rattle.std.proofs.Common.{rules, [], ◌∷◌, Some, ap, sym, ◌∙◌}
use Rattle.csi_codec.specs.Actions.{unspecified}
use Rattle.csi_codec.specs.Sequences.{HandsOut}
use Rattle.csi_codec.proofs.CoordinateLemmas.{last_step}
use Rattle.csi_codec.proofs.param_cursor.ParamCursor.rest.Goals as goal

pub returns : goal.returns
returns c =
    let left : HandsOut (unspecified c.after-left.result.now c.args.truncated c.args.control ∷ []) (Some c.unspecified.result) [] = search rules in
    last_step c.max-self.result c.args.params.now c.args.truncated c.args.control _ _ (Some c.unspecified.result) c.max-self.ensures
    (c.requires.last ∙ ap (λ us. unspecified us c.args.truncated c.args.control ∷ []) (sym c.after-left.ensures)) left
