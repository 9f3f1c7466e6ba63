use Rattle.std.proofs.Common.{◌∙◌, sym}
use Rattle.cell_base.proofs.SameTexts.{same_texts}
use Rattle.cell_base.proofs.hyperlink.same_params.Goals as goal

pub returns : goal.returns
returns c =
    let decides = same_texts c.args.a.now.entries c.args.b.now.entries in
    (λ t. decides.0 (sym c.eq.ensures ∙ t), λ e. c.eq.ensures ∙ decides.1 e)
