use Rattle.std.proofs.Common.{◌∙◌}
use Rattle.cell_base.proofs.SameTexts.{texts_cloned}
use Rattle.cell_base.proofs.hyperlink.Hyperlink.try_clone.Goals as goal

pub returns : goal.returns
returns c =
    let params = texts_cloned c.self.inside.params.entries c.in_ok-clone.field-0.entries c.in_ok-clone.ensures.cases in
    (λ i. record { params = params i; uri = c.in_ok-clone-2.ensures.cases i; implicit = c.self.inside.implicit }) ∙ c.self.view_is
