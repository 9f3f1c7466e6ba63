use Rattle.std.proofs.Common.{◌∙◌, ◌-◌, ◌∷◌, [], sym, ap, true}
use Rattle.cell_base.specs.Attributes.{Attributes}
use Rattle.cell_base.specs.Row.{space}
use Rattle.cell_edits.specs.VisibleCells.{visible_at}
use Rattle.cell_views.proofs.EdgeLemmas.{end_half_is, same_at, split_within}
use Rattle.cell_views.proofs.region.end_edge.Goals as goal

pub returns-then-is_split-clause-half : goal.returns-then-is_split-clause-half
returns-then-is_split-clause-half c =
    let row = c.args.row.now in
    let at = c.args.end in
    let cut = sym c.is_split.ensures.value ∙ c.if-is_split.true in
    let same = same_at row at c.attributes_at.result.now (split_within at row cut) c.attributes_at.ensures in
    ap (λ (a : Attributes). visible_at (at - 1) space 1 a ∷ []) same ∙ sym (end_half_is at row true cut)
