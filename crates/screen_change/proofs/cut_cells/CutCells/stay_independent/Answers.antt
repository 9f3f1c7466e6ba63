use Rattle.std.proofs.Common.{◌∙◌, true}
use Rattle.std.specs.String.{string_bytes}
use Rattle.unicode_segmentation.specs.Grapheme.{graphemes}
use Rattle.screen_change.specs.Cuts.{cut_at}
use Rattle.screen_change.specs.Texts.{same_texts}
use Rattle.screen_change.proofs.StepLemmas.{independent_cut}
use Rattle.screen_change.proofs.cut_cells.CutCells.stay_independent.Goals as goal

pub returns : goal.returns
returns c =
    let t = c.args.self.now in
    c.has_clusters.ensures ∙ (λ i. same_texts (graphemes true (c.deref.ensures i)) (cut_at (c.deref-2.ensures.value i) (c.deref.ensures i))) ∙ independent_cut t.lens.items (string_bytes t.text)
