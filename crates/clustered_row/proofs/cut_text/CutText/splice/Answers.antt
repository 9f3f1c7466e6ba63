use Rattle.std.proofs.Common.{List, arith, ap, ◌∙◌}
use Rattle.std.specs.List.{splice}
use Rattle.clustered_row.specs.Faces.{Face, opened}
use Rattle.clustered_row.specs.Sizes.{faces_of}
use Rattle.clustered_row.specs.CutTexts.{shown}
use Rattle.clustered_row.proofs.FaceLemmas.{spliced}
use Rattle.clustered_row.proofs.StepLemmas.{length-cells}
use Rattle.clustered_row.proofs.cut_text.CutText.splice.Goals as goal

pub returns : goal.returns
returns c =
    let old = shown c.args.self.now in
    let new = faces_of c.args.text.now c.args.sizes.now in
    let count = length-cells c.args.text.now c.args.sizes.now c.requires.sizes.bytes in
    let first = c.open-start.ensures.faces ∙ ap (opened c.args.from) c.cover.ensures.faces in
    let second = c.open-end.ensures.faces ∙ ap (opened c.args.to) first in
    c.replace.ensures.row ∙ ap (λ (fs : List Face). splice fs c.open-start.result.columns c.open-end.result.columns new) second
    ∙ (λ i. splice (opened c.args.to (opened c.args.from old)) (c.open-start.ensures.at i) (c.open-end.ensures.at i) new)
    ∙ spliced old new c.args.from c.args.to (omega (arith, count, c.requires.columns)) c.requires.within
