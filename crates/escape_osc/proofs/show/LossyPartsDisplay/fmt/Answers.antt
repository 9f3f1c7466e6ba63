use Rattle.std.proofs.Common.{true, ◌∷◌, ◌++◌, ◌∙◌, arith, refl}
use Rattle.std.specs.Str.Lossy.{utf8_lossy}
use Rattle.std.proofs.Output.{has_written_append}
use Rattle.escape_osc.specs.Parts.{semicolon}
use Rattle.escape_osc.proofs.ShowLemmas.{lossy_start, lossy_next}
use Rattle.escape_osc.proofs.show.LossyPartsDisplay.fmt.Goals as goal

pub loop-part-init : goal.loop-part-init
loop-part-init g c = λ plain. (
  utf8_lossy c.deref.result.now,
  c.in_ok-write.ensures.writes plain (refl {a = true}),
  lossy_start c.args.self.now.0.now c.in-Some.rest.now c.in-Some.first.now c.deref.result.now c.deref.ensures.value c.in-Some.ensures.cases.0,
)

pub loop-part-preserved : goal.loop-part-preserved
loop-part-preserved g c = λ plain.
    let so_far = c.loop-part.invariant plain in (
      so_far.0 ++ semicolon ∷ utf8_lossy c.deref-in-loop-part.result.now,
      has_written_append _ _ _ _ _ _ so_far.1 (c.in_ok-write-2.ensures.writes so_far.1.plain (refl {a = true})),
      lossy_next so_far.0 c.deref-in-loop-part.result.now c.in-Some.rest.now c.loop-part.part-index c.part-item.result (omega arith) c.part-item.is c.deref-in-loop-part.ensures.value
          ∙ so_far.2,
    )
