use Rattle.std.proofs.Common.{true, ◌++◌, sym, ◌∙◌, refl, append_assoc, append-nil}
use Rattle.std.proofs.Output.{has_written_append, has_written_of_eq}
use Rattle.std.proofs.lemmas.Str.{utf8_lossy_empty}
use Rattle.escape_osc.proofs.ShowLemmas.{utf8_lossy-chunk}
use Rattle.escape_osc.proofs.show.LossyPartDisplay.fmt.Goals as goal

pub loop-chunk-preserved : goal.loop-chunk-preserved
loop-chunk-preserved g c = (
  tt,
  tt,
  λ plain.
      let so_far = c.loop-chunk.invariant.2 plain in
      let steps = c.in-Some.ensures.steps in
      let valid = c.in_ok-write_str.ensures.writes so_far.1.plain (refl {a = true}) in
      let invalid = c.in_ok-write_str-2.ensures.writes valid.plain (refl {a = true}) in
      let text = utf8_lossy-chunk _ _ _ _ steps.0 steps.3.0 steps.3.1 steps.2 in (
        so_far.0 ++ c.valid.result.now ++ c.replacement.result.now,
        has_written_append _ _ _ _ _ _ (has_written_append _ _ _ _ _ _ so_far.1 valid) invalid,
        rw (c.valid.ensures, c.replacement.ensures, c.invalid.ensures, append_assoc, append_assoc, ← text) so_far.2,
      ),
)

pub returns-clause-writes : goal.returns-clause-writes
returns-clause-writes g c = λ plain _.
    let so_far = c.loop-chunk.invariant.2 plain in
    has_written_of_eq _ _ _ _ _ (sym (append-nil _) ∙ rw (utf8_lossy_empty _ c.in-None.ensures.steps.0) at so_far.2) so_far.1
