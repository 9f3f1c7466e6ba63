use Rattle.std.proofs.Common.{◌∙◌, ap, refl}
use Rattle.screen_change.specs.Written.{finished}
use Rattle.screen_difference.specs.Drawing.{Drawing, new_drawing}
use Rattle.screen_difference.proofs.StretchLemmas.{pushed_is_difference}
use Rattle.screen_difference.proofs.difference_writer.DifferenceWriter.finish.Goals as goal

pub returns : goal.returns
returns c = λ pen cells e. c.in_ok-changes.ensures ∙ ap (λ (d : Drawing). finished d.written) (c.self.view_is ∙ e) ∙ pushed_is_difference (new_drawing pen) pen cells refl refl
