use Rattle.std.proofs.Common.{◌≡◌, true, length}
use denote.Text.{Utf8}
use denote.Shadow.{shadow}
use Rattle.unicode_segmentation.specs.Grapheme.{graphemes}
use Rattle.text_clusters.specs.Plain.{each}
use Rattle.screen_change.specs.Texts.{same_texts}
use Rattle.screen_change.proofs.texts.are_bytes.Given as goal

-- the clusters of the rest are its bytes exactly where those of the whole text are
abbrev pub invariant-loop-rest : goal.invariant-loop-rest
invariant-loop-rest l = shadow (Utf8 l.rest) × (same_texts (graphemes true l.rest) (each l.rest) ≡ same_texts (graphemes true l.fn.text) (each l.fn.text))

abbrev pub decreases-loop-rest : goal.decreases-loop-rest
decreases-loop-rest l = length l.rest
