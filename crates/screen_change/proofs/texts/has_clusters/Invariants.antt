use Rattle.std.proofs.Common.{◌≡◌, ◌≤◌, true, length}
use denote.Text.{Utf8}
use denote.Shadow.{shadow}
use Rattle.unicode_segmentation.specs.Grapheme.{graphemes}
use Rattle.screen_change.specs.Cuts.{cut_at, bytes_of}
use Rattle.screen_change.specs.Texts.{same_texts}
use Rattle.screen_change.proofs.texts.has_clusters.Given as goal

-- the remaining lengths cut the rest into its clusters exactly where all lengths do so for the whole text
abbrev pub invariant-loop-len : goal.invariant-loop-len
invariant-loop-len l = record {
  text : shadow (Utf8 l.rest);
  within : bytes_of l.left ≤ length l.rest;
  same : same_texts (graphemes true l.rest) (cut_at l.left l.rest) ≡ same_texts (graphemes true l.fn.text) (cut_at l.fn.lens l.fn.text);
}

abbrev pub decreases-loop-len : goal.decreases-loop-len
decreases-loop-len l = length l.left
