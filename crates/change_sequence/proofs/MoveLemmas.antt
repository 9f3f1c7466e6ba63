-- Where the parts of a text lead, one after the other.
use Rattle.std.proofs.Common.{◌≡◌, ℕ, List, [], ◌∷◌, ◌++◌, map, sym, ap, ◌∙◌, append-nil}
use Rattle.std.specs.Prelude.{fold}
use Rattle.std.specs.List.{flat_map}
use Rattle.std.proofs.lemmas.Grind.{flat_map-append}
use Rattle.std.proofs.lemmas.List.Sums.{fold-append}
use Rattle.text_clusters.proofs.PlainLemmas.{graphemes-nil}
use Rattle.cell_base.specs.Cluster.{clusters, read_cluster}
use Rattle.screen_effects.specs.Parts.{plain_part}
use Rattle.screen_effects.specs.Strokes.{Stroke, TextPart, Control, Cluster, part_strokes, text_parts}
use Rattle.change_sequence.specs.Sequence.{CellPosition}

module _ (step : CellPosition → Stroke → CellPosition) where
  abbrev done : CellPosition → List TextPart → CellPosition
  done position parts = fold step position (flat_map part_strokes parts)

  done-append : (p : CellPosition) (xs ys : List TextPart) → done p (xs ++ ys) ≡ done (done p xs) ys
  done-append p xs ys = ap (fold step p) (flat_map-append part_strokes xs ys) ∙ fold-append step p (flat_map part_strokes xs) (flat_map part_strokes ys)

  plain_done : (p : CellPosition) (text : List ℕ) → done p (plain_part text) ≡ fold step p (map Cluster (clusters text))
  plain_done p [] = sym (ap (λ gs. fold step p (map Cluster (map read_cluster gs))) graphemes-nil)
  plain_done p (b ∷ text) = ap (fold step p) (append-nil (map Cluster (clusters (b ∷ text))))

  pub prefix_leads : (p q : CellPosition) (text prefix rest : List ℕ) → q ≡ fold step p (map Cluster (clusters prefix)) → text_parts text ≡ plain_part prefix ++ text_parts rest → done q (text_parts rest) ≡ done p (text_parts text)
  prefix_leads p q text prefix rest s e =
      ap (λ (r : CellPosition). done r (text_parts rest)) (s ∙ sym (plain_done p prefix)) ∙ sym (done-append p (plain_part prefix) (text_parts rest)) ∙ ap (done p) (sym e)

  pub control_leads : (p q : CellPosition) (rest after : List ℕ) (control : ℕ) → q ≡ done p (Control control ∷ []) → text_parts rest ≡ Control control ∷ text_parts after → done q (text_parts after) ≡ done p (text_parts rest)
  control_leads p q rest after control s e =
      ap (λ (r : CellPosition). done r (text_parts after)) s ∙ sym (done-append p (Control control ∷ []) (text_parts after)) ∙ ap (done p) (sym e)
