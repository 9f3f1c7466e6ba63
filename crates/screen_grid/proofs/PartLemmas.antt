-- Texts that are drawn part by part.
use Rattle.std.proofs.Common.{◌≡◌, ℕ, true, List, [], ◌∷◌, ◌++◌, map, fold, sym, ap, ◌∙◌, append-nil}
use Rattle.std.specs.List.{flat_map, list_all}
use Rattle.std.proofs.lemmas.Grind.{flat_map-append}
use Rattle.std.proofs.lemmas.List.Sums.{fold-append}
use Rattle.text_clusters.specs.Plain.{is_printable}
use Rattle.text_clusters.proofs.PlainLemmas.{graphemes-nil}
use Rattle.cell_base.specs.Cluster.{clusters, read_cluster}
use Rattle.screen_grid.specs.Grid.{Grid, Shows, clusters_done, display_of}
use Rattle.screen_grid.specs.Parts.{PartsLead, parts_done}
use Rattle.screen_effects.specs.Parts.{IsAtControl, plain_part}
use Rattle.screen_effects.proofs.TextLemmas.{plain_parts}
use Rattle.screen_effects.specs.Display.{Display}
use Rattle.screen_effects.specs.Strokes.{TextPart, Control, Cluster, part_strokes, stroke_done, text_done, text_parts}

pub done-append : (width_of : List ℕ → ℕ) (d : Display) (xs ys : List TextPart) → parts_done width_of d (xs ++ ys) ≡ parts_done width_of (parts_done width_of d xs) ys
done-append width_of d xs ys = ap (fold (stroke_done width_of) d) (flat_map-append part_strokes xs ys) ∙ fold-append (stroke_done width_of) d (flat_map part_strokes xs) (flat_map part_strokes ys)

plain_done : (width_of : List ℕ → ℕ) (d : Display) (text : List ℕ) → parts_done width_of d (plain_part text) ≡ clusters_done width_of d (clusters text)
plain_done width_of d [] = sym (ap (λ gs. clusters_done width_of d (map read_cluster gs)) graphemes-nil)
plain_done width_of d (b ∷ text) = ap (fold (stroke_done width_of) d) (append-nil (map Cluster (clusters (b ∷ text))))

-- printable characters put their clusters
pub plain_puts : (width_of : List ℕ → ℕ) (d : Display) (text : List ℕ) → list_all is_printable text ≡ true → text_done width_of d text ≡ clusters_done width_of d (clusters text)
plain_puts width_of d text p = ap (parts_done width_of d) (plain_parts text p ∙ append-nil (plain_part text)) ∙ plain_done width_of d text

module _ {W : Type 0} (width_of : List ℕ → ℕ) where
  -- the start of a text was drawn
  pub prefix_leads : (c new : Grid W) (text prefix rest : List ℕ) → Shows c new (clusters_done width_of (display_of c) (clusters prefix)) → text_parts text ≡ plain_part prefix ++ text_parts rest → IsAtControl rest → PartsLead width_of c new text rest
  prefix_leads c new text prefix rest s e k = record {
    same = ap (λ (d : Display). parts_done width_of d (text_parts rest)) (s.same ∙ sym (plain_done width_of (display_of c) prefix))
        ∙ sym (done-append width_of (display_of c) (plain_part prefix) (text_parts rest)) ∙ ap (parts_done width_of (display_of c)) (sym e);
    widths = s.widths;
    drawn = s.drawn;
    control = k;
  }

  -- a control, and the text after it
  pub control_leads : (c now ctl new : Grid W) (text rest after remaining : List ℕ) (control : ℕ) → PartsLead width_of c now text rest → text_parts rest ≡ Control control ∷ text_parts after
      → Shows now ctl (parts_done width_of (display_of now) (Control control ∷ [])) → PartsLead width_of ctl new after remaining → PartsLead width_of c new text remaining
  control_leads c now ctl new text rest after remaining control p e s q = record {
    same = q.same ∙ ap (λ (d : Display). parts_done width_of d (text_parts after)) s.same
        ∙ sym (done-append width_of (display_of now) (Control control ∷ []) (text_parts after)) ∙ ap (parts_done width_of (display_of now)) (sym e) ∙ p.same;
    widths = q.widths ∙ s.widths ∙ p.widths;
    drawn = q.drawn;
    control = q.control;
  }
