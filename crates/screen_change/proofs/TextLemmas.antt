-- Texts of cells, and texts that are joined.
use Rattle.std.proofs.Common.{◌≡◌, ℕ, ◌∙◌, Bool, true, false, List, [], ◌∷◌, ◌++◌, map, refl, ap, ap₂}
use Rattle.std.specs.Prelude.{if◌then◌else◌}
use Rattle.std.specs.List.{flat_map, concat}
use Rattle.std.specs.Str.{bytes_eq}
use Rattle.std.proofs.lemmas.List.{append-nil}
use Rattle.std.proofs.lemmas.Bool.{and_parts, false≢true}
use Rattle.std.proofs.lemmas.Slice.Eq.{bytes_eq-Decides}
use Rattle.unicode_segmentation.specs.Grapheme.{graphemes}
use Rattle.screen_change.specs.Texts.{same_texts, stay_independent, texts}

-- both answers of a test
pub by_test : {P : Type 0} (b : Bool) → (b ≡ true → P) → (b ≡ false → P) → P
by_test {P} b is not_is = (elim b as (λ w. b ≡ w → P) [ true ↦ is | false ↦ not_is ]) refl

-- ---- equal lists of texts

pub same_texts_are : (xs ys : List (List ℕ)) → same_texts xs ys ≡ true → xs ≡ ys
same_texts_are [] [] e = refl
same_texts_are [] (y ∷ ys) e = absurd (false≢true e)
same_texts_are (x ∷ xs) [] e = absurd (false≢true e)
same_texts_are (x ∷ xs) (y ∷ ys) e =
    let parts = and_parts (bytes_eq x y) (same_texts xs ys) e in
    ap₂ ◌∷◌ ((bytes_eq-Decides x y).0 parts.0) (same_texts_are xs ys parts.1)

-- ---- texts that are joined

pub no_texts : texts [] ≡ []
unfolding texts
no_texts = refl

pub one_text : (cell : List ℕ) (cells : List (List ℕ)) → stay_independent (cell ∷ cells) ≡ true → texts (cell ∷ cells) ≡ concat (cell ∷ cells) ∷ []
unfolding texts
one_text cell cells e = ap (λ t. if t then concat (cell ∷ cells) ∷ [] else cell ∷ cells) e

pub each_text : (cell : List ℕ) (cells : List (List ℕ)) → stay_independent (cell ∷ cells) ≡ false → texts (cell ∷ cells) ≡ cell ∷ cells
unfolding texts
each_text cell cells e = ap (λ t. if t then concat (cell ∷ cells) ∷ [] else cell ∷ cells) e

pub bytes_of_texts : (cells : List (List ℕ)) → concat (texts cells) ≡ concat cells
bytes_of_texts [] = ap concat no_texts
bytes_of_texts (cell ∷ cells) =
    by_test (stay_independent (cell ∷ cells))
    (λ e. ap concat (one_text cell cells e) ∙ append-nil (concat (cell ∷ cells)))
    (λ e. ap concat (each_text cell cells e))

flat_by_map : (f : List ℕ → List (List ℕ)) (xs : List (List ℕ)) → flat_map f xs ≡ flat_map (λ ys. ys) (map f xs)
flat_by_map f [] = refl
flat_by_map f (x ∷ xs) = ap (λ (ys : List (List ℕ)). f x ++ ys) (flat_by_map f xs)

flat_alone : (xs : List (List ℕ)) → flat_map (λ ys. ys) (map (λ x. x ∷ []) xs) ≡ xs
flat_alone [] = refl
flat_alone (x ∷ xs) = ap (λ (ys : List (List ℕ)). x ∷ ys) (flat_alone xs)

pub clusters_of_texts : (cells : List (List ℕ)) → map (graphemes true) cells ≡ map (λ cell. cell ∷ []) cells → flat_map (graphemes true) (texts cells) ≡ cells
clusters_of_texts [] p = ap (flat_map (graphemes true)) no_texts
clusters_of_texts (cell ∷ cells) p =
    by_test (stay_independent (cell ∷ cells))
    (λ e.
    ap (flat_map (graphemes true)) (one_text cell cells e)
    ∙ append-nil (graphemes true (concat (cell ∷ cells)))
    ∙ same_texts_are (graphemes true (concat (cell ∷ cells))) (cell ∷ cells) e)
    (λ e.
    ap (flat_map (graphemes true)) (each_text cell cells e)
    ∙ flat_by_map (graphemes true) (cell ∷ cells)
    ∙ ap (flat_map (λ ys. ys)) p
    ∙ flat_alone (cell ∷ cells))
