-- Owned texts that are compared and copied.
use Rattle.std.proofs.Common.{◌≡◌, List, [], ◌∷◌, refl, ap}
use Rattle.std.specs.Prelude.{◌&&◌, String}
use Rattle.std.specs.Bool.{Decides}
use Rattle.std.specs.List.{AllZip}
use Rattle.std.specs.Cmp.Lexicographic.{pointwise, bytes_decides}
use Rattle.std.specs.String.{string_bytes, string_eq}
use Rattle.std.proofs.lemmas.Bool.{false≢true, and_parts, and_from}
use Rattle.cell_base.specs.Link.{Param, texts_of}

pub texts_cloned : {Z : Type 0} (es fs : List (String Z × String Z)) → AllZip (λ p q. (string_bytes q.0 ≡ string_bytes p.0) × (string_bytes q.1 ≡ string_bytes p.1)) es fs → texts_of fs ≡ texts_of es
texts_cloned [] [] h = refl
texts_cloned [] (f ∷ fs) h = absurd h
texts_cloned (e ∷ es) [] h = absurd h
texts_cloned (e ∷ es) (f ∷ fs) h = λ i. (h.0.0 i, h.0.1 i) ∷ texts_cloned es fs h.1 i

abbrev first : List Param → Param
first [] = ([], [])
first (p ∷ ps) = p

abbrev rest : List Param → List Param
rest [] = []
rest (p ∷ ps) = ps

pub same_texts : {Z : Type 0} (es fs : List (String Z × String Z)) → Decides (pointwise (λ p q. string_eq p.0 q.0 && string_eq p.1 q.1) es fs) (texts_of es ≡ texts_of fs)
same_texts [] [] = (λ _. refl, λ _. refl)
same_texts [] (f ∷ fs) = (λ e. absurd (false≢true e), λ e. absurd (cc))
same_texts (e ∷ es) [] = (λ t. absurd (false≢true t), λ t. absurd (cc))
same_texts (e ∷ es) (f ∷ fs) = (
  λ t.
      let both = and_parts (string_eq e.0 f.0 && string_eq e.1 f.1) (pointwise (λ p q. string_eq p.0 q.0 && string_eq p.1 q.1) es fs) t in
      let pair = and_parts (string_eq e.0 f.0) (string_eq e.1 f.1) both.0 in
      λ i. ((bytes_decides (string_bytes e.0) (string_bytes f.0)).0 pair.0 i, (bytes_decides (string_bytes e.1) (string_bytes f.1)).0 pair.1 i) ∷ (same_texts es fs).0 both.1 i,
  λ t.
      let keys : string_bytes e.0 ≡ string_bytes f.0 = ap (λ ps. (first ps).0) t in
      let values : string_bytes e.1 ≡ string_bytes f.1 = ap (λ ps. (first ps).1) t in
      let tails : texts_of es ≡ texts_of fs = ap rest t in
      and_from _ _ (and_from _ _ ((bytes_decides (string_bytes e.0) (string_bytes f.0)).1 keys) ((bytes_decides (string_bytes e.1) (string_bytes f.1)).1 values)) ((same_texts es fs).1 tails),
)
