-- The clusters of a text after some of them, and of each by itself.
use Rattle.std.proofs.Common.{◌≡◌, ℕ, zero, suc, ◌≤◌, true, ◌&&◌, List, [], ◌∷◌, ◌++◌, length, map, drop, IsUtf8, refl, sym, ap, ap₂, subst, ◌∙◌, arith, length-append}
use Rattle.std.specs.Prelude.{encode_utf8_all}
use Rattle.std.specs.List.{concat}
use Rattle.std.specs.Str.{all_scalars}
use Rattle.std.proofs.lemmas.Bool.{and_parts}
use Rattle.std.proofs.lemmas.Str.{chars-encodes, encodes-append}
use Rattle.unicode_segmentation.specs.Grapheme.{graphemes}
use Rattle.unicode_segmentation.specs.Segments.{segments}
use Rattle.text_clusters.proofs.CutLemmas.{pieces, First, first}
use Rattle.text_clusters.proofs.PlainLemmas.{graphemes-nil}

-- the clusters of characters
pub graphemes_of : (cs : List ℕ) → all_scalars cs ≡ true → graphemes true (encode_utf8_all cs) ≡ map encode_utf8_all (pieces [] cs)
unfolding segments
graphemes_of cs s = ap (λ (ds : List ℕ). map encode_utf8_all (pieces [] ds)) (chars-encodes cs s)

scalars_joined : (xs ys : List ℕ) → all_scalars (xs ++ ys) ≡ true → (all_scalars xs ≡ true) × (all_scalars ys ≡ true)
scalars_joined [] ys h = (refl, h)
scalars_joined (c ∷ xs) ys h =
    let parts = and_parts _ (all_scalars (xs ++ ys)) h in
    let rest = scalars_joined xs ys parts.1 in
    (ap₂ ◌&&◌ parts.0 rest.0, rest.1)

module _ (c : ℕ) (cs : List ℕ) (scalars : all_scalars (c ∷ cs) ≡ true) where
  one : First [] c cs
  one = first [] c cs

  parts : (all_scalars (c ∷ one.remaining) ≡ true) × (all_scalars one.rest ≡ true)
  parts = scalars_joined (c ∷ one.remaining) one.rest (ap (λ (xs : List ℕ). all_scalars (c ∷ xs)) (sym one.whole) ∙ scalars)

  pub first_cluster : List ℕ
  first_cluster = encode_utf8_all (c ∷ one.remaining)

  pub chars_after : List ℕ
  chars_after = one.rest

  pub after_scalars : all_scalars chars_after ≡ true
  unfolding chars_after
  after_scalars = parts.1

  pub after_fewer : length chars_after ≤ length cs
  unfolding chars_after
  after_fewer = omega (arith, ap length one.whole, length-append one.remaining one.rest)

  pub cluster_cut : graphemes true (encode_utf8_all (c ∷ cs)) ≡ first_cluster ∷ graphemes true (encode_utf8_all chars_after)
  unfolding first_cluster chars_after
  cluster_cut =
      graphemes_of (c ∷ cs) scalars ∙ ap (map encode_utf8_all) one.cut
      ∙ ap (λ (gs : List (List ℕ)). encode_utf8_all (c ∷ one.remaining) ∷ gs) (sym (graphemes_of one.rest parts.1))

  pub cluster_alone : graphemes true first_cluster ≡ first_cluster ∷ []
  unfolding first_cluster
  cluster_alone = graphemes_of (c ∷ one.remaining) parts.0 ∙ ap (map encode_utf8_all) one.alone

  pub cluster_whole : encode_utf8_all (c ∷ cs) ≡ first_cluster ++ encode_utf8_all chars_after
  unfolding first_cluster chars_after
  cluster_whole = ap (λ (xs : List ℕ). encode_utf8_all (c ∷ xs)) one.whole ∙ encodes-append (c ∷ one.remaining) one.rest

-- ---- each cluster by itself

module _ {X : Type 0} (f g : List ℕ → X) (same : (p : List ℕ) → graphemes true p ≡ p ∷ [] → f p ≡ g p) where
  same_at_each : (n : ℕ) (cs : List ℕ) → all_scalars cs ≡ true → length cs ≤ n → map f (graphemes true (encode_utf8_all cs)) ≡ map g (graphemes true (encode_utf8_all cs))
  same_at_each n [] s h = ap (map f) graphemes-nil ∙ sym (ap (map g) graphemes-nil)
  same_at_each zero (c ∷ cs) s h = absurd (omega arith)
  same_at_each (suc n) (c ∷ cs) s h =
      let fewer = after_fewer c cs s in
      let t = cluster_cut c cs s in
      ap (map f) t
      ∙ (λ i. same (first_cluster c cs s) (cluster_alone c cs s) i ∷ same_at_each n (chars_after c cs s) (after_scalars c cs s) (omega arith) i)
      ∙ sym (ap (map g) t)

  -- functions that agree on each text that is a single cluster agree on each cluster of a text
  pub same_at_clusters : (text : List ℕ) → IsUtf8 text → map f (graphemes true text) ≡ map g (graphemes true text)
  same_at_clusters text u = subst (λ (t : List ℕ). map f (graphemes true t) ≡ map g (graphemes true t)) u.1.1 (same_at_each (length u.0) u.0 u.1.0 (omega arith))

-- ---- after some clusters

joined : (n : ℕ) (cs : List ℕ) → all_scalars cs ≡ true → length cs ≤ n → concat (graphemes true (encode_utf8_all cs)) ≡ encode_utf8_all cs
joined n [] s h = ap concat graphemes-nil
joined zero (c ∷ cs) s h = absurd (omega arith)
joined (suc n) (c ∷ cs) s h =
    let fewer = after_fewer c cs s in
    ap concat (cluster_cut c cs s) ∙ ap (λ (xs : List ℕ). first_cluster c cs s ++ xs) (joined n (chars_after c cs s) (after_scalars c cs s) (omega arith))
    ∙ sym (cluster_whole c cs s)

-- the clusters, joined, are the text
pub joined_clusters : (text : List ℕ) → IsUtf8 text → concat (graphemes true text) ≡ text
joined_clusters text u = subst (λ (t : List ℕ). concat (graphemes true t) ≡ t) u.1.1 (joined (length u.0) u.0 u.1.0 (omega arith))

cut_again : (k n : ℕ) (cs : List ℕ) → all_scalars cs ≡ true → length cs ≤ n
    → graphemes true (concat (drop k (graphemes true (encode_utf8_all cs)))) ≡ drop k (graphemes true (encode_utf8_all cs))
cut_again zero n cs s h = ap (graphemes true) (joined n cs s h)
cut_again (suc k) n [] s h = ap (λ (gs : List (List ℕ)). graphemes true (concat (drop (suc k) gs))) graphemes-nil ∙ graphemes-nil ∙ sym (ap (drop (suc k)) graphemes-nil)
cut_again (suc k) zero (c ∷ cs) s h = absurd (omega arith)
cut_again (suc k) (suc n) (c ∷ cs) s h =
    let fewer = after_fewer c cs s in
    let t = cluster_cut c cs s in
    ap (λ (gs : List (List ℕ)). graphemes true (concat (drop (suc k) gs))) t
    ∙ cut_again k n (chars_after c cs s) (after_scalars c cs s) (omega arith)
    ∙ sym (ap (drop (suc k)) t)

-- the text after its first k clusters has the remaining clusters
pub clusters_after : (k : ℕ) (text : List ℕ) → IsUtf8 text → graphemes true (concat (drop k (graphemes true text))) ≡ drop k (graphemes true text)
clusters_after k text u = subst (λ (t : List ℕ). graphemes true (concat (drop k (graphemes true t))) ≡ drop k (graphemes true t)) u.1.1 (cut_again k (length u.0) u.0 u.1.0 (omega arith))

-- the first cluster by itself
pub first_alone : (text g : List ℕ) (gs : List (List ℕ)) → IsUtf8 text → graphemes true text ≡ g ∷ gs → graphemes true g ≡ g ∷ []
first_alone text g gs u e =
    let each_alone : map (graphemes true) (graphemes true text) ≡ map (λ cluster. cluster ∷ []) (graphemes true text) = same_at_clusters (graphemes true) (λ cluster. cluster ∷ []) (λ p e. e) text u in
    let at_first : map (graphemes true) (g ∷ gs) ≡ map (λ cluster. cluster ∷ []) (g ∷ gs) =
    sym (ap (map (graphemes true)) e) ∙ each_alone ∙ ap (map (λ cluster. cluster ∷ [])) e in
    cc
