-- Clusters of a run's text are texts that a run has.
use Rattle.std.proofs.Common.{◌≡◌, ℕ, zero, suc, ◌≤◌, true, List, [], ◌∷◌, ◌++◌, length, take, refl, sym, ap, subst, ◌∙◌, arith, IsUtf8}
use Rattle.std.specs.Prelude.{⊤, not, encode_utf8_all}
use Rattle.std.specs.List.{concat, list_all}
use Rattle.std.specs.Char.{is_ascii_control}
use Rattle.std.specs.Str.{all_scalars}
use Rattle.std.proofs.lemmas.Bool.{and_parts}
use Rattle.std.proofs.lemmas.List.Folds.{list_all-append}
use Rattle.std.proofs.lemmas.Str.{IsCharBoundary-at_seam, IsUtf8-take}
use Rattle.unicode_segmentation.specs.Grapheme.{graphemes}
use Rattle.text_clusters.proofs.PlainLemmas.{graphemes-nil}
use Rattle.text_clusters.proofs.TextLemmas.{after_fewer, after_scalars, chars_after, cluster_cut, cluster_whole, first_cluster, joined_clusters}
use Rattle.cell_base.specs.Cluster.{clusters}
use Rattle.cell_base.proofs.PlainClusters.{clusters_are}
use Rattle.terminal_table.specs.RunText.{IsRunText}

take_first : (xs ys : List ℕ) → take (length xs) (xs ++ ys) ≡ xs
take_first [] ys = refl
take_first (x ∷ xs) ys = ap (λ (zs : List ℕ). x ∷ zs) (take_first xs ys)

-- what stands before UTF-8 in UTF-8
utf8_before : (xs ys : List ℕ) → IsUtf8 (xs ++ ys) → IsUtf8 ys → IsUtf8 xs
utf8_before xs ys h k = subst IsUtf8 (take_first xs ys) (IsUtf8-take (xs ++ ys) (length xs) h (IsCharBoundary-at_seam (xs ++ ys) xs ys refl k))

characters_utf8 : (cs : List ℕ) → all_scalars cs ≡ true → IsUtf8 (encode_utf8_all cs)
characters_utf8 cs s = (cs, (s, refl))

-- each of some texts
abbrev pub AreUtf8 : List (List ℕ) → Type 0
AreUtf8 [] = ⊤
AreUtf8 (text ∷ texts) = IsUtf8 text × AreUtf8 texts

clusters_utf8 : (n : ℕ) (cs : List ℕ) → all_scalars cs ≡ true → length cs ≤ n → AreUtf8 (graphemes true (encode_utf8_all cs))
clusters_utf8 n [] s h = subst AreUtf8 (sym graphemes-nil) tt
clusters_utf8 zero (c ∷ cs) s h = absurd (omega arith)
clusters_utf8 (suc n) (c ∷ cs) s h =
    let fewer = after_fewer c cs s in
    let rest = after_scalars c cs s in
    let first : IsUtf8 (first_cluster c cs s) =
    utf8_before (first_cluster c cs s) (encode_utf8_all (chars_after c cs s)) (subst IsUtf8 (cluster_whole c cs s) (characters_utf8 (c ∷ cs) s)) (characters_utf8 (chars_after c cs s) rest) in
    subst AreUtf8 (sym (cluster_cut c cs s)) (first, clusters_utf8 n (chars_after c cs s) rest (omega arith))

-- texts of runs
abbrev pub AreRunTexts : List (List ℕ) → Type 0
AreRunTexts [] = ⊤
AreRunTexts (text ∷ texts) = IsRunText text × AreRunTexts texts

with_printed : (texts : List (List ℕ)) → AreUtf8 texts → list_all (λ b. not (is_ascii_control b)) (concat texts) ≡ true → AreRunTexts texts
with_printed [] u p = tt
with_printed (text ∷ texts) u p =
    let parts = and_parts (list_all (λ b. not (is_ascii_control b)) text) (list_all (λ b. not (is_ascii_control b)) (concat texts)) (sym (list_all-append (λ b. not (is_ascii_control b)) text (concat texts)) ∙ p) in
    (record { utf8 = u.0; printed = parts.0 }, with_printed texts u.1 parts.1)

pub clusters_run : (text : List ℕ) → IsRunText text → AreRunTexts (clusters text)
clusters_run text h =
    let u = h.utf8 in
    let all : AreUtf8 (graphemes true text) = subst (λ (t : List ℕ). AreUtf8 (graphemes true t)) u.1.1 (clusters_utf8 (length u.0) u.0 u.1.0 (omega arith)) in
    subst AreRunTexts (sym (clusters_are text u))
    (with_printed (graphemes true text) all (ap (list_all (λ b. not (is_ascii_control b))) (joined_clusters text u) ∙ h.printed))
