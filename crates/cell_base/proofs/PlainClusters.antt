-- Clusters as they are read.
use Rattle.std.proofs.Common.{◌≡◌, ℕ, zero, suc, ◌<◌, true, List, [], ◌∷◌, ◌++◌, length, map, take, IsUtf8, refl, sym, ap, ◌∙◌, append-nil, slice_index, arith}
use Rattle.std.specs.Prelude.{◌==◌, if◌then◌else◌}
use Rattle.std.specs.Str.{IsAscii}
use Rattle.std.specs.List.{list_all, prefix_len}
use Rattle.std.proofs.lemmas.Bool.{and_parts}
use Rattle.unicode_segmentation.specs.Grapheme.{graphemes}
use Rattle.text_clusters.specs.Plain.{is_printable, each}
use Rattle.text_clusters.proofs.PlainLemmas.{one_alone, printable_prefix, whole_run}
use Rattle.text_clusters.proofs.TextLemmas.{same_at_clusters}
use Rattle.std.specs.Str.Lossy.{replacement_bytes}
use Rattle.std.proofs.lemmas.List.{take_all}
use Rattle.std.proofs.lemmas.Str.{IsUtf8-from_ascii}
use Rattle.cell_base.specs.Cluster.{read_cluster, clusters}

-- a text that is one cluster by itself is read unchanged
pub read_alone : (p : List ℕ) → graphemes true p ≡ p ∷ [] → read_cluster p ≡ p
read_alone p e = ap (λ (gs : List (List ℕ)). if length gs == 1 then p else replacement_bytes) e

map_same : (xs : List (List ℕ)) → map (λ x. x) xs ≡ xs
map_same [] = refl
map_same (x ∷ xs) = ap (λ ys. x ∷ ys) (map_same xs)

pub clusters_are : (text : List ℕ) → IsUtf8 text → clusters text ≡ graphemes true text
clusters_are text u = same_at_clusters read_cluster (λ p. p) read_alone text u ∙ map_same (graphemes true text)

-- ---- printable ASCII

pub read_each : (prefix : List ℕ) (gs : List (List ℕ)) → list_all is_printable prefix ≡ true → map read_cluster (each prefix ++ gs) ≡ each prefix ++ map read_cluster gs
read_each [] gs h = refl
read_each (c ∷ prefix) gs h =
    let parts = and_parts (is_printable c) (list_all is_printable prefix) h in
    λ i. read_alone (c ∷ []) (one_alone c parts.0) i ∷ read_each prefix gs parts.1 i

pub plain_alone : (text : List ℕ) → prefix_len is_printable text ≡ length text → clusters text ≡ each text
plain_alone text h =
    let all : take (length text) text ≡ text = take_all (length text) text (omega arith) in
    let printable : list_all is_printable text ≡ true = ap (list_all is_printable) (sym all) ∙ printable_prefix (length text) text (omega arith) in
    ap (map read_cluster) (whole_run text h ∙ sym (append-nil (each text))) ∙ read_each text [] printable ∙ append-nil (each text)

-- one byte below 128 is ASCII
pub ascii_one : (bytes : List ℕ) → length bytes ≡ 1 → slice_index bytes 0 < 128 → IsAscii bytes
ascii_one [] l h i = absurd (omega arith)
ascii_one (x ∷ []) l h zero = h
ascii_one (x ∷ []) l h (suc i) = omega arith
ascii_one (x ∷ y ∷ rest) l h i = absurd (omega arith)

pub ascii_text : (byte : ℕ) → byte < 128 → IsUtf8 (byte ∷ [])
ascii_text byte h = IsUtf8-from_ascii (byte ∷ []) (ascii_one (byte ∷ []) refl h)
