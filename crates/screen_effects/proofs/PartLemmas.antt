-- The parts of a text have clusters that are texts of cells (`IsCellText`).
use Rattle.std.proofs.Common.{◌≡◌, ℕ, ◌+◌, ◌/◌, ◌<◌, ◌≤◌, inl, inr, true, false, List, [], ◌∷◌, ◌++◌, length, map, refl, sym, ap, subst, ◌∙◌, arith}
use Rattle.std.specs.Prelude.{⊤, ◌||◌, ◌⊎◌, ◌==◌, encode_utf8_all, if◌then◌else◌}
use Rattle.std.specs.List.{list_any, concat, flat_map}
use Rattle.std.specs.Char.{IsScalar, is_ascii_control}
use Rattle.std.specs.Str.{IsUtf8, chars}
use Rattle.std.specs.Str.Lossy.{replacement_bytes}
use Rattle.std.proofs.lemmas.Bool.{and_parts, cases_lt, or_parts}
use Rattle.std.proofs.lemmas.Bool.Decides.{nat_tests}
use Rattle.std.proofs.lemmas.List.Folds.{list_any-append}
use Rattle.std.proofs.lemmas.Str.{encode_ascii, IsUtf8-encode, IsUtf8-append}
use lib.Utf8.{encode, scalar, scalars, next}
use Rattle.unicode_segmentation.specs.Grapheme.{graphemes}
use Rattle.unicode_segmentation.proofs.Computing.{unicode_segmentation}
use Rattle.cell_base.specs.Cluster.{clusters, is_cluster, read_cluster}
use Rattle.cell_base.specs.Row.{space}
use Rattle.text_clusters.proofs.TextLemmas.{same_at_clusters, joined_clusters}
use Rattle.screen_effects.specs.Strokes.{Stroke, CarriageReturn, LineFeed, Cluster, TextPart, Control, Plain, with_byte, text_parts, part_strokes, strokes}
use Rattle.screen_effects.specs.WrittenCells.{IsCellText}
use Rattle.screen_change.proofs.TextLemmas.{by_test}
use Rattle.screen_effects.proofs.WrittenLemmas.{AreTexts}

-- ---- the bytes of a character above ASCII are no controls

high_byte : (x : ℕ) → 128 ≤ x → is_ascii_control x ≡ false
high_byte x h = grind (arith, nat_tests)

two : (c : ℕ) → 128 ≤ c → c < 2048 → encode c ≡ (192 + c / 64) ∷ next c ∷ []
unfolding encode
two c l h = grind (arith, nat_tests)

three : (c : ℕ) → 2048 ≤ c → c < 65536 → encode c ≡ (224 + c / 4096) ∷ next (c / 64) ∷ next c ∷ []
unfolding encode
three c l h = grind (arith, nat_tests)

four : (c : ℕ) → 65536 ≤ c → encode c ≡ (240 + c / 262144) ∷ next (c / 4096) ∷ next (c / 64) ∷ next c ∷ []
unfolding encode
four c l = grind (arith, nat_tests)

none_two : (x y : ℕ) → 128 ≤ x → 128 ≤ y → list_any is_ascii_control (x ∷ y ∷ []) ≡ false
none_two x y p q = λ i. high_byte x p i || (high_byte y q i || false)

none_three : (x y z : ℕ) → 128 ≤ x → 128 ≤ y → 128 ≤ z → list_any is_ascii_control (x ∷ y ∷ z ∷ []) ≡ false
none_three x y z p q r = λ i. high_byte x p i || (high_byte y q i || (high_byte z r i || false))

none_four : (x y z w : ℕ) → 128 ≤ x → 128 ≤ y → 128 ≤ z → 128 ≤ w → list_any is_ascii_control (x ∷ y ∷ z ∷ w ∷ []) ≡ false
none_four x y z w p q r s = λ i. high_byte x p i || (high_byte y q i || (high_byte z r i || (high_byte w s i || false)))

high_bytes : (c : ℕ) → 128 ≤ c → list_any is_ascii_control (encode c) ≡ false
high_bytes c h = by_two (cases_lt c 2048)
  where
    by_three : 2048 ≤ c → (c < 65536) ⊎ (65536 ≤ c) → list_any is_ascii_control (encode c) ≡ false
    by_three g (inl l) = ap (list_any is_ascii_control) (three c g l) ∙ none_three (224 + c / 4096) (next (c / 64)) (next c) (omega arith) (omega arith) (omega arith)
    by_three g (inr l) = ap (list_any is_ascii_control) (four c l) ∙ none_four (240 + c / 262144) (next (c / 4096)) (next (c / 64)) (next c) (omega arith) (omega arith) (omega arith) (omega arith)

    by_two : (c < 2048) ⊎ (2048 ≤ c) → list_any is_ascii_control (encode c) ≡ false
    by_two (inl l) = ap (list_any is_ascii_control) (two c h l) ∙ none_two (192 + c / 64) (next c) (omega arith) (omega arith)
    by_two (inr g) = by_three g (cases_lt c 65536)

-- ---- parts of a text

abbrev IsGood : TextPart → Type 0
IsGood (Control byte) = ⊤
IsGood (Plain text) = IsUtf8 text × (list_any is_ascii_control text ≡ false)

abbrev AreGood : List TextPart → Type 0
AreGood [] = ⊤
AreGood (part ∷ parts) = IsGood part × AreGood parts

abbrev put_prefix : List ℕ → List TextPart → List TextPart
put_prefix [] parts = parts
put_prefix (byte ∷ bytes) parts = with_byte byte (put_prefix bytes parts)

parts_after : (bytes rest : List ℕ) → list_any is_ascii_control bytes ≡ false → text_parts (bytes ++ rest) ≡ put_prefix bytes (text_parts rest)
parts_after [] rest e = refl
parts_after (byte ∷ bytes) rest e =
    let p = or_parts (is_ascii_control byte) (list_any is_ascii_control bytes) e in
    ap (λ b. if b then Control byte ∷ text_parts (bytes ++ rest) else with_byte byte (text_parts (bytes ++ rest))) p.0
    ∙ ap (with_byte byte) (parts_after bytes rest p.1)

before_plain : (bytes text : List ℕ) (parts : List TextPart) → put_prefix bytes (Plain text ∷ parts) ≡ Plain (bytes ++ text) ∷ parts
before_plain [] text parts = refl
before_plain (byte ∷ bytes) text parts = ap (with_byte byte) (before_plain bytes text parts)

before_none : (byte : ℕ) (bytes : List ℕ) → put_prefix (byte ∷ bytes) [] ≡ Plain (byte ∷ bytes) ∷ []
before_none byte [] = refl
before_none byte (second ∷ bytes) = ap (with_byte byte) (before_none second bytes)

before_control : (byte : ℕ) (bytes : List ℕ) (control : ℕ) (parts : List TextPart) → put_prefix (byte ∷ bytes) (Control control ∷ parts) ≡ Plain (byte ∷ bytes) ∷ Control control ∷ parts
before_control byte [] control parts = refl
before_control byte (second ∷ bytes) control parts = ap (with_byte byte) (before_control second bytes control parts)

good_after : (bytes : List ℕ) (parts : List TextPart) → IsUtf8 bytes → list_any is_ascii_control bytes ≡ false → AreGood parts → AreGood (put_prefix bytes parts)
good_after [] parts u n g = g
good_after (byte ∷ bytes) [] u n g = subst AreGood (sym (before_none byte bytes)) ((u, n), tt)
good_after (byte ∷ bytes) (Control control ∷ parts) u n g = subst AreGood (sym (before_control byte bytes control parts)) ((u, n), g)
good_after (byte ∷ bytes) (Plain text ∷ parts) u n g =
    subst AreGood (sym (before_plain (byte ∷ bytes) text parts))
    ((IsUtf8-append (byte ∷ bytes) text u g.0.0, list_any-append is_ascii_control (byte ∷ bytes) text ∙ (λ i. n i || g.0.1 i)), g.1)

single_byte : (c : ℕ) (parts : List TextPart) (rest : List ℕ) → text_parts rest ≡ parts → c < 128 → AreGood parts → AreGood (text_parts (c ∷ rest))
single_byte c parts rest e h g =
    by_test (is_ascii_control c)
    (λ t. subst AreGood (sym (λ i. if t i then Control c ∷ e i else with_byte c (e i))) (tt, g))
    (λ t.
    subst AreGood (sym (λ i. if t i then Control c ∷ e i else with_byte c (e i)))
    (good_after (c ∷ []) parts (subst IsUtf8 (encode_ascii c h) (IsUtf8-encode c (ascii_scalar c h))) (ap (λ b. b || false) t) g))
  where
    ascii_scalar : (c : ℕ) → c < 128 → IsScalar c
    ascii_scalar c h = grind (arith, nat_tests)

good_characters : (cs : List ℕ) → scalars cs ≡ true → AreGood (text_parts (encode_utf8_all cs))
good_characters [] s = tt
good_characters (c ∷ cs) s =
    let p = and_parts (scalar c) (scalars cs) s in
    by_order (cases_lt c 128) p.0 (good_characters cs p.1)
  where
    by_order : (c < 128) ⊎ (128 ≤ c) → scalar c ≡ true → AreGood (text_parts (encode_utf8_all cs)) → AreGood (text_parts (encode_utf8_all (c ∷ cs)))
    by_order (inl l) p g = subst (λ (bs : List ℕ). AreGood (text_parts (bs ++ encode_utf8_all cs))) (sym (encode_ascii c l)) (single_byte c (text_parts (encode_utf8_all cs)) (encode_utf8_all cs) refl l g)
    by_order (inr l) p g =
        subst AreGood (sym (parts_after (encode c) (encode_utf8_all cs) (high_bytes c l)))
        (good_after (encode c) (text_parts (encode_utf8_all cs)) (IsUtf8-encode c p) (high_bytes c l) g)

good_parts : (text : List ℕ) → IsUtf8 text → AreGood (text_parts text)
good_parts text u = subst (λ (t : List ℕ). AreGood (text_parts t)) u.1.1 (good_characters u.0 u.1.0)

-- ---- clusters

read_alone : (p : List ℕ) → graphemes true p ≡ p ∷ [] → read_cluster p ≡ p
read_alone p e =
    let one : is_cluster p ≡ true = ap (λ (g : List (List ℕ)). length g == 1) e in
    ap (λ b. if b then p else replacement_bytes) one

map_same : (xs : List (List ℕ)) → map (λ x. x) xs ≡ xs
map_same [] = refl
map_same (x ∷ xs) = ap (λ (ys : List (List ℕ)). x ∷ ys) (map_same xs)

heads : (x y : List (List ℕ)) (xs ys : List (List (List ℕ))) → x ∷ xs ≡ y ∷ ys → x ≡ y
heads x y xs ys e = cc

tails : (x y : List (List ℕ)) (xs ys : List (List (List ℕ))) → x ∷ xs ≡ y ∷ ys → xs ≡ ys
tails x y xs ys e = cc

each_stands : (gs : List (List ℕ)) → map (graphemes true) gs ≡ map (λ g. g ∷ []) gs → list_any is_ascii_control (concat gs) ≡ false → AreTexts gs
each_stands [] e n = tt
each_stands (g ∷ gs) e n =
    let p = or_parts (list_any is_ascii_control g) (list_any is_ascii_control (concat gs)) (sym (list_any-append is_ascii_control g (concat gs)) ∙ n) in (
      record { alone = heads (graphemes true g) (g ∷ []) (map (graphemes true) gs) (map (λ x. x ∷ []) gs) e; printed = p.0 },
      each_stands gs (tails (graphemes true g) (g ∷ []) (map (graphemes true) gs) (map (λ x. x ∷ []) gs) e) p.1,
    )

pub clusters_stand : (text : List ℕ) → IsUtf8 text → list_any is_ascii_control text ≡ false → AreTexts (clusters text)
clusters_stand text u n =
    subst AreTexts (sym (same_at_clusters read_cluster (λ p. p) read_alone text u ∙ map_same (graphemes true text)))
    (each_stands (graphemes true text) (same_at_clusters (graphemes true) (λ p. p ∷ []) (λ p e. e) text u) (ap (list_any is_ascii_control) (joined_clusters text u) ∙ n))

space_alone : graphemes true (32 ∷ []) ≡ (32 ∷ []) ∷ []
unfolding unicode_segmentation chars
space_alone = refl

pub space_stands : IsCellText space
space_stands = record { alone = space_alone; printed = refl }

-- ---- strokes

abbrev pub IsSoundStroke : Stroke → Type 0
IsSoundStroke CarriageReturn = ⊤
IsSoundStroke LineFeed = ⊤
IsSoundStroke (Cluster text) = IsCellText text

abbrev pub AreSoundStrokes : List Stroke → Type 0
AreSoundStrokes [] = ⊤
AreSoundStrokes (stroke ∷ strokes) = IsSoundStroke stroke × AreSoundStrokes strokes

sound_after : (xs ys : List Stroke) → AreSoundStrokes xs → AreSoundStrokes ys → AreSoundStrokes (xs ++ ys)
sound_after [] ys p q = q
sound_after (x ∷ xs) ys p q = (p.0, sound_after xs ys p.1 q)

cluster_strokes : (ts : List (List ℕ)) → AreTexts ts → AreSoundStrokes (map Cluster ts)
cluster_strokes [] p = tt
cluster_strokes (t ∷ ts) p = (p.0, cluster_strokes ts p.1)

part_is_sound : (part : TextPart) → IsGood part → AreSoundStrokes (part_strokes part)
part_is_sound (Control byte) g =
    by_test (byte == 13)
    (λ a. subst AreSoundStrokes (sym (ap (λ b. if b then CarriageReturn ∷ [] else if byte == 10 then LineFeed ∷ [] else Cluster space ∷ []) a)) (tt, tt))
    (λ a.
    by_test (byte == 10)
    (λ b. subst AreSoundStrokes (sym (λ i. if a i then CarriageReturn ∷ [] else if b i then LineFeed ∷ [] else Cluster space ∷ [])) (tt, tt))
    (λ b. subst AreSoundStrokes (sym (λ i. if a i then CarriageReturn ∷ [] else if b i then LineFeed ∷ [] else Cluster space ∷ [])) (space_stands, tt)))
part_is_sound (Plain text) g = cluster_strokes (clusters text) (clusters_stand text g.0 g.1)

parts_are_sound : (parts : List TextPart) → AreGood parts → AreSoundStrokes (flat_map part_strokes parts)
parts_are_sound [] g = tt
parts_are_sound (part ∷ parts) g = sound_after (part_strokes part) (flat_map part_strokes parts) (part_is_sound part g.0) (parts_are_sound parts g.1)

pub strokes_are_sound : (text : List ℕ) → IsUtf8 text → AreSoundStrokes (strokes text)
strokes_are_sound text u = parts_are_sound (text_parts text) (good_parts text u)
