-- Texts without U+0080 to U+009F: two of them joined are one, and so is each cluster of one without C0 controls and DEL.
use Rattle.std.proofs.Common.{◌≡◌, ℕ, zero, suc, ◌+◌, ◌/◌, ◌%◌, ◌<◌, ◌≤◌, inl, inr, Bool, true, false, List, [], ◌∷◌, ◌++◌, length, map, refl, sym, ap, subst, ◌∙◌, arith, append_assoc, append-nil, length-append}
use Rattle.std.specs.Prelude.{⊤, ◌-◌, ◌⊎◌, ◌==◌, ◌&&◌, ◌||◌, not, nat_le, nat_lt, slice_index_or, All, encode_utf8, encode_utf8_all, if◌then◌else◌}
use Rattle.std.specs.Char.{IsScalar, is_ascii_control}
use Rattle.std.specs.List.{AllByRecursion, flat_map, list_all}
use Rattle.std.proofs.lemmas.Bool.{or_parts, and_parts, ltb-true}
use Rattle.std.proofs.lemmas.Bool.Decides.{nat_tests}
use Rattle.std.proofs.lemmas.List.Elements.{All-cons, All-head, All-nil, All-tail}
use Rattle.std.proofs.lemmas.List.Folds.{list_all-append}
use Rattle.std.proofs.lemmas.Str.{IsUtf8-append, IsUtf8-from_ascii, IsUtf8-nil, chars-encodes, encodes-append}
use Rattle.std.specs.Str.{chars}
use Rattle.std.proofs.lemmas.Str.Ascii.{IsAscii-cons, IsAscii-nil}
use Rattle.text_clusters.specs.Controls.{is_c1, holds_c1}
use lib.Utf8.{scalar, scalars}
use Rattle.unicode_segmentation.specs.Grapheme.{graphemes}
use Rattle.cell_base.specs.Cluster.{clusters}
use Rattle.cell_base.specs.Row.{space}
use Rattle.cell_base.proofs.Fields.{all_joined}
use Rattle.cell_base.proofs.PlainClusters.{clusters_are}
use Rattle.escape_framing.specs.Segment.{IsPrintable}
use Rattle.escape_framing.proofs.Existence.Utf8Lemmas.{Spelled, in_one, in_two, in_three, in_four, spelled, order}
use Rattle.escape_osc.proofs.C1Lemmas.{holds_c1-cons}
use Rattle.screen_effects.specs.Strokes.{Stroke, CarriageReturn, LineFeed, Cluster, TextPart, Control, Plain, text_parts, part_strokes, strokes}
use Rattle.terminal_render.proofs.CharacterLemmas.{IsGood, AreGood, above, no_c1_after, parts_good}
use Rattle.text_clusters.proofs.CutLemmas.{pieces, first, pieces-nil}
use Rattle.terminal_table.specs.Charsets.{Charset, Ascii, British, Graphics, character_in, graphics, text_in}
use Rattle.terminal_table.specs.RunText.{IsPrinted, IsRunText}
use Rattle.terminal_table.proofs.CharsetLemmas.{mapped_scalars}
use Rattle.terminal_table.proofs.RunLemmas.{character_printed, printed_append}
use Rattle.text_clusters.proofs.TextLemmas.{graphemes_of}
use Rattle.terminal_render.specs.Spelling.{IsSpelledText, IsSpelledRun}

-- ---- the bytes of characters

not_lead : (b : ℕ) (rest : List ℕ) → (b == 0xC2) ≡ false → holds_c1 (b ∷ rest) ≡ holds_c1 rest
unfolding holds_c1
not_lead b [] e = refl
not_lead b (c ∷ rest) e = ap (λ t. (t && (nat_le 0x80 c && nat_le c 0x9F)) || holds_c1 (c ∷ rest)) e

not_pair : (b c : ℕ) (rest : List ℕ) → is_c1 b c ≡ false → holds_c1 (b ∷ c ∷ rest) ≡ holds_c1 (c ∷ rest)
unfolding holds_c1
not_pair b c rest e = ap (λ t. t || holds_c1 (c ∷ rest)) e

above_lead : (b : ℕ) → 0xC2 < b → (b == 0xC2) ≡ false
above_lead b h = grind (arith, nat_tests)

below_lead : (n : ℕ) → ((128 + n % 64) == 0xC2) ≡ false
below_lead n = let l : 128 + n % 64 < 0xC2 = omega arith in grind (arith, nat_tests)

last_false : (a b : Bool) → (a && (b && false)) ≡ false
last_false true true = refl
last_false true false = refl
last_false false b = refl

two_free : (c : ℕ) → 160 ≤ c → c < 2048 → is_c1 (192 + c / 64) (128 + c % 64) ≡ false
two_free c g l = grind (arith, nat_tests)

-- the character is none of U+0080 to U+009F
abbrev IsNoC1 : ℕ → Type 0
IsNoC1 c = (c < 128) ⊎ (0x9F < c)

character_free : (c : ℕ) (rest : List ℕ) → IsScalar c → IsNoC1 c → holds_c1 (encode_utf8 c ++ rest) ≡ holds_c1 rest
character_free c rest s t = by_kind (spelled c s) t
  where
    by_kind : Spelled c → IsNoC1 c → holds_c1 (encode_utf8 c ++ rest) ≡ holds_c1 rest
    by_kind (in_one l e) t = ap (λ (bytes : List ℕ). holds_c1 (bytes ++ rest)) e ∙ holds_c1-cons c rest l
    by_kind (in_two g l e) (inl low) = absurd (omega arith)
    by_kind (in_two g l e) (inr high) =
        ap (λ (bytes : List ℕ). holds_c1 (bytes ++ rest)) e
        ∙ not_pair (192 + c / 64) (128 + c % 64) rest (two_free c (omega arith) l)
        ∙ not_lead (128 + c % 64) rest (below_lead c)
    by_kind (in_three g l u e) t =
        ap (λ (bytes : List ℕ). holds_c1 (bytes ++ rest)) e
        ∙ not_lead (224 + c / 4096) _ (above_lead (224 + c / 4096) (omega arith))
        ∙ not_lead (128 + (c / 64) % 64) _ (below_lead (c / 64))
        ∙ not_lead (128 + c % 64) rest (below_lead c)
    by_kind (in_four g l e) t =
        ap (λ (bytes : List ℕ). holds_c1 (bytes ++ rest)) e
        ∙ not_lead (240 + c / 262144) _ (above_lead (240 + c / 262144) (omega arith))
        ∙ not_lead (128 + (c / 4096) % 64) _ (below_lead (c / 4096))
        ∙ not_lead (128 + (c / 64) % 64) _ (below_lead (c / 64))
        ∙ not_lead (128 + c % 64) rest (below_lead c)

character_no_c1 : (c : ℕ) (rest : List ℕ) → IsScalar c → holds_c1 (encode_utf8 c ++ rest) ≡ false → IsNoC1 c
character_no_c1 c rest s h = by_order (order c 128)
  where
    by_order : (c < 128) ⊎ (128 ≤ c) → IsNoC1 c
    by_order (inl l) = inl l
    by_order (inr l) = inr (above c rest s l h)

printable_no_c1 : (c : ℕ) → IsPrintable c → IsNoC1 c
printable_no_c1 c (inl low) = let h = low.1 in inl (omega arith)
printable_no_c1 c (inr high) = inr high

-- after characters that hold none of these controls, a text holds one just where the rest does
characters_free : (cs rest : List ℕ) → scalars cs ≡ true → holds_c1 (encode_utf8_all cs) ≡ false → holds_c1 (encode_utf8_all cs ++ rest) ≡ holds_c1 rest
characters_free [] rest s h = refl
characters_free (c ∷ cs) rest s h =
    let p = and_parts (scalar c) (scalars cs) s in
    ap holds_c1 (append_assoc (encode_utf8 c) (encode_utf8_all cs) rest) ∙ character_free c (encode_utf8_all cs ++ rest) p.0 (character_no_c1 c (encode_utf8_all cs) p.0 h)
    ∙ characters_free cs rest p.1 (no_c1_after (encode_utf8 c) (encode_utf8_all cs) h)

printable_free : (cs : List ℕ) → scalars cs ≡ true → All IsPrintable cs → holds_c1 (encode_utf8_all cs) ≡ false
unfolding holds_c1
printable_free [] s h = refl
printable_free (c ∷ cs) s h =
    let p = and_parts (scalar c) (scalars cs) s in
    character_free c (encode_utf8_all cs) p.0 (printable_no_c1 c (All-head IsPrintable c cs h)) ∙ printable_free cs p.1 (All-tail IsPrintable c cs h)

prefix_free : (prefix rest : List ℕ) → holds_c1 (prefix ++ rest) ≡ false → holds_c1 prefix ≡ false
unfolding holds_c1
prefix_free [] rest h = refl
prefix_free (b ∷ []) rest h = refl
prefix_free (b ∷ c ∷ prefix) rest h =
    let p = or_parts (is_c1 b c) (holds_c1 (c ∷ prefix ++ rest)) h in
    λ i. p.0 i || prefix_free (c ∷ prefix) rest p.1 i

-- ---- texts

pub spelled_append : (a b : List ℕ) → IsSpelledText a → IsSpelledText b → IsSpelledText (a ++ b)
spelled_append a b p q = record {
  utf8 = IsUtf8-append a b p.utf8 q.utf8;
  no_c1 = ap (λ (t : List ℕ). holds_c1 (t ++ b)) (sym p.utf8.1.1) ∙ characters_free p.utf8.0 b p.utf8.1.0 (ap holds_c1 p.utf8.1.1 ∙ p.no_c1) ∙ q.no_c1;
}

pub spelled_nil : IsSpelledText []
unfolding holds_c1
spelled_nil = record { utf8 = IsUtf8-nil; no_c1 = refl }

pub spelled_ascii : (b : ℕ) → b < 128 → IsSpelledText (b ∷ [])
unfolding holds_c1
spelled_ascii b l = record { utf8 = IsUtf8-from_ascii (b ∷ []) (IsAscii-cons b [] l IsAscii-nil); no_c1 = refl }

pub spelled_space : IsSpelledRun space
spelled_space = record { spelled = spelled_ascii 32 (omega arith); printed = refl }

pub run_nil : IsSpelledRun []
run_nil = record { spelled = spelled_nil; printed = refl }

pub run_append : (a b : List ℕ) → IsSpelledRun a → IsSpelledRun b → IsSpelledRun (a ++ b)
run_append a b p q = record { spelled = spelled_append a b p.spelled q.spelled; printed = printed_append a b p.printed q.printed }

printable_spelled : (cs : List ℕ) → scalars cs ≡ true → All IsPrintable cs → IsSpelledText (encode_utf8_all cs)
printable_spelled cs s h = record { utf8 = (cs, (s, refl)); no_c1 = printable_free cs s h }

printable_printed : (cs : List ℕ) → scalars cs ≡ true → All IsPrintable cs → IsPrinted (encode_utf8_all cs)
printable_printed [] s h = refl
printable_printed (c ∷ cs) s h =
    let p = and_parts (scalar c) (scalars cs) s in
    printed_append (encode_utf8 c) (encode_utf8_all cs) (character_printed c p.0 (All-head IsPrintable c cs h)) (printable_printed cs p.1 (All-tail IsPrintable c cs h))

printable_run : (cs : List ℕ) → scalars cs ≡ true → All IsPrintable cs → IsSpelledRun (encode_utf8_all cs)
printable_run cs s h = record { spelled = printable_spelled cs s h; printed = printable_printed cs s h }

pub spelled_character : (c : ℕ) → IsScalar c → IsPrintable c → IsSpelledText (encode_utf8 c)
spelled_character c s p = subst IsSpelledText (append-nil (encode_utf8 c)) (printable_spelled (c ∷ []) (ap (λ b. b && true) s) (All-cons IsPrintable c [] p (All-nil IsPrintable)))

-- ---- the characters of a set

-- as a test
abbrev is_no_c1 : ℕ → Bool
is_no_c1 c = nat_lt c 128 || nat_lt 0x9F c

told : (c : ℕ) → is_no_c1 c ≡ true → IsNoC1 c
told c e = by_tests (nat_lt c 128) refl (nat_lt 0x9F c) refl e
  where
    by_tests : (a : Bool) → nat_lt c 128 ≡ a → (b : Bool) → nat_lt 0x9F c ≡ b → (a || b) ≡ true → IsNoC1 c
    by_tests true p b q e = inl (ltb-true c 128 p)
    by_tests false p true q e = inr (ltb-true 0x9F c q)
    by_tests false p false q e = cc

one_of : (cs : List ℕ) (i : ℕ) → list_all is_no_c1 cs ≡ true → is_no_c1 (slice_index_or cs i 0x20) ≡ true
one_of [] i h = refl
one_of (c ∷ cs) zero h = (and_parts (is_no_c1 c) (list_all is_no_c1 cs) h).0
one_of (c ∷ cs) (suc i) h = one_of cs i (and_parts (is_no_c1 c) (list_all is_no_c1 cs) h).1

set_no_c1 : (set : Charset) (c : ℕ) → IsNoC1 c → IsNoC1 (character_in set c)
set_no_c1 Ascii c h = h
set_no_c1 Graphics c h = by_test (nat_le 0x5F c && nat_le c 0x7E)
  where
    by_test : (b : Bool) → IsNoC1 (if b then slice_index_or graphics (c - 0x5F) 0x20 else c)
    by_test true = told (slice_index_or graphics (c - 0x5F) 0x20) (one_of graphics (c - 0x5F) refl)
    by_test false = h
set_no_c1 British c h = by_test (c == 0x23)
  where
    by_test : (b : Bool) → IsNoC1 (if b then 0xA3 else c)
    by_test true = inr (omega arith)
    by_test false = h

mapped_free : (set : Charset) (cs : List ℕ) → scalars cs ≡ true → scalars (map (character_in set) cs) ≡ true → holds_c1 (encode_utf8_all cs) ≡ false → holds_c1 (encode_utf8_all (map (character_in set) cs)) ≡ false
mapped_free set [] s m h = h
mapped_free set (c ∷ cs) s m h =
    let p = and_parts (scalar c) (scalars cs) s in
    let q = and_parts (scalar (character_in set c)) (scalars (map (character_in set) cs)) m in
    character_free (character_in set c) (encode_utf8_all (map (character_in set) cs)) q.0 (set_no_c1 set c (character_no_c1 c (encode_utf8_all cs) p.0 h))
    ∙ mapped_free set cs p.1 q.1 (no_c1_after (encode_utf8 c) (encode_utf8_all cs) h)

mapped_spelled : (set : Charset) (text : List ℕ) → IsRunText text → IsSpelledText text → IsSpelledText (encode_utf8_all (map (character_in set) (chars text)))
mapped_spelled set text n t =
    let u = n.utf8 in
    let same : chars text ≡ u.0 = ap chars (sym u.1.1) ∙ chars-encodes u.0 u.1.0 in
    let all = mapped_scalars set text n in
    record {
      utf8 = (map (character_in set) (chars text), (all, refl));
      no_c1 = ap (λ (cs : List ℕ). holds_c1 (encode_utf8_all (map (character_in set) cs))) same
          ∙ mapped_free set u.0 u.1.0 (ap (λ (cs : List ℕ). scalars (map (character_in set) cs)) (sym same) ∙ all) (ap holds_c1 u.1.1 ∙ t.no_c1);
    }

pub spelled_in : (set : Charset) (text : List ℕ) → IsRunText text → IsSpelledText text → IsSpelledText (text_in set text)
spelled_in Ascii text n t = t
spelled_in Graphics text n t = mapped_spelled Graphics text n t
spelled_in British text n t = mapped_spelled British text n t

-- ---- clusters

abbrev pub AreSpelledRuns : List (List ℕ) → Type 0
AreSpelledRuns = AllByRecursion IsSpelledRun

printed_parts : (prefix rest : List ℕ) → IsPrinted (prefix ++ rest) → IsPrinted prefix × IsPrinted rest
printed_parts prefix rest h = and_parts (list_all (λ b. not (is_ascii_control b)) prefix) (list_all (λ b. not (is_ascii_control b)) rest) (sym (list_all-append (λ b. not (is_ascii_control b)) prefix rest) ∙ h)

scalars_parts : (xs ys : List ℕ) → scalars (xs ++ ys) ≡ true → (scalars xs ≡ true) × (scalars ys ≡ true)
scalars_parts [] ys h = (refl, h)
scalars_parts (c ∷ xs) ys h =
    let p = and_parts (scalar c) (scalars (xs ++ ys)) h in
    let rest = scalars_parts xs ys p.1 in
    ((λ i. p.0 i && rest.0 i), rest.1)

each_piece : (n : ℕ) (cs : List ℕ) → scalars cs ≡ true → holds_c1 (encode_utf8_all cs) ≡ false → IsPrinted (encode_utf8_all cs) → length cs ≤ n → AreSpelledRuns (map encode_utf8_all (pieces [] cs))
each_piece n [] s h k l = subst (λ (ps : List (List ℕ)). AreSpelledRuns (map encode_utf8_all ps)) (sym (pieces-nil [])) tt
each_piece zero (c ∷ cs) s h k l = absurd (omega arith)
each_piece (suc n) (c ∷ cs) s h k l =
    let f = first [] c cs in
    let prefix = encode_utf8_all (c ∷ f.remaining) in
    let p = scalars_parts (c ∷ f.remaining) f.rest (ap (λ (xs : List ℕ). scalars (c ∷ xs)) (sym f.whole) ∙ s) in
    let whole : prefix ++ encode_utf8_all f.rest ≡ encode_utf8_all (c ∷ cs) = sym (ap (λ (xs : List ℕ). encode_utf8_all (c ∷ xs)) f.whole ∙ encodes-append (c ∷ f.remaining) f.rest) in
    let free : holds_c1 (prefix ++ encode_utf8_all f.rest) ≡ false = ap holds_c1 whole ∙ h in
    let plain = printed_parts prefix (encode_utf8_all f.rest) (subst IsPrinted (sym whole) k) in
    subst (λ (ps : List (List ℕ)). AreSpelledRuns (map encode_utf8_all ps)) (sym f.cut) (
      record { spelled = record { utf8 = (c ∷ f.remaining, (p.0, refl)); no_c1 = prefix_free prefix (encode_utf8_all f.rest) free }; printed = plain.0 },
      each_piece n f.rest p.1 (no_c1_after prefix (encode_utf8_all f.rest) free) plain.1 (omega (arith, ap length f.whole, length-append f.remaining f.rest)),
    )

spelled_graphemes : (text : List ℕ) → IsSpelledRun text → AreSpelledRuns (graphemes true text)
spelled_graphemes text p =
    let cs = p.spelled.utf8.0 in
    let s = p.spelled.utf8.1.0 in
    let e = p.spelled.utf8.1.1 in
    subst (λ (t : List ℕ). AreSpelledRuns (graphemes true t)) e
    (subst AreSpelledRuns (sym (graphemes_of cs s)) (each_piece (length cs) cs s (ap holds_c1 e ∙ p.spelled.no_c1) (subst IsPrinted (sym e) p.printed) (omega arith)))

pub spelled_clusters : (text : List ℕ) → IsSpelledRun text → AreSpelledRuns (clusters text)
spelled_clusters text p = subst AreSpelledRuns (sym (clusters_are text p.spelled.utf8)) (spelled_graphemes text p)

-- ---- strokes

abbrev pub IsSpelledStroke : Stroke → Type 0
IsSpelledStroke CarriageReturn = ⊤
IsSpelledStroke LineFeed = ⊤
IsSpelledStroke (Cluster text) = IsSpelledRun text

abbrev pub AreSpelledStrokes : List Stroke → Type 0
AreSpelledStrokes = AllByRecursion IsSpelledStroke

cluster_strokes : (ts : List (List ℕ)) → AreSpelledRuns ts → AreSpelledStrokes (map Cluster ts)
cluster_strokes [] p = tt
cluster_strokes (t ∷ ts) p = (p.0, cluster_strokes ts p.1)

part_spelled : (part : TextPart) → IsGood part → AreSpelledStrokes (part_strokes part)
part_spelled (Control byte) g = by_tests (byte == 13) (byte == 10)
  where
    by_tests : (returns feeds : Bool) → AreSpelledStrokes (if returns then CarriageReturn ∷ [] else if feeds then LineFeed ∷ [] else Cluster space ∷ [])
    by_tests true feeds = (tt, tt)
    by_tests false true = (tt, tt)
    by_tests false false = (spelled_space, tt)
part_spelled (Plain text) g = cluster_strokes (clusters text) (spelled_clusters text (subst IsSpelledRun g.spell (printable_run g.cs g.are g.printable)))

parts_spelled : (parts : List TextPart) → AreGood parts → AreSpelledStrokes (flat_map part_strokes parts)
parts_spelled [] g = tt
parts_spelled (part ∷ parts) g = all_joined IsSpelledStroke (part_strokes part) (flat_map part_strokes parts) (part_spelled part g.0) (parts_spelled parts g.1)

pub strokes_spelled : (text : List ℕ) → IsSpelledText text → AreSpelledStrokes (strokes text)
strokes_spelled text p = parts_spelled (text_parts text) (parts_good text p.utf8 p.no_c1)
