-- An independent character is a cluster by itself before another independent character and at the end of a text.
use Rattle.std.proofs.Common.{◌≡◌, ℕ, zero, suc, ◌+◌, ◌-◌, ◌<◌, ◌≤◌, Bool, true, false, not, ◌&&◌, ◌||◌, List, [], ◌∷◌, ◌++◌, length, map, take, drop, get_or, unwrap_or, IsUtf8, IsCharBoundary, refl, sym, ap, ap₂, subst, ◌∙◌, append-nil, arith, inl, inr}
use Rattle.std.specs.Prelude.{Some, nat_le, nat_lt, min, encode_utf8, encode_utf8_all, if◌then◌else◌}
use Rattle.std.specs.Int.{is_in_range}
use Rattle.std.specs.List.{list_all, prefix_len, slice_get}
use Rattle.std.specs.Str.{chars}
use Rattle.std.proofs.lemmas.Bool.{false≢true, and_parts, or_cases, le-leb, lt-ltb, ltb-true, ltb-false}
use Rattle.std.proofs.lemmas.List.{take_at, drop_at}
use Rattle.std.proofs.lemmas.List.Sums.{prefix_len-le-length, prefix_len_passes}
use Rattle.std.proofs.lemmas.Str.{chars_past_char, encode_ascii, IsCharBoundary-start, IsCharBoundary-after_ascii, IsCharBoundary-at_seam, IsUtf8-past_char}
use Rattle.ucd_table.specs.Rows.{Range, in_ranges}
use Rattle.ucd_table.proofs.Computing.{tables}
use Rattle.ucd_table.proofs.Facts.{Stepped-everywhere}
use Rattle.ucd_table.proofs.Stepped.{Stepped, of_ranges, zip_stepped}
use Rattle.ucd_breaks.specs.GraphemeClusterBreak.{grapheme_cluster_break}
use Rattle.ucd_breaks.specs.declared.GraphemeClusterBreak.{GraphemeClusterBreak}
use Rattle.ucd_breaks.specs.declared.GraphemeClusterBreak.TheVariants.{Lv, Lvt, Other, RegionalIndicator}
use Rattle.ucd_breaks.proofs.Computing.{ucd_breaks}
use Rattle.ucd_breaks.proofs.GraphemeClusterBreakLemmas.{grapheme_cluster_break_stepped}
use Rattle.ucd_derived.specs.IndicConjunctBreak.{indic_conjunct_break}
use Rattle.ucd_derived.specs.declared.IndicConjunctBreak.{IndicConjunctBreak}
use Rattle.ucd_derived.specs.declared.IndicConjunctBreak.TheVariants as InCb
use Rattle.ucd_derived.proofs.Computing.{ucd_derived}
use Rattle.ucd_derived.proofs.IndicConjunctBreakLemmas.{indic_conjunct_break_stepped}
use Rattle.ucd_emoji.specs.Binary.{is_extended_pictographic}
use Rattle.unicode_segmentation.specs.Grapheme.{graphemes, break_by_pair, ends_in_linker, ends_in_pictograph, ends_in_half_flag, is_consonant, is_zwj, is_regional, is_grapheme_break}
use Rattle.unicode_segmentation.specs.Segments.{segments}
use Rattle.text_clusters.specs.Independent.{is_early, is_sign, is_eastern, is_later, is_late, is_independent, is_flag_half, is_independent_first, begins_independent, BeginsWith, BeginsPrintable, IsFirst, independent_len}
use Rattle.text_clusters.specs.Plain.{is_printable, each}
use Rattle.text_clusters.proofs.CharacterFacts.{is_conjunct_mark, implies_from}
use Rattle.text_clusters.proofs.CutLemmas.{by_test, breaks, pieces, forgets, cut_after, cut_here, last_alone, pieces-nil}
use Rattle.text_clusters.proofs.PlainLemmas.{chars-ascii, prefix_printable, prefix_len_more, prefix_taken, printable_below, printable_prefix}

-- ---- facts from the tables

-- values whose characters no rule joins to each other
abbrev pub is_free : GraphemeClusterBreak → Bool
is_free Lv = true
is_free Lvt = true
is_free Other = true
is_free _ = false

abbrev pub is_free_character : ℕ → Bool
is_free_character c = is_free (grapheme_cluster_break c) && not (is_conjunct_mark (indic_conjunct_break c))

abbrev free_stepped : Stepped is_free_character
free_stepped =
    zip_stepped (λ g i. is_free g && not (is_conjunct_mark i)) grapheme_cluster_break indic_conjunct_break grapheme_cluster_break_stepped indic_conjunct_break_stepped

abbrev early_ranges : List Range
early_ranges = (0x20, 0x7E) ∷ (0xA0, 0xAC) ∷ (0xAE, 0x2FF) ∷ (0x370, 0x482) ∷ (0x48A, 0x590) ∷ []

abbrev sign_ranges : List Range
sign_ranges = (0x1E00, 0x200A) ∷ (0x2010, 0x2027) ∷ (0x202F, 0x205F) ∷ (0x2070, 0x20CF) ∷ (0x20F1, 0x2CEE) ∷ []

abbrev eastern_ranges : List Range
eastern_ranges = (0x2E00, 0x3029) ∷ (0x3030, 0x3098) ∷ (0x309B, 0xA66E) ∷ []

abbrev later_ranges : List Range
later_ranges = (0xAC00, 0xD7A3) ∷ (0xE000, 0xFB1D) ∷ (0xFF00, 0xFF9D) ∷ []

abbrev late_ranges : List Range
late_ranges = (0x1F000, 0x1F1E5) ∷ (0x1F200, 0x1F3FA) ∷ (0x1F400, 0x3FFFF) ∷ []

three : (a b c : Bool) → (a || b || c) ≡ true → (a || (b || (c || false))) ≡ true
three true b c h = refl
three false true c h = refl
three false false true h = refl
three false false false h = h

five : (a b c d e : Bool) → (a || b || c || d || e) ≡ true → (a || (b || (c || (d || (e || false))))) ≡ true
five true b c d e h = refl
five false true c d e h = refl
five false false true d e h = refl
five false false false true e h = refl
five false false false false true h = refl
five false false false false false h = h

early_free : (c : ℕ) → is_early c ≡ true → is_free_character c ≡ true
unfolding tables ucd_breaks ucd_derived
early_free c h = implies_from (in_ranges early_ranges c) (is_free_character c)
    (Stepped-everywhere (λ x. not (in_ranges early_ranges x) || is_free_character x)
    (zip_stepped (λ r f. not r || f) (in_ranges early_ranges) is_free_character (of_ranges early_ranges refl) free_stepped) refl c)
    (five (is_in_range 0x20 0x7E c) (is_in_range 0xA0 0xAC c) (is_in_range 0xAE 0x2FF c) (is_in_range 0x370 0x482 c) (is_in_range 0x48A 0x590 c) h)

sign_free : (c : ℕ) → is_sign c ≡ true → is_free_character c ≡ true
unfolding tables ucd_breaks ucd_derived
sign_free c h = implies_from (in_ranges sign_ranges c) (is_free_character c)
    (Stepped-everywhere (λ x. not (in_ranges sign_ranges x) || is_free_character x)
    (zip_stepped (λ r f. not r || f) (in_ranges sign_ranges) is_free_character (of_ranges sign_ranges refl) free_stepped) refl c)
    (five (is_in_range 0x1E00 0x200A c) (is_in_range 0x2010 0x2027 c) (is_in_range 0x202F 0x205F c) (is_in_range 0x2070 0x20CF c) (is_in_range 0x20F1 0x2CEE c) h)

eastern_free : (c : ℕ) → is_eastern c ≡ true → is_free_character c ≡ true
unfolding tables ucd_breaks ucd_derived
eastern_free c h = implies_from (in_ranges eastern_ranges c) (is_free_character c)
    (Stepped-everywhere (λ x. not (in_ranges eastern_ranges x) || is_free_character x)
    (zip_stepped (λ r f. not r || f) (in_ranges eastern_ranges) is_free_character (of_ranges eastern_ranges refl) free_stepped) refl c)
    (three (is_in_range 0x2E00 0x3029 c) (is_in_range 0x3030 0x3098 c) (is_in_range 0x309B 0xA66E c) h)

later_free : (c : ℕ) → is_later c ≡ true → is_free_character c ≡ true
unfolding tables ucd_breaks ucd_derived
later_free c h = implies_from (in_ranges later_ranges c) (is_free_character c)
    (Stepped-everywhere (λ x. not (in_ranges later_ranges x) || is_free_character x)
    (zip_stepped (λ r f. not r || f) (in_ranges later_ranges) is_free_character (of_ranges later_ranges refl) free_stepped) refl c)
    (three (is_in_range 0xAC00 0xD7A3 c) (is_in_range 0xE000 0xFB1D c) (is_in_range 0xFF00 0xFF9D c) h)

late_free : (c : ℕ) → is_late c ≡ true → is_free_character c ≡ true
unfolding tables ucd_breaks ucd_derived
late_free c h = implies_from (in_ranges late_ranges c) (is_free_character c)
    (Stepped-everywhere (λ x. not (in_ranges late_ranges x) || is_free_character x)
    (zip_stepped (λ r f. not r || f) (in_ranges late_ranges) is_free_character (of_ranges late_ranges refl) free_stepped) refl c)
    (three (is_in_range 0x1F000 0x1F1E5 c) (is_in_range 0x1F200 0x1F3FA c) (is_in_range 0x1F400 0x3FFFF c) h)

by_size : {P : Type 0} (a b c d e f g i j : Bool) → (if a then b else if c then d else if e then f else if g then i else j) ≡ true
    → (b ≡ true → P) → (d ≡ true → P) → (f ≡ true → P) → (i ≡ true → P) → (j ≡ true → P) → P
by_size true b c d e f g i j h p q r s t = p h
by_size false b true d e f g i j h p q r s t = q h
by_size false b false d true f g i j h p q r s t = r h
by_size false b false d false f true i j h p q r s t = s h
by_size false b false d false f false i j h p q r s t = t h

pub independent_free : (c : ℕ) → is_independent c ≡ true → is_free_character c ≡ true
unfolding is_independent
independent_free c h =
    by_size (nat_lt c 0x800) (is_early c) (nat_lt c 0x2E00) (is_sign c) (nat_lt c 0xA670) (is_eastern c) (nat_lt c 0x10000) (is_later c) (is_late c) h
    (early_free c) (sign_free c) (eastern_free c) (later_free c) (late_free c)

-- values whose characters no rule joins to a free character before them
abbrev is_open : GraphemeClusterBreak → Bool
is_open Lv = true
is_open Lvt = true
is_open Other = true
is_open RegionalIndicator = true
is_open _ = false

free_open : (g : GraphemeClusterBreak) → is_free g ≡ true → is_open g ≡ true
free_open Lv e = refl
free_open Lvt e = refl
free_open Other e = refl
free_open _ e = absurd (false≢true e)

abbrev flag_ranges : List Range
flag_ranges = (0x1F1E6, 0x1F1FF) ∷ []

flag_open : (c : ℕ) → is_flag_half c ≡ true → is_open (grapheme_cluster_break c) ≡ true
unfolding tables ucd_breaks
flag_open c h = implies_from (in_ranges flag_ranges c) (is_open (grapheme_cluster_break c))
    (Stepped-everywhere (λ x. not (in_ranges flag_ranges x) || is_open (grapheme_cluster_break x))
    (zip_stepped (λ r g. not r || is_open g) (in_ranges flag_ranges) grapheme_cluster_break (of_ranges flag_ranges refl) grapheme_cluster_break_stepped) refl c)
    (ap (λ t. t || false) h)

first_open : (c : ℕ) → (is_independent c || is_flag_half c) ≡ true → is_open (grapheme_cluster_break c) ≡ true
first_open c h = elim (or_cases (is_independent c) (is_flag_half c) h) [
  | inl a ↦ free_open (grapheme_cluster_break c) (and_parts (is_free (grapheme_cluster_break c)) (not (is_conjunct_mark (indic_conjunct_break c))) (independent_free c a)).0
  | inr f ↦ flag_open c f
]

-- ---- a boundary between two of them

after_lv : (h : GraphemeClusterBreak) (r : Bool) → is_open h ≡ true → unwrap_or (break_by_pair true Lv h) r ≡ r
after_lv Lv r f = refl
after_lv Lvt r f = refl
after_lv Other r f = refl
after_lv RegionalIndicator r f = refl
after_lv _ r f = absurd (false≢true f)

after_lvt : (h : GraphemeClusterBreak) (r : Bool) → is_open h ≡ true → unwrap_or (break_by_pair true Lvt h) r ≡ r
after_lvt Lv r f = refl
after_lvt Lvt r f = refl
after_lvt Other r f = refl
after_lvt RegionalIndicator r f = refl
after_lvt _ r f = absurd (false≢true f)

after_other : (h : GraphemeClusterBreak) (r : Bool) → is_open h ≡ true → unwrap_or (break_by_pair true Other h) r ≡ r
after_other Lv r f = refl
after_other Lvt r f = refl
after_other Other r f = refl
after_other RegionalIndicator r f = refl
after_other _ r f = absurd (false≢true f)

free_pair : (g h : GraphemeClusterBreak) (r : Bool) → is_free g ≡ true → is_open h ≡ true → unwrap_or (break_by_pair true g h) r ≡ r
free_pair Lv h r e f = after_lv h r f
free_pair Lvt h r e f = after_lvt h r f
free_pair Other h r e f = after_other h r f
free_pair _ h r e f = absurd (false≢true e)

no_joiner : (g : GraphemeClusterBreak) → is_free g ≡ true → is_zwj g ≡ false
no_joiner Lv e = refl
no_joiner Lvt e = refl
no_joiner Other e = refl
no_joiner _ e = absurd (false≢true e)

no_regional : (g : GraphemeClusterBreak) → is_free g ≡ true → is_regional g ≡ false
no_regional Lv e = refl
no_regional Lvt e = refl
no_regional Other e = refl
no_regional _ e = absurd (false≢true e)

no_linker : (v : IndicConjunctBreak) → not (is_conjunct_mark v) ≡ true → ends_in_linker (v ∷ []) ≡ false
unfolding ends_in_linker
no_linker InCb.Consonant e = refl
no_linker InCb.None e = refl
no_linker InCb.Extend e = absurd (false≢true e)
no_linker InCb.Linker e = absurd (false≢true e)

boundary : (c d : ℕ) (cs : List ℕ) → is_independent c ≡ true → (is_independent d || is_flag_half d) ≡ true → breaks (c ∷ []) (d ∷ cs) ≡ true
unfolding is_grapheme_break ends_in_half_flag
boundary c d cs p q =
    let first = and_parts (is_free (grapheme_cluster_break c)) (not (is_conjunct_mark (indic_conjunct_break c))) (independent_free c p) in
    free_pair (grapheme_cluster_break c) (grapheme_cluster_break d) _ first.0 (first_open d q)
    ∙ (λ i. not ((no_linker (indic_conjunct_break c) first.1 i && is_consonant (indic_conjunct_break d))
    || (no_joiner (grapheme_cluster_break c) first.0 i && ends_in_pictograph [] && is_extended_pictographic d)
    || ((no_regional (grapheme_cluster_break c) first.0 i && true) && is_regional (grapheme_cluster_break d))))

-- ---- the cut

pub independent_first : (c : ℕ) (cs : List ℕ) → is_independent c ≡ true → is_independent_first cs ≡ true → pieces [] (c ∷ cs) ≡ (c ∷ []) ∷ pieces [] cs
independent_first c [] p q = last_alone [] c ∙ ap (λ (ps : List (List ℕ)). (c ∷ []) ∷ ps) (sym (pieces-nil []))
independent_first c (d ∷ ds) p q =
    let b = boundary c d ds p q in
    cut_here [] c (d ∷ ds) b ∙ ap (λ (ps : List (List ℕ)). (c ∷ []) ∷ ps) (cut_after d (c ∷ []) (forgets d c [] ds b) ds)

-- a text that begins with one, and with another one after it or nothing
pub independent_cut : (text rest : List ℕ) (c : ℕ) → IsUtf8 text → text ≡ encode_utf8 c ++ rest → is_independent c ≡ true → begins_independent rest ≡ true
    → graphemes true text ≡ encode_utf8 c ∷ graphemes true rest
unfolding segments begins_independent
independent_cut text rest c u e p q =
    ap (λ (cs : List ℕ). map encode_utf8_all (pieces [] cs)) (chars_past_char text rest c u e)
    ∙ ap (map encode_utf8_all) (independent_first c (chars rest) p q)
    ∙ ap (λ (g : List ℕ). g ∷ graphemes true rest) (append-nil (encode_utf8 c))

-- a text that begins with one, cut after it
module _ (text prefix back : List ℕ) (c n : ℕ) (u : IsUtf8 text) (b : BeginsWith text c n) where
  l : n ≡ length (encode_utf8 c)
  l = b.bytes

  rest_utf8 : IsUtf8 b.rest
  rest_utf8 = IsUtf8-past_char text b.rest c u b.whole

  pub single_seam : IsCharBoundary text n
  single_seam = subst (IsCharBoundary text) (sym l) (IsCharBoundary-at_seam text (encode_utf8 c) b.rest b.whole rest_utf8)

  module _ (f : prefix ≡ take n text) (e : back ≡ drop n text) where
    back_is : back ≡ b.rest
    back_is = e ∙ ap (drop n) b.whole ∙ drop_at (encode_utf8 c) b.rest n (sym l)

    prefix_is : prefix ≡ encode_utf8 c
    prefix_is = f ∙ ap (take n) b.whole ∙ take_at (encode_utf8 c) b.rest n (sym l)

    pub cut_before : begins_independent back ≡ true → graphemes true text ≡ prefix ∷ graphemes true back
    cut_before a =
        independent_cut text b.rest c u b.whole b.stands (ap begins_independent (sym back_is) ∙ a)
        ∙ (λ i. sym prefix_is i ∷ graphemes true (sym back_is i))

-- a text that begins with one begins so
pub begins_prefix : (text : List ℕ) (c n : ℕ) → IsUtf8 text → BeginsWith text c n → begins_independent text ≡ true
unfolding begins_independent
begins_prefix text c n u b = ap is_independent_first (chars_past_char text b.rest c u b.whole) ∙ ap (λ t. t || is_flag_half c) b.stands

pub with_stands : (text : List ℕ) (c n : ℕ) → is_independent c ≡ true → IsFirst text c n → BeginsWith text c n
with_stands text c n s f = record { stands = s; bytes = f.bytes; rest = f.rest; whole = f.whole }

-- ---- printable characters before those that are independent

printable_independent : (c : ℕ) → is_printable c ≡ true → is_independent c ≡ true
unfolding is_independent
printable_independent c p =
    let below = printable_below c p in
    let parts = and_parts (nat_le 32 c) (nat_lt c 127) p in
    let within : is_in_range 0x20 0x7E c ≡ true = ap₂ ◌&&◌ parts.0 (le-leb c 0x7E (omega arith)) in
    ap (λ t. if t then is_early c else if nat_lt c 0x2E00 then is_sign c else if nat_lt c 0xA670 then is_eastern c else if nat_lt c 0x10000 then is_later c else is_late c) (lt-ltb c 0x800 (omega arith))
    ∙ ap (λ t. t || is_in_range 0xA0 0xAC c || is_in_range 0xAE 0x2FF c || is_in_range 0x370 0x482 c || is_in_range 0x48A 0x590 c) within

begins_printable : (c : ℕ) (rest : List ℕ) → is_printable c ≡ true → begins_independent (c ∷ rest) ≡ true
unfolding begins_independent
begins_printable c rest p = let below = printable_below c p in ap is_independent_first (chars-ascii c rest (omega arith)) ∙ ap (λ t. t || is_flag_half c) (printable_independent c p)

ascii_cut : (c : ℕ) (rest : List ℕ) → is_printable c ≡ true → begins_independent rest ≡ true → graphemes true (c ∷ rest) ≡ (c ∷ []) ∷ graphemes true rest
unfolding segments begins_independent
ascii_cut c rest p b =
    let below = printable_below c p in
    ap (λ (cs : List ℕ). map encode_utf8_all (pieces [] cs)) (chars-ascii c rest (omega arith))
    ∙ ap (map encode_utf8_all) (independent_first c (chars rest) (printable_independent c p) b)
    ∙ ap (λ (g : List ℕ). (g ++ []) ∷ graphemes true rest) (encode_ascii c (omega arith))

pub prefix_begins : (text : List ℕ) → 0 < prefix_len is_printable text → BeginsPrintable text
prefix_begins [] h = absurd (omega arith)
prefix_begins (c ∷ rest) h =
    let p = prefix_printable c rest h in
    let below = printable_below c p in
    let e : encode_utf8 c ≡ c ∷ [] = encode_ascii c (omega arith) in
    let one = ap length e in record {
      character = c;
      printable = p;
      alone = e;
      begins = record { stands = printable_independent c p; bytes = sym one; rest = rest; whole = ap (λ (s : List ℕ). s ++ rest) (sym e) };
    }

pub byte_begins : (text : List ℕ) (byte : ℕ) → slice_get text 0 ≡ Some byte → is_printable byte ≡ true → BeginsPrintable text
byte_begins [] byte e p = cc
byte_begins (c ∷ rest) byte e p =
    let same : c ≡ byte = cc in
    let some = prefix_len_more c rest (ap is_printable same ∙ p) in
    prefix_begins (c ∷ rest) (omega arith)

printable_at : (n : ℕ) (text : List ℕ) → n < prefix_len is_printable text → begins_independent (drop n text) ≡ true
printable_at n [] h = absurd (omega arith)
printable_at zero (c ∷ text) h = begins_printable c text (prefix_printable c text h)
printable_at (suc n) (c ∷ text) h =
    let l = prefix_len_more c text (prefix_printable c text (omega arith)) in
    printable_at n text (omega arith)

next_independent : (n : ℕ) (text : List ℕ) → n ≤ prefix_len is_printable text → begins_independent (drop n text) ≡ true → begins_independent text ≡ true
next_independent zero text h b = b
next_independent (suc n) text h b = printable_at 0 text (omega arith)

run_independent : (n : ℕ) (text : List ℕ) → n ≤ prefix_len is_printable text → begins_independent (drop n text) ≡ true → graphemes true text ≡ each (take n text) ++ graphemes true (drop n text)
run_independent zero text h b = refl
run_independent (suc n) [] h b = absurd (omega arith)
run_independent (suc n) (c ∷ text) h b =
    let p = prefix_printable c text (omega arith) in
    let l = prefix_len_more c text p in
    ascii_cut c text p (next_independent n text (omega arith) b) ∙ ap (λ (gs : List (List ℕ)). (c ∷ []) ∷ gs) (run_independent n text (omega arith) b)

module _ (text : List ℕ) where
  abbrev here : ℕ
  here = prefix_len is_printable text

  len_whole : begins_independent (drop here text) ≡ true → independent_len text ≡ here
  len_whole b = ap (λ t. if t then here else here - 1) b

  len_less : begins_independent (drop here text) ≡ false → independent_len text ≡ here - 1
  len_less b = ap (λ t. if t then here else here - 1) b

  len_most : independent_len text ≤ here
  len_most = by_test (begins_independent (drop here text)) (λ b. let l = len_whole b in omega arith) (λ b. let l = len_less b in omega arith)

  len_least : here - 1 ≤ independent_len text
  len_least = by_test (begins_independent (drop here text)) (λ b. let l = len_whole b in omega arith) (λ b. let l = len_less b in omega arith)

  -- a position after printable characters
  pub run_boundary : (n : ℕ) → n ≤ here → IsUtf8 text → IsCharBoundary text n
  run_boundary zero h u = IsCharBoundary-start text u
  run_boundary (suc n) h u =
      let within = prefix_len-le-length is_printable text in
      let below = printable_below (get_or text n 0) (prefix_len_passes is_printable text n 0 (omega arith)) in
      let on : n + 1 ≡ suc n = omega arith in
      subst (IsCharBoundary text) on (IsCharBoundary-after_ascii text n u (omega arith) (omega arith))

  module _ (most : ℕ) where
    abbrev prefix : ℕ
    prefix = min most (independent_len text)

    prefix_most : prefix ≤ here
    prefix_most = let l = len_most in omega arith

    pub independent_prefix_printable : list_all is_printable (take prefix text) ≡ true
    independent_prefix_printable = printable_prefix prefix text prefix_most

    pub independent_prefix_boundary : IsUtf8 text → IsCharBoundary text prefix
    independent_prefix_boundary u = run_boundary prefix prefix_most u

    prefix_none : begins_independent (drop prefix text) ≡ false → 0 ≡ prefix
    prefix_none b = by_test (nat_lt prefix here)
        (λ t. absurd (false≢true (sym b ∙ printable_at prefix text (ltb-true prefix here t))))
        (λ t.
        let ge = ltb-false prefix here t in
        let m = prefix_most in
        let is : prefix ≡ here = omega arith in
        let l = len_less (ap (λ n. begins_independent (drop n text)) (sym is) ∙ b) in
        omega arith)

    pub independent_prefix_cut : graphemes true text ≡ each (take prefix text) ++ graphemes true (drop prefix text)
    independent_prefix_cut = by_test (begins_independent (drop prefix text))
        (λ b. run_independent prefix text prefix_most b)
        (λ b. ap (λ n. each (take n text) ++ graphemes true (drop n text)) (prefix_none b))

    module _ (run : ℕ) (is : run ≡ prefix_len is_printable (take most text)) where
      run_is : run ≡ min most here
      run_is = is ∙ prefix_taken most text

      pub independent_run_boundary : IsUtf8 text → IsCharBoundary text run
      independent_run_boundary u = let r = run_is in run_boundary run (omega arith) u

      pub independent_run_whole : begins_independent (drop run text) ≡ true → run ≡ prefix
      independent_run_whole b =
          let r = run_is in
          let least = len_least in
          let top = len_most in
          by_test (nat_lt run here)
          (λ t. let less = ltb-true run here t in omega arith)
          (λ t.
          let ge = ltb-false run here t in
          let all : run ≡ here = omega arith in
          let l = len_whole (ap (λ n. begins_independent (drop n text)) (sym all) ∙ b) in
          omega arith)

      pub independent_run_less : begins_independent (drop run text) ≡ false → run - 1 ≡ prefix
      independent_run_less b = by_test (nat_lt run here)
          (λ t. absurd (false≢true (sym b ∙ printable_at run text (ltb-true run here t))))
          (λ t.
          let r = run_is in
          let ge = ltb-false run here t in
          let all : run ≡ here = omega arith in
          let l = len_less (ap (λ n. begins_independent (drop n text)) (sym all) ∙ b) in
          omega arith)
