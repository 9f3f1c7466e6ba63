-- A character that stands alone is a cluster by itself before another one and at the end of a text.
use Rattle.std.proofs.Common.{◌≡◌, ℕ, Bool, true, false, not, ◌&&◌, ◌||◌, ◌==◌, List, [], ◌∷◌, ◌++◌, length, map, take, drop, unwrap_or, IsUtf8, IsCharBoundary, refl, sym, ap, subst, ◌∙◌, append-nil, eqb-true, inl, inr}
use Rattle.std.specs.Prelude.{encode_utf8, encode_utf8_all}
use Rattle.std.specs.Str.{chars}
use Rattle.std.proofs.lemmas.Bool.{false≢true, and_parts, or_cases}
use Rattle.std.proofs.lemmas.List.{take_at, drop_at}
use Rattle.std.proofs.lemmas.Str.{chars_past_char, IsCharBoundary-at_seam, IsUtf8-past_char}
use Rattle.ucd_table.specs.Rows.{Range, in_ranges}
use Rattle.ucd_table.proofs.Computing.{tables}
use Rattle.ucd_table.proofs.Facts.{Stepped-everywhere}
use Rattle.ucd_table.proofs.Stepped.{of_ranges, zip_stepped}
use Rattle.ucd_breaks.specs.GraphemeClusterBreak.{grapheme_cluster_break}
use Rattle.ucd_breaks.specs.declared.GraphemeClusterBreak.{GraphemeClusterBreak}
use Rattle.ucd_breaks.specs.declared.GraphemeClusterBreak.TheVariants.{Lv, Lvt, Other, RegionalIndicator}
use Rattle.ucd_breaks.proofs.Computing.{ucd_breaks}
use Rattle.ucd_breaks.proofs.GraphemeClusterBreakLemmas.{grapheme_cluster_break_stepped}
use Rattle.ucd_derived.specs.IndicConjunctBreak.{indic_conjunct_break}
use Rattle.ucd_derived.specs.declared.IndicConjunctBreak.{IndicConjunctBreak}
use Rattle.ucd_derived.specs.declared.IndicConjunctBreak.TheVariants as InCb
use Rattle.ucd_derived.proofs.Computing.{ucd_derived}
use Rattle.ucd_emoji.specs.Binary.{is_extended_pictographic}
use Rattle.unicode_segmentation.specs.Grapheme.{graphemes, break_by_pair, ends_in_linker, ends_in_pictograph, ends_in_half_flag, is_consonant, is_zwj, is_regional, is_grapheme_break}
use Rattle.unicode_segmentation.specs.Segments.{segments}
use Rattle.text_clusters.specs.Independent.{begins_independent, is_flag_half, is_independent, is_independent_first, BeginsWith, IsFirst}
use Rattle.text_clusters.proofs.CharacterFacts.{is_conjunct_mark, implies_from}
use Rattle.text_clusters.proofs.CutLemmas.{breaks, pieces, forgets, cut_after, cut_here, last_alone, pieces-nil}
use Rattle.text_clusters.proofs.IndependentLemmas.{independent_free, is_free, is_free_character}
use Rattle.clustered_row.specs.SingleText.{begins_alone, is_alone_first, stands_alone}

-- ---- facts from the tables

replacement_free : is_free_character 0xFFFD ≡ true
unfolding tables ucd_breaks ucd_derived
replacement_free = refl

-- no rule joins one to another one
pub alone_free : (c : ℕ) → stands_alone c ≡ true → is_free_character c ≡ true
alone_free c h = elim (or_cases (is_independent c) (c == 0xFFFD) h) [
  | inl a ↦ independent_free c a
  | inr e ↦ subst (λ x. is_free_character x ≡ true) (sym (eqb-true c 0xFFFD e)) replacement_free
]

flag_ranges : List Range
flag_ranges = (0x1F1E6, 0x1F1FF) ∷ []

flag_regional : (c : ℕ) → is_flag_half c ≡ true → is_regional (grapheme_cluster_break c) ≡ true
unfolding tables ucd_breaks flag_ranges
flag_regional c h = implies_from (in_ranges flag_ranges c) (is_regional (grapheme_cluster_break c))
    (Stepped-everywhere (λ x. not (in_ranges flag_ranges x) || is_regional (grapheme_cluster_break x))
    (zip_stepped (λ r g. not r || is_regional g) (in_ranges flag_ranges) grapheme_cluster_break (of_ranges flag_ranges refl) grapheme_cluster_break_stepped) refl c)
    (ap (λ t. t || false) h)

-- values whose characters no rule joins to a free character before them
abbrev is_open : GraphemeClusterBreak → Bool
is_open g = is_free g || is_regional g

free_open : (g : GraphemeClusterBreak) → is_free g ≡ true → is_open g ≡ true
free_open g e = ap (λ t. t || is_regional g) e

regional_open : (g : GraphemeClusterBreak) → is_regional g ≡ true → is_open g ≡ true
regional_open RegionalIndicator e = refl
regional_open _ e = absurd (false≢true e)

first_open : (c : ℕ) → (stands_alone c || is_flag_half c) ≡ true → is_open (grapheme_cluster_break c) ≡ true
first_open c h = elim (or_cases (stands_alone c) (is_flag_half c) h) [
  | inl a ↦ free_open (grapheme_cluster_break c) (and_parts (is_free (grapheme_cluster_break c)) (not (is_conjunct_mark (indic_conjunct_break c))) (alone_free c a)).0
  | inr f ↦ regional_open (grapheme_cluster_break c) (flag_regional c f)
]

-- ---- a boundary between two of them

pair_of : (g h : GraphemeClusterBreak) (r : Bool) → is_free g ≡ true → is_open h ≡ true → unwrap_or (break_by_pair true g h) r ≡ r
pair_of Lv Lv r e f = refl
pair_of Lv Lvt r e f = refl
pair_of Lv Other r e f = refl
pair_of Lv RegionalIndicator r e f = refl
pair_of Lvt Lv r e f = refl
pair_of Lvt Lvt r e f = refl
pair_of Lvt Other r e f = refl
pair_of Lvt RegionalIndicator r e f = refl
pair_of Other Lv r e f = refl
pair_of Other Lvt r e f = refl
pair_of Other Other r e f = refl
pair_of Other RegionalIndicator r e f = refl
pair_of _ _ r e f = absurd (cc)

no_joiner : (g : GraphemeClusterBreak) → is_free g ≡ true → is_zwj g ≡ false
no_joiner Lv e = refl
no_joiner Lvt e = refl
no_joiner Other e = refl
no_joiner _ e = absurd (false≢true e)

no_regional : (g : GraphemeClusterBreak) → is_free g ≡ true → is_regional g ≡ false
no_regional Lv e = refl
no_regional Lvt e = refl
no_regional Other e = refl
no_regional _ e = absurd (false≢true e)

no_linker : (v : IndicConjunctBreak) → not (is_conjunct_mark v) ≡ true → ends_in_linker (v ∷ []) ≡ false
unfolding ends_in_linker
no_linker InCb.Consonant e = refl
no_linker InCb.None e = refl
no_linker InCb.Extend e = absurd (false≢true e)
no_linker InCb.Linker e = absurd (false≢true e)

boundary : (c d : ℕ) (cs : List ℕ) → stands_alone c ≡ true → (stands_alone d || is_flag_half d) ≡ true → breaks (c ∷ []) (d ∷ cs) ≡ true
unfolding is_grapheme_break ends_in_half_flag
boundary c d cs p q =
    let first = and_parts (is_free (grapheme_cluster_break c)) (not (is_conjunct_mark (indic_conjunct_break c))) (alone_free c p) in
    pair_of (grapheme_cluster_break c) (grapheme_cluster_break d) _ first.0 (first_open d q)
    ∙ (λ i. not ((no_linker (indic_conjunct_break c) first.1 i && is_consonant (indic_conjunct_break d))
    || (no_joiner (grapheme_cluster_break c) first.0 i && ends_in_pictograph [] && is_extended_pictographic d)
    || ((no_regional (grapheme_cluster_break c) first.0 i && true) && is_regional (grapheme_cluster_break d))))

-- ---- the cut

alone_first : (c : ℕ) (cs : List ℕ) → stands_alone c ≡ true → is_alone_first cs ≡ true → pieces [] (c ∷ cs) ≡ (c ∷ []) ∷ pieces [] cs
alone_first c [] p q = last_alone [] c ∙ ap (λ (ps : List (List ℕ)). (c ∷ []) ∷ ps) (sym (pieces-nil []))
alone_first c (d ∷ ds) p q =
    let b = boundary c d ds p q in
    cut_here [] c (d ∷ ds) b ∙ ap (λ (ps : List (List ℕ)). (c ∷ []) ∷ ps) (cut_after d (c ∷ []) (forgets d c [] ds b) ds)

-- a text that begins with one, and with another one after it or nothing
alone_cut : (text rest : List ℕ) (c : ℕ) → IsUtf8 text → text ≡ encode_utf8 c ++ rest → stands_alone c ≡ true → begins_alone rest ≡ true
    → graphemes true text ≡ encode_utf8 c ∷ graphemes true rest
unfolding segments begins_alone
alone_cut text rest c u e p q =
    ap (λ (cs : List ℕ). map encode_utf8_all (pieces [] cs)) (chars_past_char text rest c u e)
    ∙ ap (map encode_utf8_all) (alone_first c (chars rest) p q)
    ∙ ap (λ (g : List ℕ). g ∷ graphemes true rest) (append-nil (encode_utf8 c))

-- a text, cut after its first character
module _ (text prefix back : List ℕ) (c n : ℕ) (u : IsUtf8 text) (b : IsFirst text c n) where
  l : n ≡ length (encode_utf8 c)
  l = b.bytes

  rest_utf8 : IsUtf8 b.rest
  rest_utf8 = IsUtf8-past_char text b.rest c u b.whole

  pub first_seam : IsCharBoundary text n
  first_seam = subst (IsCharBoundary text) (sym l) (IsCharBoundary-at_seam text (encode_utf8 c) b.rest b.whole rest_utf8)

  module _ (s : stands_alone c ≡ true) where
    -- it begins so, where that one stands alone
    pub begins_so : begins_alone text ≡ true
    unfolding begins_alone
    begins_so = ap is_alone_first (chars_past_char text b.rest c u b.whole) ∙ ap (λ t. t || is_flag_half c) s

    module _ (f : prefix ≡ take n text) (e : back ≡ drop n text) where
      back_is : back ≡ b.rest
      back_is = e ∙ ap (drop n) b.whole ∙ drop_at (encode_utf8 c) b.rest n (sym l)

      prefix_is : prefix ≡ encode_utf8 c
      prefix_is = f ∙ ap (take n) b.whole ∙ take_at (encode_utf8 c) b.rest n (sym l)

      pub cut_before : begins_alone back ≡ true → graphemes true text ≡ prefix ∷ graphemes true back
      cut_before a =
          alone_cut text b.rest c u b.whole s (ap begins_alone (sym back_is) ∙ a)
          ∙ (λ i. sym prefix_is i ∷ graphemes true (sym back_is i))

-- a text that joins no independent character joins none that stands alone
independent_alone_first : (cs : List ℕ) → is_independent_first cs ≡ true → is_alone_first cs ≡ true
independent_alone_first [] h = refl
independent_alone_first (c ∷ cs) h = or_more (is_independent c) (is_flag_half c) (c == 0xFFFD) h
  where
    or_more : (a b e : Bool) → (a || b) ≡ true → ((a || e) || b) ≡ true
    or_more true b e h = refl
    or_more false true true h = refl
    or_more false true false h = refl
    or_more false false e h = absurd (false≢true h)

pub independent_alone : (text : List ℕ) → begins_independent text ≡ true → begins_alone text ≡ true
unfolding begins_alone begins_independent
independent_alone text h = independent_alone_first (chars text) h

-- ---- independent characters stand alone

pub independent_stands : (c : ℕ) → is_independent c ≡ true → stands_alone c ≡ true
independent_stands c h = ap (λ t. t || c == 0xFFFD) h

pub first_of : (text : List ℕ) (c n : ℕ) → BeginsWith text c n → IsFirst text c n
first_of text c n b = record { bytes = b.bytes; rest = b.rest; whole = b.whole }
