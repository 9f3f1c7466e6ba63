-- Letters that take two columns each, and letters that take one.
use Rattle.std.proofs.Common.{◌≡◌, ℕ, ◌<◌, ◌≤◌, inl, inr, Bool, true, false, not, ◌||◌, [], ◌∷◌, List, refl, ap, ◌∙◌, Some, unwrap_or, arith}
use Rattle.std.specs.Prelude.{min, nat_le, encode_utf8}
use Rattle.std.specs.Char.{IsScalar}
use Rattle.std.specs.Int.{is_in_range}
use Rattle.std.proofs.lemmas.Bool.{false≢true, and_parts, or_cases, leb-true}
use Rattle.std.proofs.lemmas.Str.{IsUtf8-encode}
use Rattle.std.proofs.lemmas.Bool.Decides.{nat_tests}
use Rattle.ucd_table.specs.Rows.{Range, in_ranges}
use Rattle.ucd_table.proofs.Facts.{Stepped-everywhere}
use Rattle.ucd_table.proofs.Stepped.{of_ranges, zip_stepped}
use Rattle.unicode_segmentation.proofs.TextLemmas.{chars-encode_utf8}
use Rattle.unicode_width.specs.declared.kind.Kind.{Kind}
use Rattle.unicode_width.specs.declared.kind.Kind.TheVariants.{Wide, Narrow, Ambiguous}
use Rattle.unicode_width.specs.Kind.{kind}
use Rattle.unicode_width.specs.Width.{alone, char_width, of_kind, str_width}
use Rattle.unicode_width.proofs.Computing.{unicode_width}
use Rattle.unicode_width.proofs.KindLemmas.{kind_stepped}
use Rattle.text_clusters.specs.Independent.{is_independent}
use Rattle.text_clusters.proofs.CharacterFacts.{implies_from}
use Rattle.cell_base.specs.Cluster.{program_width}
use Rattle.cell_base.specs.KnownWidths.{is_eastern_letter, is_western_letter}
use Rattle.cell_base.proofs.SingleWidths.{single_width}

abbrev is_two : Kind → Bool
is_two Wide = true
is_two _ = false

abbrev is_one : Kind → Bool
is_one Narrow = true
is_one Ambiguous = true
is_one _ = false

abbrev eastern_ranges : List Range
eastern_ranges = (0x3041, 0x3096) ∷ (0x30A0, 0x30FF) ∷ (0x4E00, 0x9FFF) ∷ (0xAC00, 0xD7A3) ∷ []

abbrev western_ranges : List Range
western_ranges = (0xC0, 0x2AF) ∷ (0x400, 0x481) ∷ []

four : (a b c d : Bool) → (a || b || c || d) ≡ true → (a || (b || (c || (d || false)))) ≡ true
four true b c d h = refl
four false true c d h = refl
four false false true d h = refl
four false false false true h = refl
four false false false false h = h

two : (a b : Bool) → (a || b) ≡ true → (a || (b || false)) ≡ true
two true b h = refl
two false true h = refl
two false false h = h

eastern_two : (c : ℕ) → is_eastern_letter c ≡ true → is_two (kind c) ≡ true
unfolding unicode_width
eastern_two c h = implies_from (in_ranges eastern_ranges c) (is_two (kind c))
    (Stepped-everywhere (λ x. not (in_ranges eastern_ranges x) || is_two (kind x))
    (zip_stepped (λ r k. not r || is_two k) (in_ranges eastern_ranges) kind (of_ranges eastern_ranges refl) kind_stepped) refl c)
    (four (is_in_range 0x3041 0x3096 c) (is_in_range 0x30A0 0x30FF c) (is_in_range 0x4E00 0x9FFF c) (is_in_range 0xAC00 0xD7A3 c) h)

western_one : (c : ℕ) → is_western_letter c ≡ true → is_one (kind c) ≡ true
unfolding unicode_width
western_one c h = implies_from (in_ranges western_ranges c) (is_one (kind c))
    (Stepped-everywhere (λ x. not (in_ranges western_ranges x) || is_one (kind x))
    (zip_stepped (λ r k. not r || is_one k) (in_ranges western_ranges) kind (of_ranges western_ranges refl) kind_stepped) refl c)
    (two (is_in_range 0xC0 0x2AF c) (is_in_range 0x400 0x481 c) h)

two_columns : (c : ℕ) (k : Kind) → is_two k ≡ true → (of_kind false c k).0 ≡ 2
two_columns c Wide h = refl
two_columns c _ h = absurd (false≢true h)

one_column : (c : ℕ) (k : Kind) → is_one k ≡ true → (of_kind false c k).0 ≡ 1
one_column c Narrow h = refl
one_column c Ambiguous h = refl
one_column c _ h = absurd (false≢true h)

eastern_high : (c : ℕ) → is_eastern_letter c ≡ true → 0xA0 < c
eastern_high c h = grind (arith, nat_tests)

western_high : (c : ℕ) → is_western_letter c ≡ true → 0xA0 < c
western_high c h = grind (arith, nat_tests)

high_width : (c n : ℕ) → 0xA0 < c → (of_kind false c (kind c)).0 ≡ n → char_width false c ≡ Some n
unfolding char_width alone
high_width c n h e = let o : char_width false c ≡ Some (of_kind false c (kind c)).0 = grind (arith, nat_tests) in o ∙ ap (λ m. Some m) e

letter_width : (c n : ℕ) → IsScalar c → 0xA0 < c → (of_kind false c (kind c)).0 ≡ n → program_width (encode_utf8 c) ≡ min n 2
unfolding program_width
letter_width c n s h e =
    ap (λ cs. min (str_width false cs) 2) (chars-encode_utf8 c (IsUtf8-encode c s))
    ∙ ap (λ m. min m 2) (single_width c h)
    ∙ ap (λ o. min (unwrap_or o 0) 2) (high_width c n h e)

pub eastern_width : (c : ℕ) → IsScalar c → is_eastern_letter c ≡ true → program_width (encode_utf8 c) ≡ 2
eastern_width c s h = letter_width c 2 s (eastern_high c h) (two_columns c (kind c) (eastern_two c h))

pub western_width : (c : ℕ) → IsScalar c → is_western_letter c ≡ true → program_width (encode_utf8 c) ≡ 1
western_width c s h = letter_width c 1 s (western_high c h) (one_column c (kind c) (western_one c h))

-- ---- they are independent

within : (c lo hi : ℕ) → is_in_range lo hi c ≡ true → (lo ≤ c) × (c ≤ hi)
within c lo hi h = let p = and_parts (nat_le lo c) (nat_le c hi) h in (leb-true lo c p.0, leb-true c hi p.1)

kana_independent : (c : ℕ) → 0x3041 ≤ c → c ≤ 0x3096 → is_independent c ≡ true
unfolding is_independent
kana_independent c l h = grind (arith, nat_tests)

katakana_independent : (c : ℕ) → 0x30A0 ≤ c → c ≤ 0x30FF → is_independent c ≡ true
unfolding is_independent
katakana_independent c l h = grind (arith, nat_tests)

ideograph_independent : (c : ℕ) → 0x4E00 ≤ c → c ≤ 0x9FFF → is_independent c ≡ true
unfolding is_independent
ideograph_independent c l h = grind (arith, nat_tests)

syllable_independent : (c : ℕ) → 0xAC00 ≤ c → c ≤ 0xD7A3 → is_independent c ≡ true
unfolding is_independent
syllable_independent c l h = grind (arith, nat_tests)

latin_independent : (c : ℕ) → 0xC0 ≤ c → c ≤ 0x2AF → is_independent c ≡ true
unfolding is_independent
latin_independent c l h = grind (arith, nat_tests)

cyrillic_independent : (c : ℕ) → 0x400 ≤ c → c ≤ 0x481 → is_independent c ≡ true
unfolding is_independent
cyrillic_independent c l h = grind (arith, nat_tests)

pub eastern_independent : (c : ℕ) → is_eastern_letter c ≡ true → is_independent c ≡ true
eastern_independent c h = elim (or_cases (is_in_range 0x3041 0x3096 c || is_in_range 0x30A0 0x30FF c || is_in_range 0x4E00 0x9FFF c) (is_in_range 0xAC00 0xD7A3 c) h) [
  | inl p ↦ elim (or_cases (is_in_range 0x3041 0x3096 c || is_in_range 0x30A0 0x30FF c) (is_in_range 0x4E00 0x9FFF c) p) [
    | inl q ↦ elim (or_cases (is_in_range 0x3041 0x3096 c) (is_in_range 0x30A0 0x30FF c) q) [
      | inl r ↦ let b = within c 0x3041 0x3096 r in kana_independent c b.0 b.1
      | inr r ↦ let b = within c 0x30A0 0x30FF r in katakana_independent c b.0 b.1
    ]
    | inr q ↦ let b = within c 0x4E00 0x9FFF q in ideograph_independent c b.0 b.1
  ]
  | inr p ↦ let b = within c 0xAC00 0xD7A3 p in syllable_independent c b.0 b.1
]

pub western_independent : (c : ℕ) → is_western_letter c ≡ true → is_independent c ≡ true
western_independent c h = elim (or_cases (is_in_range 0xC0 0x2AF c) (is_in_range 0x400 0x481 c) h) [
  | inl p ↦ let b = within c 0xC0 0x2AF p in latin_independent c b.0 b.1
  | inr p ↦ let b = within c 0x400 0x481 p in cyrillic_independent c b.0 b.1
]
