-- A run's text stays one as each character set has it.
use Rattle.std.proofs.Common.{◌≡◌, ℕ, zero, suc, ◌<◌, ◌≤◌, ◌+◌, Bool, true, false, List, [], ◌∷◌, ◌++◌, length, map, refl, sym, ap, subst, ◌∙◌, arith, IsUtf8, length-append}
use Rattle.std.specs.Prelude.{◌-◌, ◌==◌, ◌&&◌, not, nat_le, nat_lt, encode_utf8_all, slice_index_or, if◌then◌else◌}
use Rattle.std.specs.List.{list_all}
use Rattle.std.specs.Char.{encode_utf8, is_ascii_control}
use lib.Utf8.{scalar}
use Rattle.std.specs.Str.{all_scalars, chars}
use Rattle.std.proofs.lemmas.Bool.{and_parts}
use Rattle.std.proofs.lemmas.List.Folds.{list_all-append}
use Rattle.std.proofs.lemmas.Str.{chars-encodes, length-le-encodes}
use Rattle.std.proofs.lemmas.List.{length-map}
use Rattle.terminal_table.specs.Charsets.{Charset, Ascii, Graphics, British, character_in, graphics, text_in}
use Rattle.terminal_table.specs.RunText.{IsRunText}

-- a byte is no ASCII control
abbrev is_plain : ℕ → Bool
is_plain b = not (is_ascii_control b)

-- a character's bytes hold no control
abbrev is_shown : ℕ → Bool
is_shown c = list_all is_plain (encode_utf8 c)

-- a character that may stand in a run
abbrev is_good : ℕ → Bool
is_good c = scalar c && is_shown c

-- one of a list, or the default
one_of : (cs : List ℕ) (i d : ℕ) → list_all is_good cs ≡ true → is_good d ≡ true → is_good (slice_index_or cs i d) ≡ true
one_of [] i d h e = e
one_of (c ∷ cs) zero d h e = (and_parts (is_good c) (list_all is_good cs) h).0
one_of (c ∷ cs) (suc i) d h e = one_of cs i d (and_parts (is_good c) (list_all is_good cs) h).1 e

good_graphics : list_all is_good graphics ≡ true
unfolding encode_utf8
good_graphics = refl

good_space : is_good 0x20 ≡ true
unfolding encode_utf8
good_space = refl

good_pound : is_good 0xA3 ≡ true
unfolding encode_utf8
good_pound = refl

good_in : (set : Charset) (c : ℕ) → is_good c ≡ true → is_good (character_in set c) ≡ true
good_in Ascii c h = h
good_in Graphics c h = by_test (nat_le 0x5F c && nat_le c 0x7E)
  where
    by_test : (b : Bool) → is_good (if b then slice_index_or graphics (c - 0x5F) 0x20 else c) ≡ true
    by_test true = one_of graphics (c - 0x5F) 0x20 good_graphics good_space
    by_test false = h
good_in British c h = by_test (c == 0x23)
  where
    by_test : (b : Bool) → is_good (if b then 0xA3 else c) ≡ true
    by_test true = good_pound
    by_test false = h

-- ---- characters in turn

each_good : (cs : List ℕ) → all_scalars cs ≡ true → list_all is_plain (encode_utf8_all cs) ≡ true → list_all is_good cs ≡ true
each_good [] s p = refl
each_good (c ∷ cs) s p =
    let first = and_parts (scalar c) (all_scalars cs) s in
    let bytes = and_parts (is_shown c) (list_all is_plain (encode_utf8_all cs)) (sym (list_all-append is_plain (encode_utf8 c) (encode_utf8_all cs)) ∙ p) in
    let rest = each_good cs first.1 bytes.1 in
    (λ i. (first.0 i && bytes.0 i) && rest i)

good_each : (set : Charset) (cs : List ℕ) → list_all is_good cs ≡ true → list_all is_good (map (character_in set) cs) ≡ true
good_each set [] h = refl
good_each set (c ∷ cs) h =
    let parts = and_parts (is_good c) (list_all is_good cs) h in
    let first = good_in set c parts.0 in
    let rest = good_each set cs parts.1 in
    (λ i. first i && rest i)

scalars_of : (cs : List ℕ) → list_all is_good cs ≡ true → all_scalars cs ≡ true
scalars_of [] h = refl
scalars_of (c ∷ cs) h =
    let parts = and_parts (is_good c) (list_all is_good cs) h in
    let first = and_parts (scalar c) (is_shown c) parts.0 in
    let rest = scalars_of cs parts.1 in
    (λ i. first.0 i && rest i)

plain_of : (cs : List ℕ) → list_all is_good cs ≡ true → list_all is_plain (encode_utf8_all cs) ≡ true
plain_of [] h = refl
plain_of (c ∷ cs) h =
    let parts = and_parts (is_good c) (list_all is_good cs) h in
    let first = and_parts (scalar c) (is_shown c) parts.0 in
    let rest = plain_of cs parts.1 in
    list_all-append is_plain (encode_utf8 c) (encode_utf8_all cs) ∙ (λ i. first.1 i && rest i)

-- ---- texts

mapped_good : (set : Charset) (text : List ℕ) → IsRunText text → list_all is_good (map (character_in set) (chars text)) ≡ true
mapped_good set text h =
    let u = h.utf8 in
    ap (λ (cs : List ℕ). list_all is_good (map (character_in set) cs)) (ap chars (sym u.1.1) ∙ chars-encodes u.0 u.1.0)
    ∙ good_each set u.0 (each_good u.0 u.1.0 (ap (list_all is_plain) u.1.1 ∙ h.printed))

pub mapped_scalars : (set : Charset) (text : List ℕ) → IsRunText text → all_scalars (map (character_in set) (chars text)) ≡ true
mapped_scalars set text h = scalars_of (map (character_in set) (chars text)) (mapped_good set text h)

mapped_run : (set : Charset) (text : List ℕ) → IsRunText text → IsRunText (encode_utf8_all (map (character_in set) (chars text)))
mapped_run set text h =
    let good = mapped_good set text h in
    record { utf8 = (map (character_in set) (chars text), (scalars_of (map (character_in set) (chars text)) good, refl)); printed = plain_of (map (character_in set) (chars text)) good }

pub run_in : (set : Charset) (text : List ℕ) → IsRunText text → IsRunText (text_in set text)
run_in Ascii text h = h
run_in Graphics text h = mapped_run Graphics text h
run_in British text h = mapped_run British text h

mapped_some : (set : Charset) (text : List ℕ) → IsUtf8 text → 0 < length text → 0 < length (encode_utf8_all (map (character_in set) (chars text)))
mapped_some set text u some =
    let same : chars text ≡ u.0 = ap chars (sym u.1.1) ∙ chars-encodes u.0 u.1.0 in
    let more = length-le-encodes (map (character_in set) (chars text)) in
    let as_many = length-map (chars text) (character_in set) in
    let first = by_chars u.0 (subst (λ (bytes : List ℕ). 0 < length bytes) (sym u.1.1) some) in
    let size = ap length same in
    omega (arith, more, as_many, first, size)
  where
    by_chars : (cs : List ℕ) → 0 < length (encode_utf8_all cs) → 0 < length cs
    by_chars [] h = h
    by_chars (c ∷ cs) h = omega arith

-- it holds a character where the run does
pub some_in : (set : Charset) (text : List ℕ) → IsUtf8 text → 0 < length text → 0 < length (text_in set text)
some_in Ascii text u some = some
some_in Graphics text u some = mapped_some Graphics text u some
some_in British text u some = mapped_some British text u some
