-- An escaped text reads back.
use Rattle.std.proofs.Common.{◌≡◌, ℕ, ◌<◌, ◌≤◌, inl, inr, Bool, true, false, List, [], ◌∷◌, ◌++◌, refl, sym, ap, ◌∙◌, subst, arith, append_assoc, append-nil, get_or, length}
use Rattle.std.specs.Prelude.{◌||◌, ◌⊎◌, ◌==◌, Option, Some, None, unwrap_or}
use Rattle.std.specs.List.{flat_map, list_any}
use Rattle.std.specs.Char.{encode_utf8}
use Rattle.std.specs.Str.{IsUtf8, chars}
use Rattle.std.proofs.lemmas.Bool.{cases_lt, eqb-true, or_parts}
use Rattle.std.proofs.lemmas.Bool.Decides.{nat_tests}
use Rattle.std.proofs.lemmas.List.{get_or_default}
use Rattle.std.proofs.lemmas.List.Folds.{list_any_none}
use Rattle.std.proofs.lemmas.Str.{encode_ascii, chars_past_char, chars-nil, inside_one}
use lib.Utf8.{encode}
use Rattle.cell_edits.proofs.CellLemmas.{by_test}
use Rattle.screen_formats.specs.declared.escape.Markup.{Markup}
use Rattle.screen_formats.specs.Escape.{entity_of, escaped, escaped_char, held, held_text, is_markup, put_before, read_after, unescaped}

-- ---- bytes that are read as they are

abbrev pub is_special : ℕ → Bool
is_special b = b == 38 || is_markup b

pub put_joined : (xs ys : List ℕ) (text : Option (List ℕ)) → put_before xs (put_before ys text) ≡ put_before (xs ++ ys) text
put_joined xs ys None = refl
put_joined xs ys (Some t) = ap Some (sym (append_assoc xs ys t))

put_none : (text : Option (List ℕ)) → put_before [] text ≡ text
put_none None = refl
put_none (Some t) = refl

plain_byte : (b : ℕ) (text : List ℕ) → is_special b ≡ false → read_after None (b ∷ text) ≡ put_before (b ∷ []) (read_after None text)
plain_byte b text e =
    let parts = or_parts (b == 38) (is_markup b) e in
    rw (parts.0, parts.1) refl

plain_bytes : (bytes rest : List ℕ) → list_any is_special bytes ≡ false → read_after None (bytes ++ rest) ≡ put_before bytes (read_after None rest)
plain_bytes [] rest e = sym (put_none (read_after None rest))
plain_bytes (b ∷ bytes) rest e =
    let parts = or_parts (is_special b) (list_any is_special bytes) e in
    plain_byte b (bytes ++ rest) parts.0
    ∙ ap (put_before (b ∷ [])) (plain_bytes bytes rest parts.1)
    ∙ put_joined (b ∷ []) bytes (read_after None rest)

-- ---- the bytes of a character above ASCII are read as they are

high_byte : (x : ℕ) → 128 ≤ x → is_special x ≡ false
high_byte x h = grind (arith, nat_tests)

high_bytes : (c : ℕ) → 128 ≤ c → list_any is_special (encode c) ≡ false
high_bytes c h = list_any_none is_special (encode c) (λ i d within.
    ap is_special (get_or_default (encode c) i d 0 within) ∙ high_byte (get_or (encode c) i 0) (by_size i within (cases_lt (get_or (encode c) i 0) 128)))
  where
    by_size : (i : ℕ) → i < length (encode c) → (get_or (encode c) i 0 < 128) ⊎ (128 ≤ get_or (encode c) i 0) → 128 ≤ get_or (encode c) i 0
    by_size i within (inl low) =
        let same : c ≡ get_or (encode c) i 0 = inside_one c [] (encode c) i (sym (append-nil (encode c))) within low in
        absurd (omega (arith, same))
    by_size i within (inr high) = high

pub own_bytes : (c : ℕ) → is_special c ≡ false → list_any is_special (encode c) ≡ false
own_bytes c e = by_size (cases_lt c 128)
  where
    by_size : (c < 128) ⊎ (128 ≤ c) → list_any is_special (encode c) ≡ false
    by_size (inl l) = ap (list_any is_special) (encode_ascii c l) ∙ ap (λ t. t || false) e
    by_size (inr g) = high_bytes c g

-- ---- characters and texts

-- the rest is read as it is after the character
abbrev ReadsBack : ℕ → Type 0
ReadsBack c = (rest : List ℕ) → read_after None (escaped_char c ++ rest) ≡ put_before (encode_utf8 c) (read_after None rest)

amp_back : ReadsBack 38
unfolding encode_utf8
amp_back rest = refl

lt_back : ReadsBack 60
unfolding encode_utf8
lt_back rest = refl

gt_back : ReadsBack 62
unfolding encode_utf8
gt_back rest = refl

quot_back : ReadsBack 34
unfolding encode_utf8
quot_back rest = refl

apostrophe_back : ReadsBack 39
unfolding encode_utf8
apostrophe_back rest = refl

return_back : ReadsBack 13
unfolding encode_utf8
return_back rest = refl

same_back : (c d : ℕ) → (c == d) ≡ true → ReadsBack d → ReadsBack c
same_back c d e p = subst ReadsBack (sym (eqb-true c d e)) p

plain_back : (c : ℕ) → entity_of c ≡ None → is_special c ≡ false → ReadsBack c
plain_back c none plain rest = ap (λ e. read_after None (unwrap_or e (encode_utf8 c) ++ rest)) none ∙ plain_bytes (encode_utf8 c) rest (own_bytes c plain)

char_back : (c : ℕ) → ReadsBack c
char_back c =
    by_test (c == 38) (λ e. same_back c 38 e amp_back) (λ amp.
    by_test (c == 60) (λ e. same_back c 60 e lt_back) (λ lt.
    by_test (c == 62) (λ e. same_back c 62 e gt_back) (λ gt.
    by_test (c == 34) (λ e. same_back c 34 e quot_back) (λ quot.
    by_test (c == 39) (λ e. same_back c 39 e apostrophe_back) (λ apostrophe.
    by_test (c == 13) (λ e. same_back c 13 e return_back) (λ return.
    plain_back c (rw (amp, lt, gt, quot, apostrophe, return) refl) (rw (amp, lt, gt, quot, apostrophe) refl)))))))

-- the rest is read as it is after the text
chars_back : (markup : Markup) (cs rest : List ℕ) → read_after None (flat_map (λ c. escaped_char (held markup c)) cs ++ rest) ≡ put_before (flat_map (λ c. encode_utf8 (held markup c)) cs) (read_after None rest)
chars_back markup [] rest = sym (put_none (read_after None rest))
chars_back markup (c ∷ cs) rest =
    ap (read_after None) (append_assoc (escaped_char (held markup c)) (flat_map (λ c. escaped_char (held markup c)) cs) rest)
    ∙ char_back (held markup c) (flat_map (λ c. escaped_char (held markup c)) cs ++ rest)
    ∙ ap (put_before (encode_utf8 (held markup c))) (chars_back markup cs rest)
    ∙ put_joined (encode_utf8 (held markup c)) (flat_map (λ c. encode_utf8 (held markup c)) cs) (read_after None rest)

pub text_back : (markup : Markup) (text rest : List ℕ) → read_after None (escaped markup text ++ rest) ≡ put_before (held_text markup text) (read_after None rest)
text_back markup text rest = chars_back markup (chars text) rest

pub escaped_back : (markup : Markup) (text : List ℕ) → unescaped (escaped markup text) ≡ Some (held_text markup text)
escaped_back markup text =
    ap (read_after None) (sym (append-nil (escaped markup text)))
    ∙ text_back markup text []
    ∙ ap Some (append-nil (held_text markup text))

-- ---- a loop over the characters

-- after one more character, too, the text written so far and the escaped rest are the whole
pub char_pushed : (markup : Markup) (c : ℕ) (before after text rest whole : List ℕ) → IsUtf8 text → text ≡ encode_utf8 c ++ rest → after ≡ before ++ escaped_char (held markup c)
    → before ++ escaped markup text ≡ whole → after ++ escaped markup rest ≡ whole
char_pushed markup c before after text rest whole utf8 parts pushed so_far =
    ap (λ (t : List ℕ). t ++ escaped markup rest) pushed
    ∙ append_assoc before (escaped_char (held markup c)) (escaped markup rest)
    ∙ ap (λ (cs : List ℕ). before ++ flat_map (λ c. escaped_char (held markup c)) cs) (sym (chars_past_char text rest c utf8 parts))
    ∙ so_far

pub all_pushed : (markup : Markup) (now rest whole : List ℕ) → length rest ≡ 0 → now ++ escaped markup rest ≡ whole → now ≡ whole
all_pushed markup now rest whole none so_far =
    sym (append-nil now)
    ∙ ap (λ (cs : List ℕ). now ++ flat_map (λ c. escaped_char (held markup c)) cs) (sym (no_chars rest none))
    ∙ so_far
  where
    no_chars : (text : List ℕ) → length text ≡ 0 → chars text ≡ []
    no_chars [] e = chars-nil
    no_chars (b ∷ text) e = absurd (omega arith)
