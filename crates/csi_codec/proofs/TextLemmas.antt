-- The text of a spellable list gives it back.
use Rattle.std.proofs.Common.{◌≡◌, ℕ, ◌+◌, ◌-◌, ◌*◌, ◌^◌, ◌<◌, ◌≤◌, pos, negsuc, leb, min, true, false, not, cond, ◌&&◌, List, [], ◌∷◌, ◌++◌, length, Option, Some, None, arith, rules, refl, ap, ◌∙◌}
use Rattle.std.specs.Prelude.{flat_map, unwrap_or, encode_utf8}
use Rattle.std.specs.Char.{is_ascii_digit}
use Rattle.std.specs.Str.{all_ascii_digits}
use Rattle.std.specs.Fmt.{decimal}
use Rattle.std.proofs.lemmas.Bool.{leb-true, and_parts}
use Rattle.std.proofs.lemmas.Bool.Decides.{nat_tests}
use Rattle.std.proofs.lemmas.Str.{encode_ascii}
use Rattle.std.proofs.lemmas.Str.Parse.{IsNumeralModel, numerals_by_fold}
use Rattle.std.proofs.lemmas.Fmt.{digits_value-decimal, digits_decimal, decimal_is_IsNumeral}
use Rattle.csi_codec.specs.declared.parameters.CsiParam.{CsiParam}
use Rattle.csi_codec.specs.declared.parameters.CsiParam.TheVariants.{Integer, P}
use Rattle.csi_codec.specs.Parameters.{begins_with_number, token_text}
use Rattle.csi_codec.specs.Texts.{largest_number, begun_token, tokens_after, is_sign, is_spellable}

-- ---- Digits

abbrev read_on : ℕ → List ℕ → ℕ
read_on n [] = n
read_on n (c ∷ cs) = read_on (10 * n + (c - 48)) cs

own : IsNumeralModel (λ ds. all_ascii_digits ds ≡ true) (read_on 0)
own = numerals_by_fold _ (search rules) read_on (search rules)

decimal_value : (n : ℕ) → n < 2 ^ 64 → read_on 0 (decimal n) ≡ n
decimal_value n h = search (rules, digits_value-decimal own)

pub decimal_digits : (n : ℕ) → n < 2 ^ 64 → all_ascii_digits (decimal n) ≡ true
decimal_digits n h = search (rules, digits_decimal own)

after-digits : (ds x : List ℕ) (m : ℕ) → all_ascii_digits ds ≡ true → tokens_after (Some m) (ds ++ x) ≡ tokens_after (Some (read_on m ds)) x
after-digits [] x m h = refl
after-digits (c ∷ cs) x m h =
    ap (λ b. cond b (tokens_after (Some (10 * m + (c - 48))) (cs ++ x)) (Integer (pos (min m largest_number)) ∷ P c ∷ tokens_after None (cs ++ x))) (and_parts (is_ascii_digit c) (all_ascii_digits cs) h).0
    ∙ after-digits cs x (10 * m + (c - 48)) (and_parts (is_ascii_digit c) (all_ascii_digits cs) h).1

some-digits : (ds x : List ℕ) → 0 < length ds → all_ascii_digits ds ≡ true → tokens_after None (ds ++ x) ≡ tokens_after (Some (read_on 0 ds)) x
some-digits [] x l h = absurd (omega arith)
some-digits (c ∷ cs) x l h =
    ap (λ b. cond b (tokens_after (Some (0 + (c - 48))) (cs ++ x)) (P c ∷ tokens_after None (cs ++ x))) (and_parts (is_ascii_digit c) (all_ascii_digits cs) h).0
    ∙ after-digits cs x (0 + (c - 48)) (and_parts (is_ascii_digit c) (all_ascii_digits cs) h).1

-- ---- Other bytes

pub sign_small : (b : ℕ) → is_sign b ≡ true → b < 128
sign_small b h = grind (arith, nat_tests)

not_digit : (b : ℕ) → is_sign b ≡ true → is_ascii_digit b ≡ false
not_digit b h = grind (arith, nat_tests)

pub sign_text : (b : ℕ) → is_sign b ≡ true → encode_utf8 b ≡ b ∷ []
sign_text b h = encode_ascii b (sign_small b h)

after-sign : (begun : Option ℕ) (b : ℕ) (x : List ℕ) → is_sign b ≡ true → tokens_after begun (encode_utf8 b ++ x) ≡ begun_token begun ++ P b ∷ tokens_after None x
after-sign begun b x h =
    ap (λ bytes. tokens_after begun (bytes ++ x)) (sign_text b h)
    ∙ ap (λ v. cond v (tokens_after (Some (10 * unwrap_or begun 0 + (b - 48))) x) (begun_token begun ++ P b ∷ tokens_after None x)) (not_digit b h)

-- ---- Lists

min_large : (n : ℕ) → n ≤ largest_number → min n largest_number ≡ n
min_large n h = omega arith

not_number : (ts : List CsiParam) → not (begins_with_number ts) ≡ true → begins_with_number ts ≡ false
not_number [] h = refl
not_number (Integer z ∷ ts) h = cc
not_number (P b ∷ ts) h = refl

pub nonempty_decimal : (n : ℕ) → n < 2 ^ 64 → 0 < length (decimal n)
nonempty_decimal n h = (decimal_is_IsNumeral n h).0.0

mutual
  pub list_back : (ts : List CsiParam) → is_spellable ts ≡ true → tokens_after None (flat_map token_text ts) ≡ ts
  list_back [] h = refl
  list_back (P b ∷ ts) h =
      after-sign None b (flat_map token_text ts) (and_parts (is_sign b) (is_spellable ts) h).0
      ∙ ap (λ us. P b ∷ us) (list_back ts (and_parts (is_sign b) (is_spellable ts) h).1)
  list_back (Integer (negsuc n) ∷ ts) h = cc
  list_back (Integer (pos n) ∷ ts) h =
      let small : n ≤ largest_number = leb-true n largest_number (and_parts (leb n largest_number) (not (begins_with_number ts) && is_spellable ts) h).0 in
      let remaining : (not (begins_with_number ts) && is_spellable ts) ≡ true = (and_parts (leb n largest_number) (not (begins_with_number ts) && is_spellable ts) h).1 in
      let fits : n < 2 ^ 64 = omega arith in
      some-digits (decimal n) (flat_map token_text ts) (nonempty_decimal n fits) (decimal_digits n fits)
      ∙ ap (λ k. tokens_after (Some k) (flat_map token_text ts)) (decimal_value n fits)
      ∙ list_after n ts small (not_number ts (and_parts (not (begins_with_number ts)) (is_spellable ts) remaining).0) (and_parts (not (begins_with_number ts)) (is_spellable ts) remaining).1

  -- after a number
  list_after : (n : ℕ) (ts : List CsiParam) → n ≤ largest_number → begins_with_number ts ≡ false → is_spellable ts ≡ true → tokens_after (Some n) (flat_map token_text ts) ≡ Integer (pos n) ∷ ts
  list_after n [] s b h = ap (λ k. Integer (pos k) ∷ []) (min_large n s)
  list_after n (Integer z ∷ ts) s b h = cc
  list_after n (P c ∷ ts) s b h =
      after-sign (Some n) c (flat_map token_text ts) (and_parts (is_sign c) (is_spellable ts) h).0
      ∙ ap (λ k. Integer (pos k) ∷ P c ∷ tokens_after None (flat_map token_text ts)) (min_large n s)
      ∙ ap (λ us. Integer (pos n) ∷ P c ∷ us) (list_back ts (and_parts (is_sign c) (is_spellable ts) h).1)
