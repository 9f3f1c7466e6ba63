-- How the parser reads the text of a number in its range, and the name of a profile.
use Rattle.std.proofs.Common.{◌≡◌, ◌∙◌, ◌<◌, ◌==◌, ◌^◌, ℕ, Bool, true, false, [], ◌∷◌, None, inl, inr, refl, arith, subst, sym, true≢false}
use Rattle.std.specs.Prelude.{length, nat_le, nat_lt, neg_ℤ, int_le, drop, pos, zero, suc, codes}
use Rattle.std.specs.Char.{digit_value}
use Rattle.std.specs.List.{list_all}
use Rattle.std.specs.Str.{bytes_eq}
use Rattle.std.specs.Str.Parse.{AllDigits, IsNumeral, digits_value, signed_digits_value, starts_with_minus, without_leading_plus, without_leading_sign}
use Rattle.std.proofs.lemmas.Bool.{eqb-true, le-leb, leb-true, lt-ltb}
use Rattle.clap.specs.Lexer.{long_of, short_of, without_minus}
use Rattle.clap.specs.ValueTests.{is_numeral, is_signed_in, is_unsigned_in}
use Rattle.clap.specs.Words.{Text}
use Rattle.clap.specs.declared.builder.value_parser.ValueParser.TheVariants as value_parser
use Rattle.clap.proofs.ValueTestLemmas.{accepts-Accepts}
use Rattle.clap.proofs.WalkLemmas.{both}
use Rattle.relay.specs.Settings.{IsNumberTo, IsProfile, number_of}

digits_pass : (digits : Text) → AllDigits 10 digits → list_all (λ d. nat_lt (digit_value d) 10) digits ≡ true
digits_pass [] h = refl
digits_pass (byte ∷ digits) h = rw (lt-ltb (digit_value byte) 10 h.0) (digits_pass digits h.1)

numeral_passes : (digits : Text) → IsNumeral 10 digits → is_numeral digits ≡ true
numeral_passes digits h = rw (lt-ltb 0 (length digits) h.0, digits_pass digits h.1) refl

-- the text has the form of no option, and passes the parser's tests of a number from 1 to `most`
pub record IsPlainNumber (most : ℕ) (text : Text) : Type 0 where
  pub rest : bytes_eq text (codes "--") ≡ false
  pub long : long_of text ≡ None
  pub short : short_of text ≡ None
  pub same : without_minus text ≡ text
  pub signed : is_signed_in (pos 1) (pos most) text ≡ true
  pub unsigned : is_unsigned_in 1 most text ≡ true

module _ (most byte : ℕ) (text : Text) (small : most < 2 ^ 63) (number : IsNumberTo most (byte ∷ text)) where
  minus : (byte == 45) ≡ false
  minus = by_test (byte == 45) refl
    where
      begun : byte ≡ 45 → IsNumeral 10 (without_leading_plus (byte ∷ text)) → ⊥
      begun e h = let at : IsNumeral 10 (45 ∷ text) = rw e at h in absurd (omega (arith, at.1.0))

      by_test : (t : Bool) → (byte == 45) ≡ t → (byte == 45) ≡ false
      by_test true e = absurd (begun (eqb-true byte 45 e) number.0)
      by_test false e = e

  numeral : is_numeral (without_leading_plus (byte ∷ text)) ≡ true
  numeral = numeral_passes _ number.0

  low : nat_le 1 (number_of (byte ∷ text)) ≡ true
  low = le-leb _ _ (omega arith)

  high : nat_le (number_of (byte ∷ text)) most ≡ true
  high = le-leb _ _ (omega arith)

  fits : nat_lt (number_of (byte ∷ text)) (2 ^ 63) ≡ true
  fits = lt-ltb _ _ (omega arith)

  fits_wide : nat_lt (number_of (byte ∷ text)) (2 ^ 64) ≡ true
  fits_wide = lt-ltb _ _ (omega arith)

  pub plain_text : IsPlainNumber most (byte ∷ text)
  plain_text = record {
    rest = rw minus refl;
    long = rw minus refl;
    short = rw minus refl;
    same = rw minus refl;
    signed = rw (minus, numeral, fits, low, high) refl;
    unsigned = rw (numeral, fits_wide, low, high) refl;
  }

pub plain_number : (most : ℕ) (text : Text) → most < 2 ^ 63 → IsNumberTo most text → IsPlainNumber most text
plain_number most [] small number = absurd (omega (arith, number.0.0))
plain_number most (byte ∷ text) small number = plain_text most byte text small number

no_negative : (n : ℕ) → int_le (pos 1) (neg_ℤ (pos n)) ≡ false
no_negative zero = refl
no_negative (suc n) = refl

order_of : (most : ℕ) (text : Text) → is_signed_in (pos 1) (pos most) text ≡ true
    → (int_le (pos 1) (signed_digits_value 10 text) ≡ true) × (int_le (signed_digits_value 10 text) (pos most) ≡ true)
order_of most text taken =
    let fits = both _ _ taken in
    let order = both _ _ fits.1 in
    both _ _ order.1

-- and no other text is taken
pub number_taken : (most : ℕ) (text : Text) → is_signed_in (pos 1) (pos most) text ≡ true → IsNumberTo most text
number_taken most text taken = by_test (starts_with_minus text) refl (accepts-Accepts false (value_parser.Signed (pos 1) (pos most)) text taken).0
  where
    by_test : (t : Bool) → starts_with_minus text ≡ t → IsNumeral 10 (without_leading_sign text) → IsNumberTo most text
    by_test true e digits =
        let low : int_le (pos 1) (neg_ℤ (pos (digits_value 10 (drop 1 text)))) ≡ true = rw e at (order_of most text taken).0 in
        absurd (true≢false (sym low ∙ no_negative (digits_value 10 (drop 1 text))))
    by_test false e digits =
        let here : IsNumeral 10 (without_leading_plus text) = rw e at digits in
        let low : nat_le 1 (number_of text) ≡ true = rw e at (order_of most text taken).0 in
        let high : nat_le (number_of text) most ≡ true = rw e at (order_of most text taken).1 in
        (here, leb-true 1 (number_of text) low, leb-true (number_of text) most high)

-- a word that has the form of no option
pub record IsWord (text : Text) : Type 0 where
  pub rest : bytes_eq text (codes "--") ≡ false
  pub long : long_of text ≡ None
  pub short : short_of text ≡ None

pub profile_word : (text : Text) → IsProfile text → IsWord text
profile_word text (inl is) = subst IsWord (sym is) (record { rest = refl; long = refl; short = refl })
profile_word text (inr is) = subst IsWord (sym is) (record { rest = refl; long = refl; short = refl })
