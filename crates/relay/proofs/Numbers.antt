-- The number that an option's text gives, as the code reads it.
use Rattle.std.proofs.Common.{◌≡◌, ◌<◌, ◌≤◌, ◌^◌, ◌&&◌, ℕ, Bool, true, false, Option, Some, None, refl, arith, if◌then◌else◌}
use Rattle.std.specs.Prelude.{Result, Ok, Err, nat_lt, nat_le}
use Rattle.std.specs.Str.Parse.{ParsesUnsigned, digits_value, without_leading_plus}
use Rattle.std.proofs.lemmas.Bool.{ltb-true, leb-true, lt-ltb, le-leb}
use Rattle.clap.specs.Words.{Text}
use Rattle.clap.specs.Matches.{ReadsOne}
use Rattle.clap.specs.ValueTests.{is_unsigned_in}
use Rattle.clap.specs.declared.builder.value_parser.ValueParser.TheVariants as value_parser
use Rattle.clap.proofs.ValueTestLemmas.{accepts-Accepts, Accepts-accepts}
use Rattle.relay.specs.CommandLine.{number_or, chosen}

abbrev taken : ℕ → Text → Bool → ℕ
taken default t b = if b then digits_value 10 (without_leading_plus t) else default

module _ {E : Type 0} (gives : Text → Result ℕ E → Type 0) (parses : (t : Text) (r : Result ℕ E) → gives t r → ParsesUnsigned 32 10 t r) where
  abbrev Parses : Text → Result ℕ E → Type 0
  Parses t r = ParsesUnsigned 32 10 t r

  some_read : (default most : ℕ) (t : Text) (n : ℕ) → most < 2 ^ 32 → gives t (Ok n) → chosen default most (Some n) ≡ taken default t (is_unsigned_in 1 most t)
  some_read default most t n small given = go (is_unsigned_in 1 most t) refl (parses t (Ok n) given)
    where
      in_range : (b c : Bool) → nat_lt 0 n ≡ b → nat_le n most ≡ c → is_unsigned_in 1 most t ≡ false → Parses t (Ok n)
          → (if b && c then n else default) ≡ default
      in_range true true low high refused read =
          let lower : 0 < n = ltb-true 0 n low in
          let upper : n ≤ most = leb-true n most high in
          let is : n ≡ digits_value 10 (without_leading_plus t) = read.1 in
          let passes : is_unsigned_in 1 most t ≡ true = Accepts-accepts false (value_parser.Unsigned 1 most) t
          (read.0.0, omega arith, omega arith, omega arith) in
          cc
      in_range true false low high refused read = refl
      in_range false c low high refused read = refl

      go : (b : Bool) → is_unsigned_in 1 most t ≡ b → Parses t (Ok n) → chosen default most (Some n) ≡ taken default t (is_unsigned_in 1 most t)
      go true e read =
          let a = accepts-Accepts false (value_parser.Unsigned 1 most) t e in
          let is : n ≡ digits_value 10 (without_leading_plus t) = read.1 in
          let low : nat_lt 0 n ≡ true = lt-ltb 0 n (omega arith) in
          let high : nat_le n most ≡ true = le-leb n most (omega arith) in
          rw (e, low, high) is
      go false e read = rw e (in_range (nat_lt 0 n) (nat_le n most) refl refl e read)

  none_read : (default most : ℕ) (t : Text) (e : E) → most < 2 ^ 32 → gives t (Err e) → default ≡ taken default t (is_unsigned_in 1 most t)
  none_read default most t e small given = go (is_unsigned_in 1 most t) refl (parses t (Err e) given)
    where
      go : (b : Bool) → is_unsigned_in 1 most t ≡ b → Parses t (Err e) → default ≡ taken default t (is_unsigned_in 1 most t)
      go true e refused =
          let a = accepts-Accepts false (value_parser.Unsigned 1 most) t e in
          absurd (refused (a.0, omega arith))
      go false e refused = rw e refl

  -- the number that the code takes is the option's, whether it has a text or none
  pub number_is : (default most : ℕ) (o : Option Text) (r : Option ℕ) → most < 2 ^ 32 → (o ≡ None → r ≡ None)
      → ((t : Text) → o ≡ Some t → ReadsOne gives t r) → chosen default most r ≡ number_or default most o
  unfolding number_or
  number_is default most None r small none value = rw (none refl) refl
  number_is default most (Some t) (Some n) small none value = some_read default most t n small (value t refl)
  number_is default most (Some t) None small none value =
      let given = value t refl in
      none_read default most t given.0 small given.1
