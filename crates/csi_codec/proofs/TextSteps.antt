-- A text that characters and numbers are appended to: its bytes, and that it stays UTF-8.
use Rattle.std.proofs.Common.{◌≡◌, ℕ, zero, suc, ◌+◌, ◌*◌, ◌/◌, ◌%◌, ◌^◌, ◌<◌, ◌≤◌, Bool, true, ◌&&◌, ◌⊎◌, inl, inr, List, [], ◌∷◌, ◌++◌, length, take, get_or, IsUtf8, arith, refl, ap, subst, sym, ◌∙◌, append_assoc, append-nil, length-append}
use Rattle.std.specs.Prelude.{encode_utf8, flat_map, slice_set}
use Rattle.std.specs.Fmt.{decimal}
use Rattle.std.specs.Char.{IsScalar}
use lib.Utf8.{encode}
use Rattle.std.proofs.lemmas.Bool.{cases_lt, and_parts}
use Rattle.std.proofs.lemmas.Bool.Decides.{nat_tests}
use Rattle.std.proofs.lemmas.Fmt.{decimal_digit, decimal_step, IsAscii-decimal}
use Rattle.std.proofs.lemmas.List.{take_more_set, take-set-le, length-take, length-set}
use Rattle.std.proofs.lemmas.List.Concat.{flat_map-append}
use Rattle.std.proofs.lemmas.Str.{IsUtf8-append, IsUtf8-had, IsUtf8-encode, IsUtf8-from_ascii, IsUtf8-past_char, encode_ascii}
use Rattle.csi_codec.specs.declared.parameters.CsiParam.{CsiParam}
use Rattle.csi_codec.specs.Parameters.{token_text, spelled, sequence_text}
use Rattle.csi_codec.specs.Writing.{are_digits, opened_text}
use Rattle.csi_codec.specs.declared.text.TheConstants.{NUMBERS}

-- ---- Positions

-- where a text has room for `more` bytes, so has its array
pub has_room : (text bytes : List ℕ) (len more : ℕ) → text ≡ take len bytes → len ≤ length bytes → length text + more ≤ 32 → len + more ≤ 32
has_room text bytes len more e h room = omega (arith, ap length e, length-take len bytes)

abbrev pub with_two : List ℕ → ℕ → ℕ → ℕ → List ℕ
with_two bytes len a b = slice_set (slice_set bytes len a) (len + 1) b

abbrev pub with_three : List ℕ → ℕ → ℕ → ℕ → ℕ → List ℕ
with_three bytes len a b c = slice_set (with_two bytes len a b) (len + 2) c

two_put : (bytes : List ℕ) (len a b : ℕ) → len + 2 ≤ length bytes → take (len + 2) (with_two bytes len a b) ≡ take len bytes ++ a ∷ b ∷ []
two_put bytes len a b room =
    let long : length (slice_set bytes len a) ≡ length bytes = length-set bytes len a in
    ap (λ n. take n (with_two bytes len a b)) (omega arith)
    ∙ take_more_set (slice_set bytes len a) (len + 1) b (omega arith)
    ∙ ap (λ it. it ++ b ∷ []) (take_more_set bytes len a (omega arith))
    ∙ append_assoc (take len bytes) (a ∷ []) (b ∷ [])

three_put : (bytes : List ℕ) (len a b c : ℕ) → len + 3 ≤ length bytes → take (len + 3) (with_three bytes len a b c) ≡ take len bytes ++ a ∷ b ∷ c ∷ []
three_put bytes len a b c room =
    let long : length (with_two bytes len a b) ≡ length bytes = length-set (slice_set bytes len a) (len + 1) b ∙ length-set bytes len a in
    ap (λ n. take n (with_three bytes len a b c)) (omega arith)
    ∙ take_more_set (with_two bytes len a b) (len + 2) c (omega arith)
    ∙ ap (λ it. it ++ c ∷ []) (two_put bytes len a b (omega arith))
    ∙ append_assoc (take len bytes) (a ∷ b ∷ []) (c ∷ [])

-- the first of three, and the first two
first_put : (bytes : List ℕ) (len a b c : ℕ) → len + 3 ≤ length bytes → take (len + 1) (with_three bytes len a b c) ≡ take len bytes ++ a ∷ []
first_put bytes len a b c room =
    take-set-le (len + 1) (with_two bytes len a b) (len + 2) c (omega arith) ∙ take-set-le (len + 1) (slice_set bytes len a) (len + 1) b (omega arith)
    ∙ take_more_set bytes len a (omega arith)

prefix_put : (bytes : List ℕ) (len a b c : ℕ) → len + 3 ≤ length bytes → take (len + 2) (with_three bytes len a b c) ≡ take len bytes ++ a ∷ b ∷ []
prefix_put bytes len a b c room = take-set-le (len + 2) (with_two bytes len a b) (len + 2) c (omega arith) ∙ two_put bytes len a b (omega arith)

-- ---- Characters

byte_scalar : (byte : ℕ) → byte < 256 → IsScalar byte
byte_scalar byte h = grind (arith, nat_tests)

stays_text : (old more new : List ℕ) → ∥ IsUtf8 old ∥₁ → IsUtf8 more → new ≡ old ++ more → ∥ IsUtf8 new ∥₁
stays_text old more new text also e = subst (λ bytes. ∥ IsUtf8 bytes ∥₁) (sym e) ∣ IsUtf8-append old more (IsUtf8-had old text) also ∣₁

pub ascii_stays : (bytes : List ℕ) (len byte : ℕ) → len < length bytes → byte < 128 → ∥ IsUtf8 (take len bytes) ∥₁
    → ∥ IsUtf8 (take (len + 1) (slice_set bytes len byte)) ∥₁
ascii_stays bytes len byte room small text =
    stays_text (take len bytes) (encode_utf8 byte) _ text (IsUtf8-encode byte (byte_scalar byte (omega arith)))
    (take_more_set bytes len byte room ∙ ap (λ it. take len bytes ++ it) (sym (encode_ascii byte small)))

encode_pair : (byte : ℕ) → 128 ≤ byte → byte < 256 → encode_utf8 byte ≡ (192 + byte / 64) ∷ (128 + byte % 64) ∷ []
unfolding encode
encode_pair byte low high = grind (arith, nat_tests)

pub pair_put : (bytes : List ℕ) (len byte : ℕ) → len + 2 ≤ length bytes → 128 ≤ byte → byte < 256
    → take (len + 2) (with_two bytes len (192 + byte / 64) (128 + byte % 64)) ≡ take len bytes ++ encode_utf8 byte
pair_put bytes len byte room low high =
    two_put bytes len (192 + byte / 64) (128 + byte % 64) room ∙ ap (λ it. take len bytes ++ it) (sym (encode_pair byte low high))

pub pair_stays : (bytes : List ℕ) (len byte : ℕ) → len + 2 ≤ length bytes → 128 ≤ byte → byte < 256 → ∥ IsUtf8 (take len bytes) ∥₁
    → ∥ IsUtf8 (take (len + 2) (with_two bytes len (192 + byte / 64) (128 + byte % 64))) ∥₁
pair_stays bytes len byte room low high text =
    stays_text (take len bytes) (encode_utf8 byte) _ text (IsUtf8-encode byte (byte_scalar byte high)) (pair_put bytes len byte room low high)

-- the character of a byte takes at most two bytes
pub pair_short : (old new : List ℕ) (byte : ℕ) → 128 ≤ byte → byte < 256 → new ≡ old ++ encode_utf8 byte → length new ≤ length old + 2
pair_short old new byte low high e = omega (arith, ap length e, length-append old (encode_utf8 byte), ap length (encode_pair byte low high))

-- ---- Numbers

decimal_two : (n : ℕ) → 10 ≤ n → n < 100 → decimal n ≡ (48 + n / 10) ∷ (48 + n % 10) ∷ []
decimal_two n low high = decimal_step n low (omega arith) ∙ ap (λ it. it ++ (48 + n % 10) ∷ []) (decimal_digit (n / 10) (omega arith))

decimal_three : (n : ℕ) → 100 ≤ n → n < 1000 → decimal n ≡ (48 + n / 10 / 10) ∷ (48 + n / 10 % 10) ∷ (48 + n % 10) ∷ []
decimal_three n low high = decimal_step n (omega arith) (omega arith) ∙ ap (λ it. it ++ (48 + n % 10) ∷ []) (decimal_two (n / 10) (omega arith) (omega arith))

pub one_long : (n : ℕ) → n < 10 → length (decimal n) ≡ 1
one_long n h = ap length (decimal_digit n h)

pub two_long : (n : ℕ) → 10 ≤ n → n < 100 → length (decimal n) ≡ 2
two_long n low high = ap length (decimal_two n low high)

pub three_long : (n : ℕ) → 100 ≤ n → n < 1000 → length (decimal n) ≡ 3
three_long n low high = ap length (decimal_three n low high)

one_digit : (n a b c : ℕ) → are_digits n a b c ≡ true → n < 10 → a ∷ [] ≡ decimal n
one_digit n a b c h l =
    let first : a ≡ 48 + n = grind (arith, nat_tests) in
    ap (λ k. k ∷ []) first ∙ sym (decimal_digit n l)

two_digits : (n a b c : ℕ) → are_digits n a b c ≡ true → 10 ≤ n → n < 100 → a ∷ b ∷ [] ≡ decimal n
two_digits n a b c h g l =
    let first : a ≡ 48 + n / 10 = grind (arith, nat_tests) in
    let second : b ≡ 48 + n % 10 = grind (arith, nat_tests) in
    ap (λ k. k ∷ b ∷ []) first ∙ ap (λ k. (48 + n / 10) ∷ k ∷ []) second ∙ sym (decimal_two n g l)

three_digits : (n a b c : ℕ) → are_digits n a b c ≡ true → 100 ≤ n → n < 1000 → a ∷ b ∷ c ∷ [] ≡ decimal n
three_digits n a b c h g l =
    let first : a ≡ 48 + n / 10 / 10 = grind (arith, nat_tests) in
    let second : b ≡ 48 + n / 10 % 10 = grind (arith, nat_tests) in
    let third : c ≡ 48 + n % 10 = grind (arith, nat_tests) in
    ap (λ k. k ∷ b ∷ c ∷ []) first ∙ ap (λ k. (48 + n / 10 / 10) ∷ k ∷ c ∷ []) second ∙ ap (λ k. (48 + n / 10 / 10) ∷ (48 + n / 10 % 10) ∷ k ∷ []) third
    ∙ sym (decimal_three n g l)

pub small_put : (bytes : List ℕ) (len n a b c : ℕ) → len + 3 ≤ length bytes → n < 256 → are_digits n a b c ≡ true
    → take (len + length (decimal n)) (with_three bytes len a b c) ≡ take len bytes ++ decimal n
small_put bytes len n a b c room small h = by_order (cases_lt n 10) (cases_lt n 100)
  where
    by_order : (n < 10) ⊎ (10 ≤ n) → (n < 100) ⊎ (100 ≤ n) → take (len + length (decimal n)) (with_three bytes len a b c) ≡ take len bytes ++ decimal n
    by_order (inl l) _ =
        ap (λ k. take (len + k) (with_three bytes len a b c)) (one_long n l) ∙ first_put bytes len a b c room
        ∙ ap (λ it. take len bytes ++ it) (one_digit n a b c h l)
    by_order (inr g) (inl l) =
        ap (λ k. take (len + k) (with_three bytes len a b c)) (two_long n g l) ∙ prefix_put bytes len a b c room
        ∙ ap (λ it. take len bytes ++ it) (two_digits n a b c h g l)
    by_order (inr _) (inr g) =
        ap (λ k. take (len + k) (with_three bytes len a b c)) (three_long n g (omega arith)) ∙ three_put bytes len a b c room
        ∙ ap (λ it. take len bytes ++ it) (three_digits n a b c h g (omega arith))

pub small_stays : (bytes : List ℕ) (len n a b c : ℕ) → len + 3 ≤ length bytes → n < 256 → are_digits n a b c ≡ true → ∥ IsUtf8 (take len bytes) ∥₁
    → ∥ IsUtf8 (take (len + length (decimal n)) (with_three bytes len a b c)) ∥₁
small_stays bytes len n a b c room small h text =
    stays_text (take len bytes) (decimal n) _ text (IsUtf8-from_ascii (decimal n) (IsAscii-decimal n (omega arith))) (small_put bytes len n a b c room small h)

-- the table has them
abbrev has_digits : ℕ → Bool
has_digits n = are_digits n (get_or NUMBERS (3 * n) 0) (get_or NUMBERS (3 * n + 1) 0) (get_or NUMBERS (3 * n + 2) 0)

abbrev all_have_digits : ℕ → Bool
all_have_digits zero = true
all_have_digits (suc n) = has_digits n && all_have_digits n

digits_below : (count n : ℕ) → all_have_digits count ≡ true → n < count → has_digits n ≡ true
digits_below zero n all h = absurd (omega arith)
digits_below (suc count) n all h = by_order (cases_lt n count) (λ l. digits_below count n (and_parts (has_digits count) (all_have_digits count) all).1 l)
  where
    by_order : (n < count) ⊎ (count ≤ n) → (n < count → has_digits n ≡ true) → has_digits n ≡ true
    by_order (inl l) before = before l
    by_order (inr g) before =
        let e : n ≡ count = omega arith in
        ap has_digits e ∙ (and_parts (has_digits count) (all_have_digits count) all).0

pub table_digits : (n : ℕ) → n < 256 → has_digits n ≡ true
table_digits n h = digits_below 256 n refl h

-- ---- Larger numbers

pub after_prefix : (n : ℕ) → 10 ≤ n → n < 2 ^ 64 → length (decimal n) ≡ length (decimal (n / 10)) + 1
after_prefix n low high = ap length (decimal_step n low high) ∙ length-append (decimal (n / 10)) ((48 + n % 10) ∷ [])

pub digit_after : (old prefix new : List ℕ) (n : ℕ) → 10 ≤ n → n < 2 ^ 64 → prefix ≡ old ++ decimal (n / 10) → new ≡ prefix ++ (48 + n % 10) ∷ [] → new ≡ old ++ decimal n
digit_after old prefix new n low high e f =
    f ∙ ap (λ it. it ++ (48 + n % 10) ∷ []) e ∙ append_assoc old (decimal (n / 10)) ((48 + n % 10) ∷ []) ∙ ap (λ it. old ++ it) (sym (decimal_step n low high))

-- the room that is asked for is there
pub has_small_room : (old : List ℕ) (n : ℕ) → 0 < length (decimal n) → length old + length (decimal n) + 2 ≤ 32 → length old + 3 ≤ 32
has_small_room old n some room = omega arith

pub has_last_room : (old prefix : List ℕ) (n : ℕ) → 10 ≤ n → n < 2 ^ 64 → prefix ≡ old ++ decimal (n / 10) → length old + length (decimal n) + 2 ≤ 32 → length prefix < 32
has_last_room old prefix n low high e room = omega (arith, ap length e, length-append old (decimal (n / 10)), after_prefix n low high)

-- ---- Sequences

pub parameters_text : (text parameters : List ℕ) → text ≡ 27 ∷ 91 ∷ parameters → ∥ IsUtf8 text ∥₁ → IsUtf8 parameters
parameters_text text parameters e is =
    let whole : IsUtf8 (27 ∷ 91 ∷ parameters) = subst IsUtf8 e (IsUtf8-had text is) in
    let after : IsUtf8 (91 ∷ parameters) = IsUtf8-past_char (27 ∷ 91 ∷ parameters) (91 ∷ parameters) 27 whole (ap (λ it. it ++ 91 ∷ parameters) (sym (encode_ascii 27 (omega arith)))) in
    IsUtf8-past_char (91 ∷ parameters) parameters 91 after (ap (λ it. it ++ parameters) (sym (encode_ascii 91 (omega arith))))

pub with_token : (tokens : List CsiParam) (token : CsiParam) (old new : List ℕ) → old ≡ opened_text tokens → new ≡ old ++ token_text token → new ≡ opened_text (tokens ++ token ∷ [])
with_token tokens token old new e f =
    f ∙ ap (λ it. it ++ token_text token) e
    ∙ ap (λ it. 27 ∷ 91 ∷ it) (ap (λ it. flat_map token_text tokens ++ it) (sym (append-nil (token_text token))) ∙ sym (flat_map-append token_text tokens (token ∷ [])))

pub with_final : (tokens : List CsiParam) (control : ℕ) (old new : List ℕ) → old ≡ opened_text tokens → new ≡ old ++ encode_utf8 control → new ≡ sequence_text (spelled tokens control)
with_final tokens control old new e f = f ∙ ap (λ it. it ++ encode_utf8 control) e
