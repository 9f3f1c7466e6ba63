-- The text that base64 was read from is its own encoding.
use Rattle.std.proofs.Common.{◌≡◌, ℕ, ◌+◌, ◌*◌, ◌/◌, ◌%◌, ◌<◌, ◌==◌, ◌&&◌, zero, suc, Bool, true, false, not, cond, ltb, nat_lt, List, [], ◌∷◌, length, get_or, replicate, refl, sym, ap, subst, arith, Some, Result, Ok, Err, inl, inr}
use Rattle.std.specs.Prelude.{encode_utf8_all}
use Rattle.std.specs.Str.{IsUtf8}
use Rattle.std.proofs.lemmas.Bool.{and_parts, leb-true}
use lib.Utf8.{encode, scalar, scalars, scalar_cases}
use Rattle.std.specs.List.{AllByRecursion, list_all}
use Rattle.std.specs.Result.{result_ok}
use Rattle.base64.specs.declared.engine.general_purpose.GeneralPurpose.{GeneralPurpose}
use Rattle.base64.specs.declared.decode.DecodeError.{DecodeError}
use Rattle.base64.specs.Engines.{standard}
use Rattle.base64.specs.GeneralPurpose.{IsBytes, IsStrict, decode_of, decoded_of, encode_of}
use Rattle.base64.specs.Rfc4648.{encode_symbols, encode_group, padding_len}
use Rattle.base64.proofs.EngineFacts.{decode_of_strict, decode_of-encode_of}
use Rattle.escape_osc.proofs.ByteLemmas.{each-append}
use Rattle.escape_osc.specs.Text.{base64_of}

some_ok : (r : Result (List ℕ) DecodeError) (bytes : List ℕ) → result_ok r ≡ Some bytes → r ≡ Ok bytes
some_ok (Ok other) bytes h = cc
some_ok (Err e) bytes h = cc

pub bytes_each : (text : List ℕ) → AllByRecursion (λ b. b < 256) text → IsBytes text
bytes_each [] h i = omega arith
bytes_each (b ∷ text) h zero = h.0
bytes_each (b ∷ text) h (suc i) = bytes_each text h.1 i

pub each_byte : (text : List ℕ) → IsBytes text → AllByRecursion (λ b. b < 256) text
each_byte [] h = tt
each_byte (b ∷ text) h = (h 0, each_byte text (λ i. h (suc i)))

exact : (e : GeneralPurpose) (text bytes : List ℕ) → IsStrict e → IsBytes text → decoded_of e text ≡ Some bytes → encode_of e bytes ≡ text
unfolding decoded_of
exact e text bytes strict b h = sym (decode_of_strict e text bytes strict b (some_ok (decode_of e text) bytes h))

pub base64_exact : (text bytes : List ℕ) → IsBytes text → decoded_of standard text ≡ Some bytes → base64_of bytes ≡ text
unfolding base64_of
base64_exact text bytes b h = exact standard text bytes (refl, refl) b h

-- ---- the base64 encoding of bytes

-- no byte of it is `;` or `?`, and all are ASCII
abbrev pub is_symbol : ℕ → Bool
is_symbol b = nat_lt b 0x80 && (not (b == 59) && not (b == 63))

abbrev pub IsSymbol : ℕ → Type 0
IsSymbol b = is_symbol b ≡ true

-- the 64 symbols
abbrev symbols : List ℕ
symbols = standard.encode_table

get_each : (xs : List ℕ) (i : ℕ) → list_all is_symbol xs ≡ true → IsSymbol (get_or xs i 0)
get_each [] i h = refl
get_each (x ∷ xs) zero h = (and_parts (is_symbol x) (list_all is_symbol xs) h).0
get_each (x ∷ xs) (suc i) h = get_each xs i (and_parts (is_symbol x) (list_all is_symbol xs) h).1

table_each : (i : ℕ) → IsSymbol (get_or symbols i 0)
table_each i = get_each symbols i refl

symbols_each : (m : List ℕ) → AllByRecursion IsSymbol (encode_symbols symbols m)
unfolding encode_symbols
symbols_each [] = tt
symbols_each (a ∷ []) = (table_each (a / 4), (table_each (a % 4 * 16), tt))
symbols_each (a ∷ b ∷ []) = (table_each (a / 4), (table_each (a % 4 * 16 + b / 16), (table_each (b % 16 * 4), tt)))
symbols_each (a ∷ b ∷ c ∷ rest) =
    each-append IsSymbol (encode_group symbols a b c) (encode_symbols symbols rest)
    (table_each (a / 4), (table_each (a % 4 * 16 + b / 16), (table_each (b % 16 * 4 + c / 64), (table_each (c % 64), tt))))
    (symbols_each rest)

padding_each : (n : ℕ) → AllByRecursion IsSymbol (replicate n 61)
padding_each zero = tt
padding_each (suc n) = (refl, padding_each n)

pub base64_each : (text : List ℕ) → AllByRecursion IsSymbol (base64_of text)
unfolding base64_of
base64_each text = each-append IsSymbol (encode_symbols symbols text) (replicate (padding_len (length text)) 61) (symbols_each text) (padding_each (padding_len (length text)))

pub base64_decoded : (text : List ℕ) → AllByRecursion (λ b. b < 256) text → decoded_of standard (base64_of text) ≡ Some text
unfolding base64_of decoded_of
base64_decoded text h = ap result_ok (decode_of-encode_of standard text refl (bytes_each text h))

-- ---- the bytes of a text

chosen : (P : List ℕ → Type 0) (b : Bool) (x y : List ℕ) → (b ≡ true → P x) → (b ≡ false → P y) → P (cond b x y)
chosen P true x y h k = h refl
chosen P false x y h k = k refl

abbrev AreBytes : List ℕ → Type 0
AreBytes text = AllByRecursion (λ b. b < 256) text

character_bytes : (c : ℕ) → c < 1114112 → AreBytes (encode c)
unfolding encode
character_bytes c h =
    chosen AreBytes (ltb c 128) _ _ (λ e. let l : c < 128 = leb-true (suc c) 128 e in (omega arith, tt))
    (λ n. chosen AreBytes (ltb c 2048) _ _ (λ e. let l : c < 2048 = leb-true (suc c) 2048 e in (omega arith, (omega arith, tt)))
    (λ m. chosen AreBytes (ltb c 65536) _ _ (λ e. let l : c < 65536 = leb-true (suc c) 65536 e in (omega arith, (omega arith, (omega arith, tt))))
    (λ k. (omega arith, (omega arith, (omega arith, (omega arith, tt)))))))

characters_bytes : (cs : List ℕ) → scalars cs ≡ true → AreBytes (encode_utf8_all cs)
characters_bytes [] h = tt
characters_bytes (c ∷ cs) h =
    let both = and_parts (scalar c) (scalars cs) h in
    let low : c < 1114112 = elim (scalar_cases c both.0) [ inl l ↦ omega arith | inr p ↦ p.1 ] in
    each-append (λ b. b < 256) (encode c) (encode_utf8_all cs) (character_bytes c low) (characters_bytes cs both.1)

pub utf8_bytes : (text : List ℕ) → IsUtf8 text → AllByRecursion (λ b. b < 256) text
utf8_bytes text h = subst AreBytes h.1.1 (characters_bytes h.0 h.1.0)
