-- Appending keeps the bytes that were there.
use Rattle.std.proofs.Common.{◌≡◌, ℕ, ◌+◌, ◌<◌, ◌≤◌, ◌==◌, Bool, true, false, cond, eqb, List, [], ◌∷◌, ◌++◌, length, map, get_or, take, drop, refl, ap, sym, ◌∙◌, arith, length-append, append_assoc, append-nil, Bor, String, Global}
use Rattle.std.proofs.lemmas.List.{take_at, take-take, drop_all}
use Rattle.base64.specs.Engines.{standard}
use Rattle.base64.specs.GeneralPurpose.{encode_of, encoded_size_of}
use Rattle.std.specs.Char.{encode_utf8}
use Rattle.std.specs.Int.RustNames.{bit_and}
use Rattle.std.specs.Map.Iter.{deref_pair}
use Rattle.std.specs.String.{string_bytes}
use Rattle.cell_base.specs.Link.{texts_of}
use Rattle.cell_base.specs.LinkText.{params_text}
use Rattle.cell_base.proofs.ReadingSteps.{params_more}
use Rattle.escape_osc.specs.declared.selection.Selection.{Selection}
use Rattle.escape_osc.specs.declared.show.TheConstants.{LETTERS}
use Rattle.escape_osc.specs.Selection.{bits_of, letters_of}
use Rattle.escape_osc.specs.Text.{base64_of}
use Rattle.escape_osc.proofs.ShowLemmas.{row_letter, row_letters, row_letters_next, row_letters_end}

-- if `third` begins with `second`, and `second` with `first`, then `third` begins with `first`
pub kept : (first second third added : List ℕ) → second ≡ first ++ added → take (length second) third ≡ second → take (length first) third ≡ first
kept first second third added e h =
    let longer : length first ≤ length second = omega (arith, ap length e, length-append first added) in
    sym (take-take (length first) (length second) third longer) ∙ ap (take (length first)) (h ∙ e) ∙ take_at first added (length first) refl

-- base64 over as many bytes as it has symbols
pub base64_over : (bytes old new : List ℕ) → length old ≡ encoded_size_of standard (length bytes)
    → new ≡ encode_of standard bytes ++ drop (encoded_size_of standard (length bytes)) old → new ≡ base64_of bytes
unfolding base64_of
base64_over bytes old new size e =
    e ∙ ap (λ rest. encode_of standard bytes ++ rest) (drop_all (encoded_size_of standard (length bytes)) old (omega (arith, size))) ∙ append-nil (encode_of standard bytes)

-- ---- a walk over the letters' table, with the bytes before the letters, and the letters so far

pub letter_appended : (before dest letter new : List ℕ) (bits : ℕ) (rows : List (ℕ × Selection)) (i : ℕ) (d : ℕ × Selection) (held : Bool) → i < length rows
    → held ≡ (bit_and bits (bits_of (get_or rows i d).1) == bits_of (get_or rows i d).1) → held ≡ true → letter ≡ encode_utf8 (get_or rows i d).0
    → dest ≡ before ++ row_letters bits (take i rows) → new ≡ dest ++ letter
    → new ≡ before ++ row_letters bits (take (i + 1) rows)
letter_appended before dest letter new bits rows i d held below test is spelled so_far appended =
    let same : row_letter bits (get_or rows i d) ≡ encode_utf8 (get_or rows i d).0 = rw (sym test ∙ is) refl in
    appended ∙ ap (λ text. text ++ letter) so_far ∙ append_assoc before _ letter
    ∙ ap (λ text. before ++ (row_letters bits (take i rows) ++ text)) (spelled ∙ sym same)
    ∙ ap (λ text. before ++ text) (sym (row_letters_next bits rows i d below))

pub letter_passed : (before dest : List ℕ) (bits : ℕ) (rows : List (ℕ × Selection)) (i : ℕ) (d : ℕ × Selection) (held : Bool) → i < length rows
    → held ≡ (bit_and bits (bits_of (get_or rows i d).1) == bits_of (get_or rows i d).1) → held ≡ false
    → dest ≡ before ++ row_letters bits (take i rows) → dest ≡ before ++ row_letters bits (take (i + 1) rows)
letter_passed before dest bits rows i d held below test is so_far =
    let same : row_letter bits (get_or rows i d) ≡ [] = rw (sym test ∙ is) refl in
    so_far ∙ ap (λ text. before ++ text)
    (sym (row_letters_next bits rows i d below ∙ ap (λ text. row_letters bits (take i rows) ++ text) same ∙ append-nil _))

pub letters_appended : (before dest : List ℕ) (bits i : ℕ) → 13 ≤ i → dest ≡ before ++ row_letters bits (take i LETTERS) → dest ≡ before ++ letters_of bits
letters_appended before dest bits i h so_far = so_far ∙ ap (λ text. before ++ text) (row_letters_end bits i h)

-- ---- a walk over the parameters of a link, with the bytes before the parameters, and the parameters so far

pub param_appended : (before dest separator key value new : List ℕ) (params : List (Bor (String Global) × Bor (String Global))) (param : Bor (String Global) × Bor (String Global))
    → separator ≡ cond (eqb (length params) 0) [] (58 ∷ []) → dest ≡ before ++ params_text (texts_of (map deref_pair params))
    → key ≡ string_bytes param.0.now → value ≡ string_bytes param.1.now → new ≡ (((dest ++ separator) ++ key) ++ 61 ∷ []) ++ value
    → new ≡ before ++ params_text (texts_of (map deref_pair (params ++ param ∷ [])))
param_appended before dest separator key value new params param after so_far of_key of_value appended =
    appended ∙ rw (so_far, of_key, of_value, append_assoc, append_assoc, append_assoc, append_assoc)
    (ap (λ text. before ++ text) (params_more (λ e. (string_bytes e.0, string_bytes e.1)) deref_pair params param separator after))
