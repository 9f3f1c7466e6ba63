-- How many bytes the text of a command has.
use Rattle.std.proofs.Common.{◌≡◌, ℕ, ◌+◌, ◌≤◌, ◌==◌, List, [], ◌∷◌, ◌++◌, codes, length, length-append, replicate, refl, ◌∙◌, arith, inl, inr}
use Rattle.std.specs.List.{flat_map}
use Rattle.std.specs.Int.RustNames.{bit_and}
use Rattle.std.proofs.lemmas.Bool.{cases_Bool}
use Rattle.std.proofs.lemmas.List.{length-replicate}
use Rattle.base64.specs.Engines.{standard}
use Rattle.base64.specs.Rfc4648.{encode_symbols, padding_len, unpadded_len}
use Rattle.cell_base.specs.LinkText.{params_text, link_text}
use Rattle.escape_osc.specs.Parts.{semicolon}
use Rattle.escape_osc.specs.Selection.{Letter, letters, letter_if_held, letters_of}
use Rattle.escape_osc.specs.Text.{base64_of, framed}
use Rattle.escape_osc.specs.Sizes.{TextsTakeSix, LinksTakeSeven, EndOfLinkTakesSeven, SelectionsAreShort, AllSelectionsTakeMost, all_selections, base64_length}

length-framed : (body : List ℕ) → length (framed body) ≡ length body + 4
length-framed body = omega (arith, length-append body (0x1B ∷ 92 ∷ []))

after_code : (code : ℕ) (text : List ℕ) → length (framed (code ∷ 59 ∷ text)) ≡ length text + 6
after_code code text = omega (arith, length-framed (code ∷ 59 ∷ text))

pub texts_take_six : (text : List ℕ) → TextsTakeSix text
texts_take_six text = record { icon_name_and_title = after_code 48 text; icon_name = after_code 49 text; title = after_code 50 text; directory = after_code 55 text }

link_length : (params uri : List ℕ) → length (framed (56 ∷ 59 ∷ (params ++ 59 ∷ uri))) ≡ length params + length uri + 7
link_length params uri = omega (arith, length-framed (56 ∷ 59 ∷ (params ++ 59 ∷ uri)), length-append params (59 ∷ uri))

pub links_take_seven : LinksTakeSeven
unfolding link_text
links_take_seven link = link_length (params_text link.params) link.uri

pub end_of_link_takes_seven : EndOfLinkTakesSeven
end_of_link_takes_seven = refl

-- ---- selections

row_short : (bits : ℕ) (l : Letter) → length (letter_if_held bits l) ≤ 1
row_short bits l = elim (cases_Bool (bit_and bits l.bits == l.bits)) [
  | inl held ↦ rw held (omega arith)
  | inr not_held ↦ rw not_held (omega arith)
]

rows_short : (bits : ℕ) (ls : List Letter) → length (flat_map (letter_if_held bits) ls) ≤ length ls
rows_short bits [] = omega arith
rows_short bits (l ∷ ls) = omega (arith, row_short bits l, rows_short bits ls, length-append (letter_if_held bits l) (flat_map (letter_if_held bits) ls))

letters_short : (bits : ℕ) → length (letters_of bits) ≤ 13
unfolding letters_of
letters_short bits = rows_short bits letters

all_letters : length (letters_of all_selections) ≡ 13
unfolding letters_of
all_letters = refl

symbols_length : (symbols text : List ℕ) → length (encode_symbols symbols text) ≡ unpadded_len (length text)
unfolding encode_symbols
symbols_length symbols [] = refl
symbols_length symbols (a ∷ []) = refl
symbols_length symbols (a ∷ b ∷ []) = refl
symbols_length symbols (a ∷ b ∷ c ∷ rest) = omega (arith, symbols_length symbols rest)

length-base64 : (text : List ℕ) → length (base64_of text) ≡ base64_length (length text)
unfolding base64_of
length-base64 text =
    length-append (encode_symbols standard.encode_table text) (replicate (padding_len (length text)) 61)
    ∙ omega (arith, symbols_length standard.encode_table text, length-replicate {A = ℕ} (padding_len (length text)) 61)

-- the length of a selection command, by its letters and the bytes after them
lettered_length : (letters rest : List ℕ) → length (framed (codes "52;" ++ (letters ++ rest))) ≡ length letters + length rest + 7
lettered_length letters rest = omega (arith, length-framed (codes "52;" ++ (letters ++ rest)), length-append letters rest)

clear_length : (letters : List ℕ) → length (framed (codes "52;" ++ letters)) ≡ length letters + 7
clear_length letters = omega (arith, length-framed (codes "52;" ++ letters))

pub selections_are_short : (bits : ℕ) (text : List ℕ) → SelectionsAreShort bits text
selections_are_short bits text = record {
  query = omega (arith, letters_short bits, lettered_length (letters_of bits) (codes ";?"));
  clear = omega (arith, letters_short bits, clear_length (letters_of bits));
  set = omega (arith, letters_short bits, lettered_length (letters_of bits) (semicolon ∷ base64_of text), length-base64 text);
}

pub all_selections_take_most : (text : List ℕ) → AllSelectionsTakeMost text
all_selections_take_most text = record {
  query = omega (arith, all_letters, lettered_length (letters_of all_selections) (codes ";?"));
  clear = omega (arith, all_letters, clear_length (letters_of all_selections));
  set = omega (arith, all_letters, lettered_length (letters_of all_selections) (semicolon ∷ base64_of text), length-base64 text);
}
