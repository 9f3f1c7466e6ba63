-- Facts on the texts that the parts of a command print.
use Rattle.std.proofs.Common.{◌≡◌, ℕ, Bool, true, false, ◌+◌, ◌<◌, ◌≤◌, ◌==◌, List, [], ◌∷◌, ◌++◌, length, get_or, take, drop, map, Vec, Global, arith, append_assoc, append-nil, refl, ap, sym, ◌∙◌, if◌then◌else◌, Option, Some, None, option_map, find, eq-eqb}
use Rattle.std.proofs.lemmas.List.{take_more, take_all, flat_map_more, at_drop_more, at_drop_all}
use Rattle.std.proofs.lemmas.Bool.Decides.{nat_tests}
use Rattle.std.proofs.lemmas.Str.{utf8_lossy_chunk, utf8_lossy_last_chunk}
use Rattle.std.specs.Str.Lossy.{utf8_lossy, utf8_valid_len, utf8_invalid_len}
use Rattle.std.proofs.Output.{has_written_append, has_written_of_eq}
use Rattle.std.specs.Fmt.{HasWritten}
use Rattle.std.specs.declared.fmt.Formatter.{Formatter}
use Rattle.std.specs.List.{flat_map}
use Rattle.std.specs.Char.{encode_utf8}
use Rattle.std.specs.Int.RustNames.{bit_and}
use Rattle.escape_osc.specs.declared.selection.Selection.{Selection}
use Rattle.escape_osc.specs.declared.show.TheConstants.{LETTERS}
use Rattle.escape_osc.specs.Parts.{semicolon, joined}
use Rattle.escape_osc.proofs.PartsLemmas.{after, joined-cons}
use Rattle.escape_osc.specs.ShownParts.{replacement_of}
use Rattle.escape_osc.specs.Selection.{Letter, bits_of, letter_bits, letters, letters_of}

-- the letter of a row of the letters' table, if `bits` holds its selection
abbrev pub row_letter : ℕ → (ℕ × Selection) → List ℕ
row_letter bits row = if bit_and bits (bits_of row.1) == bits_of row.1 then encode_utf8 row.0 else []

abbrev pub row_letters : ℕ → List (ℕ × Selection) → List ℕ
row_letters bits rows = flat_map (row_letter bits) rows

-- the whole table gives the letters of a selection
pub row_letters-LETTERS : (bits : ℕ) → row_letters bits LETTERS ≡ letters_of bits
unfolding letters_of encode_utf8
row_letters-LETTERS bits = refl

pub row_letters_next : (bits : ℕ) (rows : List (ℕ × Selection)) (i : ℕ) (d : ℕ × Selection) → i < length rows
    → row_letters bits (take (i + 1) rows) ≡ row_letters bits (take i rows) ++ row_letter bits (get_or rows i d)
row_letters_next bits rows i d below =
    ap (row_letters bits) (take_more rows i d below) ∙ sym (flat_map_more (row_letter bits) [] (take i rows) (get_or rows i d))

pub row_letters_end : (bits : ℕ) (i : ℕ) → 13 ≤ i → row_letters bits (take i LETTERS) ≡ letters_of bits
row_letters_end bits i h = ap (row_letters bits) (take_all i LETTERS h) ∙ row_letters-LETTERS bits

-- the bits of the row that has a letter
abbrev pub row_bits : ℕ → List (ℕ × Selection) → Option ℕ
row_bits letter rows = option_map (λ row. bits_of row.1) (find (λ row. row.0 == letter) rows)

row_bits_of : (letter : ℕ) (ls : List Letter) → row_bits letter (map (λ l. (l.letter, record { 0 = l.bits })) ls) ≡ option_map (λ l. l.bits) (find (λ l. l.letter == letter) ls)
row_bits_of letter [] = refl
row_bits_of letter (l ∷ ls) = by_test (l.letter == letter) (row_bits_of letter ls)
  where
    by_test : (b : Bool) → row_bits letter (map (λ (l : Letter). (l.letter, record { 0 = l.bits })) ls) ≡ option_map (λ (l : Letter). l.bits) (find (λ l. l.letter == letter) ls)
        → option_map (λ (row : ℕ × Selection). bits_of row.1) (if b then Some (l.letter, record { 0 = l.bits }) else find (λ row. row.0 == letter) (map (λ (l : Letter). (l.letter, record { 0 = l.bits })) ls))
        ≡ option_map (λ (l : Letter). l.bits) (if b then Some l else find (λ l. l.letter == letter) ls)
    by_test true rest = refl
    by_test false rest = rest

pub row_bits-LETTERS : (letter : ℕ) → row_bits letter LETTERS ≡ letter_bits letter
unfolding letter_bits
row_bits-LETTERS letter = row_bits_of letter letters

row_by : (rows : List (ℕ × Selection)) (i letter : ℕ) (d : ℕ × Selection) → i < length rows
    → row_bits letter (drop i rows) ≡ (if (get_or rows i d).0 == letter then Some (bits_of (get_or rows i d).1) else row_bits letter (drop (i + 1) rows))
row_by rows i letter d below =
    at_drop_more (λ rs. row_bits letter rs) rows i d below ∙ by_test ((get_or rows i d).0 == letter)
  where
    by_test : (b : Bool) → option_map (λ (row : ℕ × Selection). bits_of row.1) (if b then Some (get_or rows i d) else find (λ row. row.0 == letter) (drop (i + 1) rows))
        ≡ (if b then Some (bits_of (get_or rows i d).1) else row_bits letter (drop (i + 1) rows))
    by_test true = refl
    by_test false = refl

not_same : (a b : ℕ) → (a ≡ b → ⊥) → (a == b) ≡ false
not_same a b h = grind (arith, nat_tests)

-- the steps of a walk that looks for a letter
pub row_found : (rows : List (ℕ × Selection)) (i letter : ℕ) (d : ℕ × Selection) (bits : Option ℕ) → i < length rows → (get_or rows i d).0 ≡ letter
    → row_bits letter (drop i rows) ≡ bits → Some (bits_of (get_or rows i d).1) ≡ bits
row_found rows i letter d bits below same whole =
    sym (ap (λ (b : Bool). if b then Some (bits_of (get_or rows i d).1) else row_bits letter (drop (i + 1) rows)) (eq-eqb _ _ same)) ∙ sym (row_by rows i letter d below) ∙ whole

pub row_passed : (rows : List (ℕ × Selection)) (i letter : ℕ) (d : ℕ × Selection) (bits : Option ℕ) → i < length rows → ((get_or rows i d).0 ≡ letter → ⊥)
    → row_bits letter (drop i rows) ≡ bits → row_bits letter (drop (i + 1) rows) ≡ bits
row_passed rows i letter d bits below other whole =
    sym (ap (λ (b : Bool). if b then Some (bits_of (get_or rows i d).1) else row_bits letter (drop (i + 1) rows)) (not_same (get_or rows i d).0 letter other)) ∙ sym (row_by rows i letter d below) ∙ whole

pub row_none : (i letter : ℕ) → 13 ≤ i → row_bits letter (drop i LETTERS) ≡ None
row_none i letter h = at_drop_all (λ rs. row_bits letter rs) LETTERS i h

pub ruleset row_steps = (row_found, row_passed, row_none)

-- the two steps of a walk over the table, by whether the letter's selection is held
module _ {W : Type 0} (took : W → List ℕ → W → Type 0) where
  pub letter_written : (f g h : Formatter W) (bits : ℕ) (rows : List (ℕ × Selection)) (i : ℕ) (d : ℕ × Selection) (held : Bool) → i < length rows
      → held ≡ (bit_and bits (bits_of (get_or rows i d).1) == bits_of (get_or rows i d).1) → held ≡ true
      → HasWritten took f (row_letters bits (take i rows)) g → HasWritten took g (encode_utf8 (get_or rows i d).0) h
      → HasWritten took f (row_letters bits (take (i + 1) rows)) h
  letter_written f g h bits rows i d held below test is before now =
      let same : row_letter bits (get_or rows i d) ≡ encode_utf8 (get_or rows i d).0 = rw (sym test ∙ is) refl in
      has_written_of_eq took f _ _ h (ap (λ text. row_letters bits (take i rows) ++ text) (sym same) ∙ sym (row_letters_next bits rows i d below))
      (has_written_append took f _ g _ h before now)

  pub letter_skipped : (f g : Formatter W) (bits : ℕ) (rows : List (ℕ × Selection)) (i : ℕ) (d : ℕ × Selection) (held : Bool) → i < length rows
      → held ≡ (bit_and bits (bits_of (get_or rows i d).1) == bits_of (get_or rows i d).1) → held ≡ false
      → HasWritten took f (row_letters bits (take i rows)) g → HasWritten took f (row_letters bits (take (i + 1) rows)) g
  letter_skipped f g bits rows i d held below test is before =
      let same : row_letter bits (get_or rows i d) ≡ [] = rw (sym test ∙ is) refl in
      has_written_of_eq took f _ _ g (sym (row_letters_next bits rows i d below ∙ ap (λ text. row_letters bits (take i rows) ++ text) same ∙ append-nil _)) before

-- the text of bytes is that of their first chunk and of the rest
pub utf8_lossy-chunk : (bytes valid invalid rest : List ℕ) → bytes ≡ valid ++ (invalid ++ rest) → length valid ≡ utf8_valid_len bytes
    → length invalid ≡ utf8_invalid_len (drop (utf8_valid_len bytes) bytes) → (length invalid ≡ 0 → length rest ≡ 0)
    → utf8_lossy bytes ≡ valid ++ (replacement_of invalid ++ utf8_lossy rest)
utf8_lossy-chunk bytes valid [] rest parts prefix back last = utf8_lossy_last_chunk bytes valid [] rest parts prefix refl (last refl)
utf8_lossy-chunk bytes valid (b ∷ invalid) rest parts prefix back last = utf8_lossy_chunk bytes valid (b ∷ invalid) rest parts prefix back (omega arith)

-- the steps of a walk over parts
pub lossy_after_next : (parts : List (Vec ℕ Global)) (i : ℕ) (part : Vec ℕ Global) → i < length parts → part ≡ get_or parts i part
    → after (map utf8_lossy (map (λ v. v.items) (drop i parts))) ≡ semicolon ∷ utf8_lossy part.items ++ after (map utf8_lossy (map (λ v. v.items) (drop (i + 1) parts)))
lossy_after_next parts i part below item =
    at_drop_more (λ ps. after (map utf8_lossy (map (λ (v : Vec ℕ Global). v.items) ps))) parts i part below
    ∙ ap (λ (v : Vec ℕ Global). semicolon ∷ (utf8_lossy v.items ++ after (map utf8_lossy (map (λ v. v.items) (drop (i + 1) parts))))) (sym item)

pub lossy_after_end : (parts : List (Vec ℕ Global)) (i : ℕ) → length parts ≤ i → after (map utf8_lossy (map (λ v. v.items) (drop i parts))) ≡ []
lossy_after_end parts i h = at_drop_all (λ ps. after (map utf8_lossy (map (λ (v : Vec ℕ Global). v.items) ps))) parts i h

pub lossy_start : (parts rest : List (Vec ℕ Global)) (first : Vec ℕ Global) (text : List ℕ) → text ≡ first.items → parts ≡ first ∷ rest
    → utf8_lossy text ++ after (map utf8_lossy (map (λ v. v.items) rest)) ≡ joined (map utf8_lossy (map (λ v. v.items) parts))
lossy_start parts rest first text same split =
    ap (λ t. utf8_lossy t ++ after (map utf8_lossy (map (λ (v : Vec ℕ Global). v.items) rest))) same
    ∙ sym (joined-cons (utf8_lossy first.items) (map utf8_lossy (map (λ v. v.items) rest)))
    ∙ ap (λ ps. joined (map utf8_lossy (map (λ (v : Vec ℕ Global). v.items) ps))) (sym split)

pub lossy_next : (done text : List ℕ) (parts : List (Vec ℕ Global)) (i : ℕ) (part : Vec ℕ Global) → i < length parts → part ≡ get_or parts i part → text ≡ part.items
    → (done ++ semicolon ∷ utf8_lossy text) ++ after (map utf8_lossy (map (λ v. v.items) (drop (i + 1) parts))) ≡ done ++ after (map utf8_lossy (map (λ v. v.items) (drop i parts)))
lossy_next done text parts i part below item same =
    append_assoc done _ _
    ∙ ap (λ t. done ++ semicolon ∷ (utf8_lossy t ++ after (map utf8_lossy (map (λ (v : Vec ℕ Global). v.items) (drop (i + 1) parts))))) same
    ∙ ap (λ t. done ++ t) (sym (lossy_after_next parts i part below item))
