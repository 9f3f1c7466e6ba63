-- The selections that a command names by letters (xterm's control sequences, operating system commands, 52).
use Rattle.std.specs.Prelude.{ℕ, ◌+◌, ◌==◌, ◌^◌, List, [], ◌∷◌, codes, map, find, length, Option, Some, option_map}
use Rattle.std.specs.Prelude.{if◌then◌else◌}
use Rattle.std.specs.List.{flat_map}
use Rattle.std.specs.Option.{option_and_then}
use Rattle.std.specs.Int.RustNames.{bit_and, bit_or}
use Rattle.bitflags.specs.Sets.{Row}
use Rattle.escape_osc.specs.declared.selection.Selection.{Selection}

-- the bits of a set of selections
abbrev pub bits_of : Selection → ℕ
bits_of selection = selection.0

-- a selection: its name, its letter and its bit
pub record Letter : Type 0 where
  pub name : List ℕ
  pub letter : ℕ
  pub bits : ℕ

abbrev pub lettered : List ℕ → ℕ → ℕ → Letter
lettered name letter bit = record { name = name; letter = letter; bits = 2 ^ bit }

-- every selection, in the order in which letters are written
abbrev pub letters : List Letter
letters = lettered (codes "CLIPBOARD") 99 1  -- `c`
    ∷ lettered (codes "PRIMARY") 112 2  -- `p`
    ∷ lettered (codes "SELECT") 115 3  -- `s`
    ∷ lettered (codes "CUT0") 48 4  -- `0` to `9`
    ∷ lettered (codes "CUT1") 49 5
    ∷ lettered (codes "CUT2") 50 6
    ∷ lettered (codes "CUT3") 51 7
    ∷ lettered (codes "CUT4") 52 8
    ∷ lettered (codes "CUT5") 53 9
    ∷ lettered (codes "CUT6") 54 10
    ∷ lettered (codes "CUT7") 55 11
    ∷ lettered (codes "CUT8") 56 12
    ∷ lettered (codes "CUT9") 57 13
    ∷ []

-- the names and bits, as the rows of a flags type
abbrev pub flag_table : List Row
flag_table = map (λ l. (l.name, l.bits)) letters

-- the bit of a letter
unfoldable pub letter_bits : ℕ → Option ℕ
letter_bits letter = option_map (λ l. l.bits) (find (λ l. l.letter == letter) letters)

-- the bits of the letters together, where a repeated letter counts once; `None` where a letter has no selection
unfoldable pub letters_bits : List ℕ → Option ℕ
letters_bits [] = Some 0
letters_bits (letter ∷ rest) =
    option_and_then (λ bits. option_map (λ more. bit_or bits more) (letters_bits rest)) (letter_bits letter)

-- the selection of an empty list of letters: SELECT and CUT0
abbrev pub default_selection : ℕ
default_selection = 2 ^ 3 + 2 ^ 4

-- the selection of a list of letters
unfoldable pub selection_reading : List ℕ → Option ℕ
selection_reading text = if length text == 0 then Some default_selection else letters_bits text

-- the letter of a selection, if the bits contain it
abbrev pub letter_if_held : ℕ → Letter → List ℕ
letter_if_held bits l = if bit_and bits l.bits == l.bits then l.letter ∷ [] else []

-- the letters of a selection, in the order of `letters`; bits that no letter has are not written
unfoldable pub letters_of : ℕ → List ℕ
letters_of bits = flat_map (letter_if_held bits) letters
