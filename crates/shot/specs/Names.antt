-- The names of files with a screen each.
use Rattle.std.specs.Prelude.{Bool, ℕ, ◌-◌, ◌==◌, ◌&&◌, [], ◌∷◌, ◌++◌, Option, Some, None, decimal, length, nat_le}
use Rattle.std.specs.Prelude.{nat_lt, if◌then◌else◌}
use Rattle.std.specs.List.{after_first, before_first, position_or_len, repeat}
use Rattle.clap.specs.Words.{Text}
use Rattle.shot.specs.declared.names.Numbered.{Numbered as Kept}

-- a name with a place for a number: what comes before the place, the least number of digits, and what comes after it
pub record Numbered : Type 0 where
  pub front : Text
  pub digits : ℕ
  pub back : Text

abbrev pub numbered_of : Kept → Numbered
numbered_of name = record { front = name.front.now; digits = name.digits; back = name.back.now }

abbrev pub is_percent : ℕ → Bool
is_percent byte = byte == 37

abbrev pub is_d : ℕ → Bool
is_d byte = byte == 100

-- the least number of digits that a text like 04 asks for, from 1 to 9
abbrev pub digits_in : Text → Option ℕ
digits_in [] = None
digits_in (first ∷ []) = None
digits_in (first ∷ digit ∷ []) =
    if (first == 48) && (nat_lt 48 digit && nat_le digit 57) then Some (digit - 48) else None
digits_in (first ∷ digit ∷ next ∷ rest) = None

abbrev pub placed : Text → Option ℕ → Text → Option Numbered
placed front None back = None
placed front (Some digits) back = Some (record { front = front; digits = digits; back = back })

unfoldable pub placed_in : Text → Text → Option Numbered
placed_in front rest =
    if nat_lt (position_or_len is_d rest) (length rest)
    then placed front (digits_in (before_first is_d rest)) (after_first is_d rest) else None

-- a name whose first `%` begins a place for a number, as %04d
unfoldable pub numbered_in : Text → Option Numbered
numbered_in name =
    if nat_lt (position_or_len is_percent name) (length name)
    then placed_in (before_first is_percent name) (after_first is_percent name) else None

-- the decimal digits of a number, after zeros where there would be fewer than `digits`
abbrev pub padded : ℕ → ℕ → Text
padded digits number = repeat (digits - length (decimal number)) (48 ∷ []) ++ decimal number

unfoldable pub file_name : Numbered → ℕ → Text
file_name name number = name.front ++ (padded name.digits number ++ name.back)
