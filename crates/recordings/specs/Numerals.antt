-- Times and counts, read from decimal numerals.
use Rattle.std.specs.Prelude.{Bool, ℕ, ◌+◌, ◌-◌, ◌*◌, ◌^◌, ◌==◌, ◌&&◌, List, [], ◌∷◌, ◌++◌, Option, Some, None, length}
use Rattle.std.specs.Prelude.{option_and_then, take, min, nat_lt, nat_le, if◌then◌else◌}
use Rattle.fast_float.specs.Text.{Parts, scan, has_digits}

-- the number of the decimal digits of `n` and some more after them
abbrev pub number_after : ℕ → List ℕ → ℕ
number_after n [] = n
number_after n (digit ∷ digits) = number_after (n * 10 + (digit - 48)) digits

-- the number of some decimal digits
abbrev pub number_of : List ℕ → ℕ
number_of digits = number_after 0 digits

-- the greatest number of 64 bits
abbrev pub greatest : ℕ
greatest = 2 ^ 64 - 1

-- how many digits of a number of seconds are before the decimal point once it is in microseconds: six more than before
-- its own decimal point, which the exponent has moved
abbrev pub micro_point : Parts → ℕ
micro_point p =
    if p.exponent_negative then length p.whole + 6 - number_of p.exponent else length p.whole + 6 + number_of p.exponent

-- the most digits before that point that a time may have
abbrev pub most_digits : ℕ
most_digits = 19

-- the zeros after the last digit of a numeral
abbrev pub zeros : List ℕ
zeros = 48 ∷ 48 ∷ 48 ∷ 48 ∷ 48 ∷ 48 ∷ 48 ∷ 48 ∷ 48 ∷ 48 ∷ 48 ∷ 48 ∷ 48 ∷ 48 ∷ 48 ∷ 48 ∷ 48 ∷ 48 ∷ 48 ∷ []

-- a number of seconds in microseconds; fractions of a microsecond are cut off
unfoldable pub micros : Parts → ℕ
micros p = number_of (take (micro_point p) (p.whole ++ (p.fraction ++ zeros)))

-- the first time that is too late: some 290,000 years
abbrev pub too_late : ℕ
too_late = 2 ^ 63

-- the numeral is the whole text, and has a digit before its exponent
abbrev pub is_numeral : List ℕ → Parts → Bool
is_numeral text p = (p.len == length text) && has_digits p

-- the microseconds of a text that is a decimal number of seconds from 0 on, with or without an exponent; `None` for any
-- other text, and from 2^63 microseconds on
unfoldable pub time_of : List ℕ → Option ℕ
time_of text =
    if is_numeral text (scan text)
    && (nat_le (micro_point (scan text)) most_digits && nat_lt (micros (scan text)) too_late)
    then Some (micros (scan text)) else None

-- the numeral is digits and nothing else
abbrev pub is_count : List ℕ → Parts → Bool
is_count text p = (length p.whole == length text) && nat_lt 0 (length text)

-- the number of a text that is digits and nothing else, at most the greatest number of 64 bits
unfoldable pub count_of : List ℕ → Option ℕ
count_of text = if is_count text (scan text) then Some (min (number_of text) greatest) else None

-- the most columns and rows of a screen
abbrev pub most_size : ℕ
most_size = 4096

-- a number of columns or rows: from 1 to the most
unfoldable pub size_of : List ℕ → Option ℕ
size_of text = option_and_then (λ n. if nat_lt 0 n && nat_le n most_size then Some n else None) (count_of text)
