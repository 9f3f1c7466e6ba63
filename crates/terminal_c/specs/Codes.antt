-- The codes that calls answer.
use Rattle.std.specs.Prelude.{ℕ, Bool, ◌==◌, List}
use Rattle.std.specs.List.{list_any}

-- the call was carried out
abbrev pub DONE : ℕ
DONE = 0

-- the handle is closed
abbrev pub NOT_OPEN : ℕ
NOT_OPEN = 1

-- the handle is open, and stays as it was
abbrev pub IS_OPEN : ℕ
IS_OPEN = 2

-- memory was refused
abbrev pub MEMORY : ℕ
MEMORY = 3

-- the number of changes would pass the largest `usize`
abbrev pub NUMBER : ℕ
NUMBER = 4

-- the terminal has failed: an earlier call was refused
abbrev pub FAILED : ℕ
FAILED = 5

-- a size isn't from 1 to 2^32 - 1, or two terminals have different sizes
abbrev pub SIZE : ℕ
SIZE = 6

-- there is no such row, profile or format; or a plain terminal has no modes
abbrev pub RANGE : ℕ
RANGE = 7

-- the other terminal has failed
abbrev pub OTHER_FAILED : ℕ
OTHER_FAILED = 8

-- whether the code is one of these
abbrev pub is_among : List ℕ → ℕ → Bool
is_among codes code = list_any (λ c. c == code) codes
