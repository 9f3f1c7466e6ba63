-- Tab stops (ECMA-48 8.3.62 HTS, 8.3.154 TBC): of each of the first columns, whether it is one; of the columns after
-- them each that 8 divides is one.
use Rattle.std.specs.Prelude.{ℕ, zero, suc, ◌+◌, ◌-◌, ◌%◌, ◌==◌, nat_lt, min, Bool, false, List, [], ◌∷◌, ◌++◌}
use Rattle.std.specs.Prelude.{length, replicate, slice_index_or, slice_set, if◌then◌else◌}

abbrev pub is_eighth : ℕ → Bool
is_eighth column = column % 8 == 0

abbrev pub is_stop : List Bool → ℕ → Bool
is_stop stops column = if nat_lt column (length stops) then slice_index_or stops column false else is_eighth column

-- ---- HTS, and TBC 0; TBC 3

-- with so many more columns
abbrev pub extended : List Bool → ℕ → List Bool
extended stops zero = stops
extended stops (suc more) = extended (stops ++ (is_eighth (length stops) ∷ [])) more

-- a column is a stop, or none
abbrev pub with_stop : ℕ → Bool → List Bool → List Bool
with_stop column stop stops = slice_set (extended stops (column + 1 - length stops)) column stop

-- no column of so many is one
abbrev pub no_stops : ℕ → List Bool
no_stops width = replicate width false

-- ---- HT and CHT; CBT

-- the first stop from a column on, of so many columns; or the column after them
abbrev pub first_stop : List Bool → ℕ → ℕ → ℕ
first_stop stops column zero = column
first_stop stops column (suc more) = if is_stop stops column then column else first_stop stops (column + 1) more

-- the next stop past a column, or the last column
abbrev pub next_stop : List Bool → ℕ → ℕ → ℕ
next_stop stops width column = min (first_stop stops (column + 1) (width - 1 - (column + 1))) (width - 1)

-- the last stop before a column, or the first column
abbrev pub stop_before : List Bool → ℕ → ℕ
stop_before stops zero = 0
stop_before stops (suc column) = if is_stop stops column then column else stop_before stops column

-- so many stops on, and back
abbrev pub stops_on : List Bool → ℕ → ℕ → ℕ → ℕ
stops_on stops width column zero = column
stops_on stops width column (suc count) = stops_on stops width (next_stop stops width column) count

abbrev pub stops_back : List Bool → ℕ → ℕ → ℕ
stops_back stops column zero = column
stops_back stops column (suc count) = stops_back stops (stop_before stops column) count
