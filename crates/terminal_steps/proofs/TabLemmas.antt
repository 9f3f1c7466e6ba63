-- Tab stops, one after another.
use Rattle.std.proofs.Common.{◌≡◌, ℕ, zero, suc, ◌+◌, ◌-◌, ◌<◌, ◌≤◌, Bool, true, false, List, [], ◌∷◌, ◌++◌, length, replicate, refl, sym, ap, ◌∙◌, arith, length-append}
use Rattle.std.specs.Prelude.{min, if◌then◌else◌}
use Rattle.terminal_table.specs.TabStops.{extended, first_stop, is_eighth, is_stop, next_stop, stop_before, stops_back, stops_on}

-- a stop more
pub extended_more : (stops : List Bool) (more next : ℕ) → more ≡ suc next → extended stops more ≡ extended (stops ++ (is_eighth (length stops) ∷ [])) next
extended_more stops more next e = ap (extended stops) e

pub extended_none : (stops : List Bool) (more : ℕ) → more ≡ 0 → extended stops more ≡ stops
extended_none stops more e = ap (extended stops) e

-- no stop here, and a stop
pub first_past : (stops : List Bool) (column more next : ℕ) → more ≡ suc next → is_stop stops column ≡ false → first_stop stops column more ≡ first_stop stops (column + 1) next
first_past stops column more next e none = ap (first_stop stops column) e ∙ ap (λ (b : Bool). if b then column else first_stop stops (column + 1) next) none

pub first_here : (stops : List Bool) (column more next : ℕ) → more ≡ suc next → is_stop stops column ≡ true → first_stop stops column more ≡ column
first_here stops column more next e some = ap (first_stop stops column) e ∙ ap (λ (b : Bool). if b then column else first_stop stops (column + 1) next) some

pub first_none : (stops : List Bool) (column more : ℕ) → more ≡ 0 → first_stop stops column more ≡ column
first_none stops column more e = ap (first_stop stops column) e

pub before_past : (stops : List Bool) (column next : ℕ) → column ≡ suc next → is_stop stops next ≡ false → stop_before stops column ≡ stop_before stops next
before_past stops column next e none = ap (stop_before stops) e ∙ ap (λ (b : Bool). if b then next else stop_before stops next) none

pub before_here : (stops : List Bool) (column next : ℕ) → column ≡ suc next → is_stop stops next ≡ true → stop_before stops column ≡ next
before_here stops column next e some = ap (stop_before stops) e ∙ ap (λ (b : Bool). if b then next else stop_before stops next) some

pub before_none : (stops : List Bool) (column : ℕ) → column ≡ 0 → stop_before stops column ≡ 0
before_none stops column e = ap (stop_before stops) e

-- ---- so many stops

pub on_more : (stops : List Bool) (width column count next : ℕ) → count ≡ suc next → stops_on stops width column count ≡ stops_on stops width (next_stop stops width column) next
on_more stops width column count next e = ap (stops_on stops width column) e

pub on_none : (stops : List Bool) (width column count : ℕ) → count ≡ 0 → stops_on stops width column count ≡ column
on_none stops width column count e = ap (stops_on stops width column) e

-- where no stop comes the column stays
pub on_stays : (stops : List Bool) (width column count : ℕ) → next_stop stops width column ≡ column → stops_on stops width column count ≡ column
on_stays stops width column zero e = refl
on_stays stops width column (suc count) e = ap (λ (at : ℕ). stops_on stops width at count) e ∙ on_stays stops width column count e

pub back_more : (stops : List Bool) (column count next : ℕ) → count ≡ suc next → stops_back stops column count ≡ stops_back stops (stop_before stops column) next
back_more stops column count next e = ap (stops_back stops column) e

pub back_none : (stops : List Bool) (column count : ℕ) → count ≡ 0 → stops_back stops column count ≡ column
back_none stops column count e = ap (stops_back stops column) e

back_first : (stops : List Bool) (count : ℕ) → stops_back stops 0 count ≡ 0
back_first stops zero = refl
back_first stops (suc count) = back_first stops count

pub back_stays : (stops : List Bool) (column count : ℕ) → column ≡ 0 → stops_back stops column count ≡ 0
back_stays stops column count e = ap (λ (at : ℕ). stops_back stops at count) e ∙ back_first stops count

-- columns that are no stops
no_stop_next : (n : ℕ) → replicate n false ++ false ∷ [] ≡ replicate (suc n) false
no_stop_next zero = refl
no_stop_next (suc n) = ap (λ (bs : List Bool). false ∷ bs) (no_stop_next n)

pub no_stop_more : (n : ℕ) → replicate n false ++ false ∷ [] ≡ replicate (n + 1) false
no_stop_more n = let next : suc n ≡ n + 1 = omega arith in no_stop_next n ∙ ap (λ k. replicate k false) next
