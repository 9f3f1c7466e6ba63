-- Attributes of columns, kept as runs.
use Rattle.std.specs.Prelude.{◌≡◌, ℕ, ◌++◌, ◌-◌, ◌<◌, Bool, true, ◌&&◌, nat_lt, List, [], ◌∷◌, take, drop, replicate}
use Rattle.std.specs.List.{flat_map}
use Rattle.cell_base.specs.Attributes.{Attributes}
use Rattle.clustered_row.specs.declared.run.Run.{Run}

-- the attributes of a run's columns
abbrev pub columns_of : Run → List Attributes
columns_of run = replicate run.count run.attributes

-- the attributes of each column
abbrev pub spread : List Run → List Attributes
spread runs = flat_map columns_of runs

-- the columns after a run have other attributes, or the run is full: it can count no more
abbrev pub IsMaximal : Run → List Run → Type 0
IsMaximal run [] = Unit {0}
IsMaximal run (next ∷ runs) = run.attributes ≡ next.attributes → run.count ≡ 4294967295

-- no run is empty, and none could be longer
abbrev pub AreMaximal : List Run → Type 0
AreMaximal [] = Unit {0}
AreMaximal (run ∷ runs) = (0 < run.count) × IsMaximal run runs × AreMaximal runs

-- the columns, where the ones from `a` on, before `b`, get these attributes
abbrev pub attributes_set : ℕ → ℕ → Attributes → List Attributes → List Attributes
attributes_set a b attributes columns = take a columns ++ replicate (b - a) attributes ++ drop b columns

-- no run is empty, and the first one has more than `used` columns
abbrev pub is_begun : ℕ → List Run → Bool
is_begun used [] = true
is_begun used (run ∷ runs) = nat_lt used run.count && is_begun 0 runs

-- how many columns of the first run are left after `used` of them
abbrev pub first_left : ℕ → List Run → ℕ
first_left used [] = 0
first_left used (run ∷ runs) = run.count - used
