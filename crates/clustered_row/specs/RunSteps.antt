-- Steps of edits of runs.
use Rattle.std.specs.Prelude.{◌≡◌, ℕ, ◌+◌, ◌-◌, ◌<◌, ◌≤◌, List, length, take, drop, slice_index_or}
use Rattle.cell_base.specs.Attributes.{Attributes}
use Rattle.clustered_row.specs.declared.run.Run.{Run}
use Rattle.clustered_row.specs.declared.run.Position.{Position}
use Rattle.clustered_row.specs.Runs.{spread, AreMaximal}

-- a run of `count` columns with the attributes of another
abbrev pub counted : Run → ℕ → Run
counted run count = record { count = count; attributes = run.attributes }

-- `run` is the run at index `at`
abbrev pub IsAt : List Run → ℕ → Run → Type 0
IsAt runs at run = run ≡ slice_index_or runs at run

-- `last` is the last run
abbrev pub IsLast : List Run → Run → Type 0
IsLast runs last = (0 < length runs) × IsAt runs (length runs - 1) last

-- `room` is how many more columns with these attributes the last run can count
pub record IsRoom (runs : List Run) (attributes : Attributes) (room : ℕ) : Type 0 where
  pub none : length runs ≡ 0 → room ≡ 0
  pub fits : (last : Run) → IsLast runs last → last.count + room ≤ 4294967295
  pub joins : (last : Run) → IsLast runs last → 0 < room → last.attributes ≡ attributes
  pub full : (last : Run) → IsLast runs last → last.attributes ≡ attributes → last.count + room ≡ 4294967295

-- the column that a position is at
abbrev pub column_at : List Run → Position → ℕ
column_at runs position = length (spread (take position.index runs)) + position.offset

-- a position within a run, or after all
pub record IsPosition (runs : List Run) (position : Position) : Type 0 where
  pub within : position.index ≤ length runs
  pub inside : (run : Run) → position.index < length runs → IsAt runs position.index run → position.offset < run.count
  pub after : length runs ≤ position.index → position.offset ≡ 0

-- the first `kept` runs hold the columns before `a`, and the runs from `position` on the columns from `b` on; the runs
-- from `position.index` on have at most as many columns as the old runs
pub record IsParted (a b : ℕ) (old new : List Run) (kept : ℕ) (position : Position) : Type 0 where
  pub prefix : spread (take kept new) ≡ take a (spread old)
  pub after : drop position.offset (spread (drop position.index new)) ≡ drop b (spread old)
  pub order : kept ≤ position.index
  pub at : IsPosition new position
  pub fewer : length (spread (drop position.index new)) ≤ length (spread old)
  pub prefix_maximal : AreMaximal (take kept new)
  pub after_maximal : AreMaximal (drop position.index new)
