-- Attributes of columns that an iteration has left.
use Rattle.std.specs.Prelude.{ℕ, List, drop}
use Rattle.cell_base.specs.Attributes.{Attributes}
use Rattle.clustered_row.specs.declared.runs_left.RunsLeft.{RunsLeft}
use Rattle.clustered_row.specs.Runs.{spread, first_left}

-- the attributes of the remaining runs, after the columns of the first one that were passed already
abbrev pub attributes_left : RunsLeft → List Attributes
attributes_left left = drop left.used (spread left.runs.now)

-- how many columns of the next run are left
abbrev pub run_left : RunsLeft → ℕ
run_left left = first_left left.used left.runs.now
