-- Runs that are made cell by cell.
use Rattle.std.specs.Prelude.{◌+◌, List, [], ◌∷◌, ◌++◌, if◌then◌else◌}
use Rattle.cell_edits.specs.VisibleCells.{VisibleCell}
use Rattle.screen_formats.specs.Runs.{Run, goes_on, run_of}

-- a run with one more cell after its cells
abbrev pub grown : Run → VisibleCell → Run
grown run v = record run { columns = run.columns + v.cell.width; text = run.text ++ v.cell.text }

-- the cell joins the last run, or begins one
abbrev pub with_cell : List Run → VisibleCell → List Run
with_cell [] v = run_of (v ∷ []) ∷ []
with_cell (run ∷ []) v = if goes_on run v then grown run v ∷ [] else run ∷ run_of (v ∷ []) ∷ []
with_cell (run ∷ next ∷ runs) v = run ∷ with_cell (next ∷ runs) v
