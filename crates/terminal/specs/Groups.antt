-- Cells in groups that are as long as possible: runs of equal attributes, and stretches of adjacent cells in a row.
use Rattle.std.specs.Prelude.{◌≡◌, ⊤, ℕ, ◌+◌, List, [], ◌∷◌, flat_map, fold, map}
use Rattle.std.specs.List.{AllByRecursion}
use Rattle.cell_base.specs.Attributes.{Attributes}
use Rattle.cell_base.specs.CellContent.{CellContent}
use Rattle.screen_change.specs.CellRuns.{CellRun}
use Rattle.screen_difference.specs.Difference.{Stretch, cells_of}
use Rattle.screen_difference.specs.FreshCells.{PlacedCell}

-- no group can be joined with the next one; `Join` is the condition of two groups that can
abbrev pub NoNeighborsJoin : {G : Type 0} → (G → G → Type 0) → List G → Type 0
NoNeighborsJoin Join [] = ⊤
NoNeighborsJoin Join (group ∷ []) = ⊤
NoNeighborsJoin Join (group ∷ next ∷ groups) = (Join group next → ⊥) × NoNeighborsJoin Join (next ∷ groups)

-- the groups' items in turn are the items; no group is empty, and none can be joined with the next one
pub record AreLongestGroupsOf {A : Type 0} {G : Type 0} (items_of : G → List A) (Join : G → G → Type 0)
    (items : List A) (groups : List G) : Type 0 where
  pub whole : flat_map items_of groups ≡ items
  pub filled : AllByRecursion (λ group. items_of group ≡ [] → ⊥) groups
  pub longest : NoNeighborsJoin Join groups

-- ---- runs

-- a cell's text and attributes
abbrev pub written : CellContent → List ℕ × Attributes
written cell = (cell.text, cell.attributes)

-- each text of a run, with the attributes of the run
abbrev pub written_by : CellRun → List (List ℕ × Attributes)
written_by run = map (λ text. (text, run.attributes)) run.cells

abbrev pub HaveEqualAttributes : CellRun → CellRun → Type 0
HaveEqualAttributes run next = run.attributes ≡ next.attributes

-- the runs hold the texts and attributes of the cells; no run is empty, and the next run's attributes differ
abbrev pub AreRunsOf : List CellContent → List CellRun → Type 0
AreRunsOf cells runs = AreLongestGroupsOf written_by HaveEqualAttributes (map written cells) runs

-- ---- stretches

-- cells of a row side by side, from a column on: the column of each is the one after the cells before it
abbrev pub side_by_side : ℕ → ℕ → List CellContent → List PlacedCell
side_by_side row column [] = []
side_by_side row column (cell ∷ cells) =
    record { row = row; column = column; cell = cell } ∷ side_by_side row (column + cell.width) cells

abbrev pub placed_by : Stretch → List PlacedCell
placed_by stretch = side_by_side stretch.row stretch.column (cells_of stretch)

abbrev pub column_after : Stretch → ℕ
column_after stretch = fold (λ column cell. column + cell.width) stretch.column (cells_of stretch)

-- the next stretch begins in the same row, at the column after this one
abbrev pub GoesOn : Stretch → Stretch → Type 0
GoesOn stretch next = (next.row ≡ stretch.row) × (next.column ≡ column_after stretch)

-- the cells of the stretches in turn are the cells; no stretch is empty, and none is continued by the next one
abbrev pub AreStretchesOf : List PlacedCell → List Stretch → Type 0
AreStretchesOf cells stretches = AreLongestGroupsOf placed_by GoesOn cells stretches
