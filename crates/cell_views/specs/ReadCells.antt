-- Cells as they are read from the left, each as it is stored.
use Rattle.std.specs.Prelude.{ℕ, ◌+◌, nat_le, List, [], ◌∷◌, if◌then◌else◌}
use Rattle.cell_base.specs.CellContent.{CellContent}
use Rattle.cell_edits.specs.VisibleCells.{VisibleCell}
use Rattle.cell_views.specs.declared.read_cells.ReadCells.{ReadCells}

-- the cells that are read, with their first columns
abbrev pub read_from : ℕ → List CellContent → List VisibleCell
read_from at [] = []
read_from at (cell ∷ []) = record { column = at; cell = cell } ∷ []
read_from at (cell ∷ next ∷ cells) =
    if nat_le 2 cell.width then record { column = at; cell = cell } ∷ read_from (at + 2) cells
    else record { column = at; cell = cell } ∷ read_from (at + 1) (next ∷ cells)

-- the remaining cells
abbrev pub read_left : ReadCells → List VisibleCell
read_left s = read_from s.cell_index s.cells.now
