-- What an edge leaves of wide cells.
use Rattle.std.specs.Prelude.{List, [], ◌∷◌, Option, Some, None}
use Rattle.cell_base.specs.Row.{space}
use Rattle.cell_edits.specs.VisibleCells.{VisibleCell, visible_at}
use Rattle.cell_views.specs.declared.half.Half.{Half}

-- a blank with the attributes of the wide cell
abbrev pub half_cell : Half → VisibleCell
half_cell half = visible_at half.cell_index space 1 half.attrs.now

-- the half, if there is one
abbrev pub half_left : Option Half → List VisibleCell
half_left None = []
half_left (Some half) = half_cell half ∷ []
