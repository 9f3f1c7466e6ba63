-- Old cells that are passed while new ones are compared with them.
use Rattle.std.specs.Prelude.{ℕ, ◌+◌, ◌<◌, ◌^◌, ⊤, Bool, false, ◌&&◌, ◌==◌, nat_lt, List, [], ◌∷◌, if◌then◌else◌}
use Rattle.cell_base.specs.Attributes.{Attributes}
use Rattle.cell_base.specs.CellContent.{CellContent}
use Rattle.cell_base.specs.Row.{Row}
use Rattle.cell_base.specs.SameCell.{same_cell}
use Rattle.cell_edits.specs.VisibleCells.{VisibleCell, visible_at, visible_from}
use Rattle.cell_views.specs.Region.{region_left}
use Rattle.screen_difference.specs.FreshCells.{columns_from, fresh}
use Rattle.screen_difference.specs.declared.shown_cells.ShownCells.{ShownCells}

-- cells, side by side from a column on
abbrev pub side_by_side : ℕ → List VisibleCell → List VisibleCell
side_by_side at [] = []
side_by_side at (v ∷ cells) = record v { column = at } ∷ side_by_side (at + v.cell.width) cells

-- side by side from that column on, each cell ends at a column below 2^64
abbrev pub HaveRoom : ℕ → List VisibleCell → Type 0
HaveRoom at [] = ⊤
HaveRoom at (v ∷ cells) = (at + v.cell.width < 2 ^ 64) × HaveRoom (at + v.cell.width) cells

-- the cells that are not passed yet
abbrev pub shown_left : ShownCells → List VisibleCell
shown_left s = side_by_side s.column (region_left s.cells)

abbrev pub Fits : ShownCells → Type 0
Fits s = HaveRoom s.column (region_left s.cells)

-- the cells from a column on
abbrev pub from_column : ℕ → List VisibleCell → List VisibleCell
from_column column [] = []
from_column column (old ∷ olds) = if nat_lt old.column column then from_column column olds else old ∷ olds

-- whether the first cell begins at `column` and is the same as `cell`
abbrev pub begins_with : List VisibleCell → ℕ → CellContent → Bool
begins_with [] column cell = false
begins_with (old ∷ olds) column cell = old.column == column && same_cell old.cell cell

-- the new cells that the old ones don't show, where old cells before a new one's column are passed
abbrev pub passed_fresh : List VisibleCell → List VisibleCell → List VisibleCell
passed_fresh olds [] = []
passed_fresh olds (v ∷ news) =
    let rest = from_column v.column olds in
    if begins_with rest v.column v.cell then passed_fresh rest news else v ∷ passed_fresh rest news

-- the cells of a new text's bytes, from a column on, that differ from the old text's
abbrev pub differing : ℕ → List ℕ → List ℕ → Attributes → List VisibleCell
differing at olds [] attributes = []
differing at [] (new ∷ news) attributes = []
differing at (old ∷ olds) (new ∷ news) attributes =
    if old == new then differing (at + 1) olds news attributes
    else visible_at at (new ∷ []) 1 attributes ∷ differing (at + 1) olds news attributes

-- the fresh cells of `count` columns of a new row, from `other_x` on, against the cells of the old row from `x` on
abbrev pub columns_fresh : ℕ → ℕ → ℕ → Row → Row → List VisibleCell
columns_fresh x other_x count old new =
    fresh (visible_from x (columns_from x count old)) (visible_from x (columns_from other_x count new))
