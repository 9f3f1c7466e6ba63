-- Runs: neighbouring visible cells that look alike.
use Rattle.std.specs.Prelude.{◌≡◌, ℕ, ◌+◌, Bool, not, ◌&&◌, ◌==◌, List, [], ◌∷◌, map, nat_le, nat_lt, sum_by}
use Rattle.cell_base.specs.Attributes.{Attributes, plain}
use Rattle.cell_base.specs.SameAttributes.{same_attributes}
use Rattle.cell_edits.specs.VisibleCells.{VisibleCell, first_column, texts_joined}
use Rattle.cell_views.specs.Groups.{groups_by}
use Rattle.screen_formats.specs.declared.runs.Part.{Part}
use Rattle.screen_formats.specs.declared.runs.Part.TheVariants.{After, At, Before}

-- the attributes and the width in columns of each cell, the first column, how many columns the cells take, and their
-- texts, joined
pub record Run : Type 0 where
  pub attributes : Attributes
  pub width : ℕ
  pub column : ℕ
  pub columns : ℕ
  pub text : List ℕ

abbrev pub first_attributes : List VisibleCell → Attributes
first_attributes [] = plain
first_attributes (v ∷ cells) = v.cell.attributes

abbrev pub first_width : List VisibleCell → ℕ
first_width [] = 1
first_width (v ∷ cells) = v.cell.width

-- the run of cells of the same attributes and width
abbrev pub run_of : List VisibleCell → Run
run_of cells =
    record {
      attributes = first_attributes cells;
      width = first_width cells;
      column = first_column cells;
      columns = sum_by (λ v. v.cell.width) cells;
      text = texts_joined cells;
    }

-- whether a cell goes on a run: it has the attributes of the run's cells, and takes as many columns
abbrev pub goes_on : Run → VisibleCell → Bool
goes_on run v = same_attributes run.attributes v.cell.attributes && run.width == v.cell.width

abbrev pub begins_run : List VisibleCell → VisibleCell → Bool
begins_run cells v = not (goes_on (run_of cells) v)

-- a cell has the attributes and the width of a run
pub record RendersAs (run : Run) (v : VisibleCell) : Type 0 where
  pub attributes : v.cell.attributes ≡ run.attributes
  pub width : v.cell.width ≡ run.width

-- whether a cell is before, at or after a column
abbrev pub is_in : Part → VisibleCell → Bool
is_in (Before column) v = nat_le (v.column + v.cell.width) column
is_in (At column) v = nat_le v.column column && nat_lt column (v.column + v.cell.width)
is_in (After column) v = nat_lt column v.column

-- the runs of cells, in order
abbrev pub runs_of : List VisibleCell → List Run
runs_of cells = map run_of (groups_by begins_run cells)
