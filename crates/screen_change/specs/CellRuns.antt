-- Cells side by side in runs of equal attributes, and the blanks at their end.
use Rattle.std.specs.Prelude.{ℕ, Bool, ◌&&◌, not, List, [], ◌∷◌, Option, Some, None, fold, if◌then◌else◌}
use Rattle.std.specs.Str.{bytes_eq}
use Rattle.cell_base.specs.declared.color.ColorAttribute.{ColorAttribute}
use Rattle.cell_base.specs.Attributes.{Attributes, blank_of}
use Rattle.cell_base.specs.CellContent.{CellContent}
use Rattle.cell_base.specs.Row.{space}
use Rattle.cell_base.specs.SameAttributes.{same_attributes}
use Rattle.cell_base.specs.UpToLast.{up_to_last}

-- neighbours of equal attributes: these, and the text of each cell
pub record CellRun : Type 0 where
  pub attributes : Attributes
  pub cells : List (List ℕ)

-- the cell joins the run after it where its attributes are the same
abbrev pub before_runs : CellContent → List CellRun → List CellRun
before_runs cell [] = record { attributes = cell.attributes; cells = cell.text ∷ [] } ∷ []
before_runs cell (run ∷ runs) =
    if same_attributes cell.attributes run.attributes then record run { cells = cell.text ∷ run.cells } ∷ runs
    else record { attributes = cell.attributes; cells = cell.text ∷ [] } ∷ run ∷ runs

-- the cells in runs of equal attributes, each as long as possible
abbrev pub cell_runs : List CellContent → List CellRun
cell_runs [] = []
cell_runs (cell ∷ cells) = before_runs cell (cell_runs cells)

-- whether a cell is one space with attributes that are plain except this background
unfoldable pub is_blank_of : ColorAttribute → CellContent → Bool
is_blank_of color cell = bytes_eq cell.text space && same_attributes cell.attributes (blank_of color)

-- the background of the blanks at the end, if there are any
abbrev pub background_at_end : List CellContent → Option ColorAttribute
background_at_end cells =
    fold (λ _ cell. if is_blank_of cell.attributes.background cell then Some cell.attributes.background else None) None
    cells

-- the cells less the blanks of one background at their end
abbrev pub less_blanks : Option ColorAttribute → List CellContent → List CellContent
less_blanks None cells = cells
less_blanks (Some color) cells = up_to_last (λ cell. not (is_blank_of color cell)) cells
