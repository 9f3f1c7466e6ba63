-- The changes that write cells side by side.
use Rattle.std.specs.Prelude.{List, [], ◌∷◌, ◌++◌, Option, Some, None, map, fold, if◌then◌else◌}
use Rattle.cell_base.specs.declared.color.ColorAttribute.{ColorAttribute}
use Rattle.cell_base.specs.declared.color.ColorAttribute.TheVariants.{Default}
use Rattle.cell_base.specs.Attributes.{Attributes, blank_of}
use Rattle.cell_base.specs.CellContent.{CellContent}
use Rattle.cell_base.specs.SameAttributes.{same_attributes}
use Rattle.screen_change.specs.CellRuns.{CellRun, cell_runs, background_at_end, less_blanks}
use Rattle.screen_change.specs.ChangeValue.{ChangeValue, AllAttributes, Text, ClearToEndOfLine}
use Rattle.screen_change.specs.Texts.{texts}

-- attributes, unless the pen has them
abbrev pub attributes_due : Attributes → Attributes → List ChangeValue
attributes_due pen attributes = if same_attributes attributes pen then [] else AllAttributes attributes ∷ []

-- the changes that write runs with a pen: each run's attributes, unless the pen has them, and its texts
abbrev pub runs_written : Attributes → List CellRun → List ChangeValue
runs_written pen [] = []
runs_written pen (run ∷ runs) =
    attributes_due pen run.attributes ++ map Text (texts run.cells) ++ runs_written run.attributes runs

-- the changes that write cells side by side with a pen
abbrev pub cells_written : Attributes → List CellContent → List ChangeValue
cells_written pen cells = runs_written pen (cell_runs cells)

-- the pen after the cells: the attributes of the last one
abbrev pub last_pen : Attributes → List CellContent → Attributes
last_pen pen cells = fold (λ _ cell. cell.attributes) pen cells

-- the clear to the end of the row that sets a background; the default background needs none
abbrev pub clear_due : ColorAttribute → List ChangeValue
clear_due Default = []
clear_due color = ClearToEndOfLine color ∷ []

-- the changes that write cells and the blanks after them; they set the blanks' attributes, unless there are no cells
-- before the blanks
abbrev pub cleared_written : Attributes → List CellContent → Option ColorAttribute → List ChangeValue
cleared_written pen cells None = cells_written pen cells
cleared_written pen [] (Some color) = clear_due color
cleared_written pen (cell ∷ cells) (Some color) =
    cells_written pen (cell ∷ cells) ++ attributes_due (last_pen pen (cell ∷ cells)) (blank_of color) ++ clear_due color

-- the changes that write a row's cells on blanks, with a pen
abbrev pub row_written : Attributes → List CellContent → List ChangeValue
row_written pen cells =
    let background = background_at_end cells in cleared_written pen (less_blanks background cells) background
