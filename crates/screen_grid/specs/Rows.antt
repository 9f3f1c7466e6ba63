-- Lines that are blanked, cleared and moved.
use Rattle.std.specs.Prelude.{ℕ, ◌-◌, List, ◌++◌, length, take, drop, map, replicate}
use Rattle.cell_base.specs.Attributes.{Attributes}
use Rattle.cell_base.specs.Row.{blank, plain_row}
use Rattle.cell_line.specs.LineCalls.{resize}
use Rattle.cell_line.specs.LineContent.{LineContent, clustered_line_of}

-- blanks of these attributes in all columns
abbrev pub blanked : Attributes → LineContent → LineContent
blanked attributes l = record l { columns = replicate (length l.columns) (blank attributes) }

-- a clustered line of as many plain blanks, with no number and of single width
abbrev pub cleared : LineContent → LineContent
cleared l = clustered_line_of 0 (plain_row (length l.columns))

-- lines move to the start by `count`, and the first ones reappear at the end, cleared
abbrev pub rows_up : ℕ → List LineContent → List LineContent
rows_up count lines = drop count lines ++ map cleared (take count lines)

-- lines move to the end by `count`, and the last ones reappear at the start, cleared
abbrev pub rows_down : ℕ → List LineContent → List LineContent
rows_down count lines = map cleared (drop (length lines - count) lines) ++ take (length lines - count) lines

-- a line resized to `width` columns; the number of the change is 0
abbrev pub widened : ℕ → LineContent → LineContent
widened width l = resize l width 0
