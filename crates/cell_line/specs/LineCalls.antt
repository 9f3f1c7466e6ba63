-- What each call of `Line` gives, under the call's own name: a query's result, and where a call changes the line, the
-- line that it leaves. A call with a number makes it the line's if it is the later one (`changed`), unless its comment
-- here says otherwise; and it keeps the line clustered, or one of cells, as it was. A half of a wide cell that is left
-- alone becomes a blank with that cell's attributes, by the definitions for rows (`RowEdits`). A margin counts columns,
-- so the last column within it is the margin less one.
use Rattle.std.specs.Prelude.{ℕ, ◌-◌, Bool, true, false, ◌&&◌, ◌||◌, ◌==◌, nat_lt, max, min, List, [], ◌∷◌, ◌++◌}
use Rattle.std.specs.Prelude.{length, map, replicate, Option, if◌then◌else◌}
use Rattle.cell_base.specs.declared.attributes.LineAttribute.TheVariants.{SingleWidthLine, DoubleWidthLine}
use Rattle.cell_base.specs.declared.attributes.LineAttribute.TheVariants.{DoubleHeightTopHalfLine}
use Rattle.cell_base.specs.declared.attributes.LineAttribute.TheVariants.{DoubleHeightBottomHalfLine}
use Rattle.cell_base.specs.declared.ranges.DoubleClickRange.{DoubleClickRange}
use Rattle.cell_base.specs.declared.ranges.ZoneRange.{ZoneRange}
use Rattle.cell_base.specs.Attributes.{Attributes, plain}
use Rattle.cell_base.specs.CellContent.{CellContent, blank_cell, cell_of, row_of_cells}
use Rattle.cell_base.specs.SameCell.{same_cell}
use Rattle.cell_base.specs.Row.{blank, plain_row, set_columns}
use Rattle.screen_change.specs.CellChanges.{row_written}
use Rattle.screen_change.specs.ChangeValue.{ChangeValue}
use Rattle.cell_line.specs.LineContent.{LineContent, line_of, clustered_line_of, changed, changed_unless_empty}
use Rattle.cell_line.specs.LineContent.{with_bits, same_bits}
use Rattle.cell_edits.specs.CellList.{text_cells, text_row}
use Rattle.cell_views.specs.Region.{region}
use Rattle.cell_edits.specs.RowEdits.{cut, cut_prefix, resized, with_cell, overlaid, with_inserted, removed, erased}
use Rattle.cell_edits.specs.RowEdits.{erased_within, pruned_row, filled}
use Rattle.cell_edits.specs.TextRuns.{fitting_cells, position_after, plain_cells, text_on}
use Rattle.cell_edits.specs.VisibleCells.{VisibleCell, contents, visible_cells as visible, texts_joined, cells_between}
use Rattle.cell_edits.specs.VisibleCells.{row_of_visible, cell_at, has_link, is_whitespace_row, ends_wrapped}
use Rattle.cell_edits.specs.VisibleCells.{row_end_wrapped}
use Rattle.cell_line.specs.Wrapped.{rows_of, texts_kept}
use Rattle.cell_views.specs.Zones.{zones}
use Rattle.cell_edits.specs.Links.{has_implicit_link, without_implicit, column_with}
use Rattle.cell_views.specs.Words.{double_click_range}
use Rattle.cell_views.specs.Clusters.{ClusterContent, cell_clusters}

-- ---- makers: each line has the given number and no bits, and is one of cells unless its comment says otherwise

-- `width` copies of a cell, read from the left: of a wide cell `width` columns
abbrev pub with_width_and_cell : ℕ → CellContent → ℕ → LineContent
with_width_and_cell width cell number = line_of number (row_of_cells (replicate width cell))

-- `width` plain blanks
abbrev pub with_width : ℕ → ℕ → LineContent
with_width width number = line_of number (plain_row width)

-- `width` plain blanks, clustered
abbrev pub with_width_clustered : ℕ → ℕ → LineContent
with_width_clustered width number = clustered_line_of number (plain_row width)

-- the cells, read from the left
abbrev pub from_cells : List CellContent → ℕ → LineContent
from_cells cells number = line_of number (row_of_cells cells)

-- no column, clustered
abbrev pub new : ℕ → LineContent
new number = clustered_line_of number []

-- a cell with these attributes for each cluster of a text
abbrev pub from_text : List ℕ → Attributes → ℕ → (List ℕ → ℕ) → LineContent
from_text text attributes number width_of = line_of number (text_row width_of text attributes)

-- as `from_text`, and the line goes on after its last visible cell
abbrev pub from_text_with_wrapped_last_col : List ℕ → Attributes → ℕ → (List ℕ → ℕ) → LineContent
from_text_with_wrapped_last_col text attributes number width_of =
    line_of number (row_end_wrapped true (text_row width_of text attributes))

-- a plain cell for each cluster of a text; the number is 0
abbrev pub try_from_text : List ℕ → (List ℕ → ℕ) → LineContent
try_from_text text width_of = line_of 0 (text_row width_of text plain)

-- ---- size

-- cut, or padded with plain blanks
abbrev pub resize : LineContent → ℕ → ℕ → LineContent
resize line width number = changed line number (resized width line.columns)

-- `width` blanks with these attributes, and no bits
abbrev pub resize_and_clear : LineContent → ℕ → ℕ → Attributes → LineContent
resize_and_clear line width number attributes =
    record (changed line number (replicate width (blank attributes))) { bits = SingleWidthLine }

-- a line whose texts are all spaces stays as it is, alone; any other loses the cells after the last text that isn't one
-- space, and the rest go into rows, each a line of cells with this number and no bits: a cell begins a new row where
-- the row would pass the width, unless it is the row's first, and the last cell of each row but the last one is wrapped
abbrev pub wrap : LineContent → ℕ → ℕ → List LineContent
wrap line width number =
    if is_whitespace_row line.columns then line ∷ []
    else map (line_of number) (rows_of width (texts_kept (visible line.columns)))

-- ---- number and bits

-- whether the line's number is 0 or later than this one
abbrev pub changed_since : LineContent → ℕ → Bool
changed_since line number = line.number == 0 || nat_lt number line.number

-- only the number changes
abbrev pub update_last_change_seqno : LineContent → ℕ → LineContent
update_last_change_seqno line number = record line { number = max line.number number }

-- no bits
abbrev pub set_single_width : LineContent → ℕ → LineContent
set_single_width line number = with_bits line number SingleWidthLine

-- double width
abbrev pub set_double_width : LineContent → ℕ → LineContent
set_double_width line number = with_bits line number DoubleWidthLine

-- double width, and the top half of double height
abbrev pub set_double_height_top : LineContent → ℕ → LineContent
set_double_height_top line number = with_bits line number DoubleHeightTopHalfLine

-- double width, and the bottom half of double height
abbrev pub set_double_height_bottom : LineContent → ℕ → LineContent
set_double_height_bottom line number = with_bits line number DoubleHeightBottomHalfLine

-- whether there are no bits
abbrev pub is_single_width : LineContent → Bool
is_single_width line = same_bits line.bits SingleWidthLine

-- whether the bits are exactly double width
abbrev pub is_double_width : LineContent → Bool
is_double_width line = same_bits line.bits DoubleWidthLine

-- whether the bits are exactly double width and the top half of double height
abbrev pub is_double_height_top : LineContent → Bool
is_double_height_top line = same_bits line.bits DoubleHeightTopHalfLine

-- whether the bits are exactly double width and the bottom half of double height
abbrev pub is_double_height_bottom : LineContent → Bool
is_double_height_bottom line = same_bits line.bits DoubleHeightBottomHalfLine

-- ---- zones, links, cutting and joining, words

-- the visible cells up to the last that isn't a plain blank, or all if there is none, in groups of neighbours of one
-- semantic type, each as long as possible; a zone is from its first cell's column to its last one's, where columns past
-- 65,535 count as 65,535
abbrev pub semantic_zone_ranges : LineContent → List ZoneRange
semantic_zone_ranges line = zones (visible line.columns)

-- the links that were found in a text are dropped; where there is none nothing changes, not even the number
abbrev pub invalidate_implicit_hyperlinks : LineContent → ℕ → LineContent
invalidate_implicit_hyperlinks line number =
    if has_implicit_link line.columns then changed line number (map (column_with without_implicit) line.columns)
    else line

-- the columns before the position, or before the end if that comes first; the number stays
abbrev pub split_off_kept : LineContent → ℕ → LineContent
split_off_kept line at = record line { columns = cut (min at (length line.columns)) line.columns }

-- the line that `split_off` returns: the columns from there on, as a line of cells with this number and the same bits
abbrev pub split_off : LineContent → ℕ → ℕ → LineContent
split_off line at number =
    record line { number = number; columns = cut_prefix (min at (length line.columns)) line.columns; clustered = false }

-- the other line's columns after this one's
abbrev pub append_line : LineContent → LineContent → ℕ → LineContent
append_line line other number = changed line number (line.columns ++ other.columns)

-- an empty range at the column, where that is at the end or past it. Otherwise, with the visible cells whose texts pass
-- the test as word cells: from the first column of the run of word cells that ends with the last cell at or before the
-- column, to one past the first column of the last cell in the run of word cells that begins with the first cell at or
-- after it; each is the column itself where there is no such run. With a wrap where the range isn't empty, reaches the
-- end, and the line goes on after its last visible cell
abbrev pub compute_double_click_range : LineContent → ℕ → (List ℕ → Bool) → DoubleClickRange
compute_double_click_range line at is_word = double_click_range is_word at line.columns

-- ---- parts

-- the texts of the visible cells that begin in a range of columns, joined
abbrev pub columns_as_str : LineContent → ℕ → ℕ → List ℕ
columns_as_str line start end = texts_joined (cells_between start end line.columns)

-- the visible cells that begin in a range of columns, whole, side by side, as a line of cells; the line's number, no
-- bits
abbrev pub columns_as_line : LineContent → ℕ → ℕ → LineContent
columns_as_line line start end = line_of line.number (row_of_visible (cells_between start end line.columns))

-- ---- setting

-- pads the line with plain blanks to the end of the cell, and sets the cell's columns from this position on
abbrev pub set_cell : LineContent → ℕ → CellContent → ℕ → LineContent
set_cell line at cell number = changed line number (with_cell line.columns at cell)

-- as `set_cell`
abbrev pub set_cell_clearing_image_placements : LineContent → ℕ → CellContent → ℕ → LineContent
set_cell_clearing_image_placements line at cell number = set_cell line at cell number

-- as `set_cell`, for the cell of a text, a width and attributes
abbrev pub set_cell_grapheme : LineContent → ℕ → List ℕ → ℕ → Attributes → ℕ → LineContent
set_cell_grapheme line at text width attributes number = set_cell line at (cell_of text width attributes) number

-- sets a cell with these attributes for each cluster of a text, side by side from this position on, as `set_cell` does
abbrev pub overlay_text_with_attribute : LineContent → ℕ → List ℕ → Attributes → ℕ → (List ℕ → ℕ) → LineContent
overlay_text_with_attribute line at text attributes number width_of =
    changed line number (overlaid line.columns at (text_cells width_of text attributes))

-- blanks with these attributes in place of the columns of a range; the number stays
abbrev pub set_blanks : LineContent → ℕ → ℕ → Attributes → LineContent
set_blanks line start end attributes =
    record line { columns = set_columns line.columns start (replicate (end - start) (blank attributes)) }

-- a cell with these attributes for each cluster of a text, side by side from the start of a range on as far as they fit
-- in it; the number stays
abbrev pub set_text : LineContent → ℕ → ℕ → List ℕ → Attributes → (List ℕ → ℕ) → LineContent
set_text line start end text attributes width_of =
    record line { columns = text_on width_of end attributes line.columns start text }

-- the column after the cells that `set_text` sets
abbrev pub set_text_end : ℕ → ℕ → List ℕ → Attributes → (List ℕ → ℕ) → ℕ
set_text_end start end text attributes width_of = position_after width_of end attributes start text

-- how many of the text's clusters `set_text` sets
abbrev pub set_clusters : ℕ → ℕ → List ℕ → Attributes → (List ℕ → ℕ) → ℕ
set_clusters start end text attributes width_of = length (fitting_cells width_of (end - start) text attributes)

-- a cell of one column with these attributes for each byte, side by side from a position on; the number stays
abbrev pub set_plain : LineContent → ℕ → List ℕ → Attributes → LineContent
set_plain line at text attributes = record line { columns = overlaid line.columns at (plain_cells text attributes) }

-- ---- inserting and removing

-- the last column within the margin is removed, if the line has it; then, padded with plain blanks to the position, the
-- cell's columns are inserted there
abbrev pub insert_cell : LineContent → ℕ → CellContent → ℕ → ℕ → LineContent
insert_cell line at cell margin number = changed line number (with_inserted line.columns at cell margin)

-- the column is removed; past the end nothing changes, not even the number
abbrev pub remove_cell : LineContent → ℕ → ℕ → LineContent
remove_cell line at number =
    if nat_lt at (length line.columns) then changed line number (removed at line.columns) else line

-- as `remove_cell`, and a plain blank is added at the end
abbrev pub erase_cell : LineContent → ℕ → ℕ → LineContent
erase_cell line at number =
    if nat_lt at (length line.columns) then changed line number (erased at line.columns) else line

-- the column is removed, if it is there; then a blank with these attributes is inserted as the last column within the
-- margin, if no column before it is missing
abbrev pub erase_cell_with_margin : LineContent → ℕ → ℕ → ℕ → Attributes → LineContent
erase_cell_with_margin line at margin number attributes =
    changed line number (erased_within line.columns at margin attributes)

-- ---- pruning and filling

-- the plain blanks at the end are dropped; where no column would be left, or none is there, nothing changes, not even
-- the number
abbrev pub prune_trailing_blanks : LineContent → ℕ → LineContent
prune_trailing_blanks line number = changed_unless_empty line number (pruned_row line.columns)

-- the cell is set at each column of a range in turn, and the line is then pruned; nothing changes for a plain blank on
-- a line of no columns
abbrev pub fill_range : LineContent → ℕ → ℕ → CellContent → ℕ → LineContent
fill_range line start end cell number =
    if length line.columns == 0 && same_cell cell (blank_cell plain) then line
    else prune_trailing_blanks (changed line number (filled line.columns start (end - start) cell)) number

-- ---- questions

-- how many columns there are
abbrev pub len : LineContent → ℕ
len line = length line.columns

-- the number
abbrev pub current_seqno : LineContent → ℕ
current_seqno line = line.number

-- the texts of the visible cells, joined
abbrev pub as_str : LineContent → List ℕ
as_str line = texts_joined (visible line.columns)

-- whether a visible cell has a link
abbrev pub has_hyperlink : LineContent → Bool
has_hyperlink line = has_link line.columns

-- each visible cell with its first column, in order
abbrev pub visible_cells : LineContent → List VisibleCell
visible_cells line = visible line.columns

-- the visible cells of a range of columns: a cell that an edge cuts is a blank with its attributes for each column
-- within
abbrev pub visible_cells_between : LineContent → ℕ → ℕ → List VisibleCell
visible_cells_between line start end = region start end line.columns

-- the clusters of the visible cells, each as long as possible, in order
abbrev pub cluster : LineContent → List ClusterContent
cluster line = cell_clusters (visible line.columns)

-- the changes that write the line with these attributes in force at first, on blanks: each run of visible cells of
-- equal attributes has its attributes, unless they are in force, and then its texts; blanks at the end, plain except
-- for one background, are replaced by their attributes, where other cells precede them, and a clear to the end of the
-- line, unless the background is the default
abbrev pub changes : LineContent → Attributes → List ChangeValue
changes line start = row_written start (contents (visible line.columns))

-- the visible cell that begins at the column, if one does
abbrev pub get_cell : LineContent → ℕ → Option VisibleCell
get_cell line at = cell_at at line.columns

-- whether the text of each visible cell is one space
abbrev pub is_whitespace : LineContent → Bool
is_whitespace line = is_whitespace_row line.columns

-- the line, clustered
abbrev pub compress_for_scrollback : LineContent → LineContent
compress_for_scrollback line = record line { clustered = true }

-- whether the line goes on after its last visible cell; false where there is none
abbrev pub last_cell_was_wrapped : LineContent → Bool
last_cell_was_wrapped line = ends_wrapped (visible line.columns)

-- sets whether the line goes on after its last visible cell; no cell changes where there is none
abbrev pub set_last_cell_was_wrapped : LineContent → Bool → ℕ → LineContent
set_last_cell_was_wrapped line wrapped number = changed line number (row_end_wrapped wrapped line.columns)

-- ---- borrowed cells

-- the cells that the borrow leaves, one for each column, are read from the left again, and the line is one of cells;
-- number and bits stay. `cells_mut_for_attr_changes_only` gives the same
abbrev pub cells_mut : LineContent → List CellContent → LineContent
cells_mut line cells = record line { columns = row_of_cells cells; clustered = false }
