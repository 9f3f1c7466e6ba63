-- The changes that paint a display on any screen of its size.
use Rattle.std.specs.Prelude.{ℕ, Bool, true, false, not, ◌&&◌, ◌==◌, pos, List, [], ◌∷◌, ◌++◌, fold, Option, Some, None}
use Rattle.std.specs.Prelude.{if◌then◌else◌}
use Rattle.std.specs.List.{list_all}
use Rattle.cell_base.specs.declared.attributes.CursorShape.{CursorShape as Shape}
use Rattle.cell_base.specs.declared.attributes.CursorVisibility.TheVariants.{Hidden, Visible}
use Rattle.cell_base.specs.declared.attributes.Position.TheVariants.{Absolute, Relative}
use Rattle.cell_base.specs.declared.color.ColorAttribute.{ColorAttribute}
use Rattle.cell_base.specs.declared.color.ColorAttribute.TheVariants.{Default}
use Rattle.cell_base.specs.Attributes.{Attributes, plain, blank_of}
use Rattle.cell_base.specs.CellContent.{CellContent}
use Rattle.cell_base.specs.Row.{Row}
use Rattle.screen_change.specs.CellChanges.{attributes_due, cells_written, clear_due}
use Rattle.screen_change.specs.CellRuns.{is_blank_of, background_at_end, less_blanks}
use Rattle.screen_change.specs.ChangeValue.{ChangeValue, Attribute, AllAttributes, ClearScreen, ClearToEndOfLine}
use Rattle.screen_change.specs.ChangeValue.{ClearToEndOfScreen, CursorPosition, CursorShape, CursorVisibility, Title}
use Rattle.cell_edits.specs.VisibleCells.{visible_cells, contents}
use Rattle.screen_effects.specs.Display.{Display}
use Rattle.screen_effects.specs.Pen.{with_attribute}

-- ---- the pen

-- the pen after a change: one may set all attributes or one of them, and a clear leaves it plain with the clear's
-- colour as background
abbrev pub pen_after : Attributes → ChangeValue → Attributes
pen_after pen (Attribute change) = with_attribute pen change
pen_after pen (AllAttributes attributes) = attributes
pen_after pen (ClearScreen color) = blank_of color
pen_after pen (ClearToEndOfLine color) = blank_of color
pen_after pen (ClearToEndOfScreen color) = blank_of color
pen_after pen _ = pen

abbrev pub pen_left : Attributes → List ChangeValue → Attributes
pen_left pen changes = fold pen_after pen changes

-- ---- rows

-- the cells of a row, in order
abbrev pub row_cells : Row → List CellContent
row_cells row = contents (visible_cells row)

-- whether a row has only blanks of a colour: a blank of one colour is a cell whose text is one space, and whose
-- attributes are plain except for that background
abbrev pub is_blank_row : ColorAttribute → Row → Bool
is_blank_row color row = list_all (is_blank_of color) (row_cells row)

-- whether the rows below are cleared with a row's blanks by one clear: there are some, all are blanks of the same
-- colour, and it isn't the default
abbrev pub go_with_blanks : Option ColorAttribute → List Row → Bool
go_with_blanks None below = false
go_with_blanks (Some Default) below = false
go_with_blanks (Some color) [] = false
go_with_blanks (Some color) (row ∷ below) = list_all (is_blank_row color) (row ∷ below)

-- the clear for the blanks at a row's end; blanks of the default colour need none
abbrev pub end_cleared : Option ColorAttribute → Bool → List ChangeValue
end_cleared None below_too = []
end_cleared (Some color) below_too = if below_too then ClearToEndOfScreen color ∷ [] else clear_due color

-- a row's own changes: its cells, except the blanks of one colour at its end, and the clear for these
abbrev pub row_painted : Attributes → List CellContent → Bool → List ChangeValue
row_painted pen cells below_too =
    let background = background_at_end cells in
    cells_written pen (less_blanks background cells) ++ end_cleared background below_too

-- moves the cursor to the start of the next row before some changes; nothing where there is no change
abbrev pub in_next_row : List ChangeValue → List ChangeValue
in_next_row [] = []
in_next_row (change ∷ changes) = CursorPosition (Absolute 0) (Relative (pos 1)) ∷ change ∷ changes

-- the rows, each in turn, on plain blanks; rows that are cleared with a row's blanks are left out
abbrev pub rows_painted : Attributes → List Row → List ChangeValue
rows_painted pen [] = []
rows_painted pen (row ∷ below) =
    let below_too = go_with_blanks (background_at_end (row_cells row)) below in
    let own = row_painted pen (row_cells row) below_too in
    if below_too then own else own ++ in_next_row (rows_painted (pen_left pen own) below)

-- ---- a display

-- whether there is any change
abbrev pub are_some : List ChangeValue → Bool
are_some [] = false
are_some (change ∷ changes) = true

-- the cursor's position; none where nothing was painted and it is home
abbrev pub cursor_placed : Bool → ℕ → ℕ → List ChangeValue
cursor_placed painted column row =
    if not painted && (column == 0 && row == 0) then [] else CursorPosition (Absolute column) (Absolute row) ∷ []

abbrev pub shape_due : Option Shape → List ChangeValue
shape_due None = []
shape_due (Some shape) = CursorShape shape ∷ []

-- the cursor is shown, with its shape, unless it is hidden
abbrev pub cursor_shown : Bool → Option Shape → List ChangeValue
cursor_shown visible shape = if visible then CursorVisibility Visible ∷ shape_due shape else []

-- the title, unless it is empty
abbrev pub title_due : List ℕ → List ChangeValue
title_due [] = []
title_due (byte ∷ title) = Title (byte ∷ title) ∷ []

-- the title; an empty one only with `true`
abbrev pub titles : Bool → List ℕ → List ChangeValue
titles true title = Title title ∷ []
titles false title = title_due title

-- a clear with the cursor hidden, titles, rows, the cursor's position, the pen's attributes, unless it has them, and
-- the cursor
abbrev pub repaint_with : List ChangeValue → Display → List ChangeValue
repaint_with titles display =
    let screen = display.screen in
    let painted = rows_painted plain screen.rows in
    (CursorVisibility Hidden ∷ ClearScreen Default ∷ []) ++ titles ++ painted
    ++ cursor_placed (are_some painted) screen.column screen.row
    ++ attributes_due (pen_left plain painted) screen.pen
    ++ cursor_shown screen.visible display.shape

abbrev pub repaint : Display → List ChangeValue
repaint display = repaint_with (title_due display.screen.title) display
