-- Functions of the profile "xterm" that edit the cursor's row: EL, ECH, ICH and DCH. Columns count from 0. The pen and
-- all other rows stay, and no wrap is pending after an edit. A half of a wide text that is left alone becomes a blank
-- with its attributes.
use Rattle.std.specs.Prelude.{ℕ, ◌+◌, ◌-◌, min, ◌++◌, slice_set}
use Rattle.cell_base.specs.Row.{Row, set_columns}
use Rattle.cell_base.specs.Screen.{Screen}
use Rattle.cell_edits.specs.RowEdits.{cut, cut_prefix, inserted}
use Rattle.screen_effects.specs.Effect.{blank_row, cursor_row}

-- the cursor's column; where a wrap is pending, the last one
abbrev pub active_column : Screen → ℕ
active_column screen = min screen.column (screen.width - 1)

-- blanks of the pen's background
abbrev pub blanks : ℕ → Screen → Row
blanks count screen = blank_row count screen.pen.background

-- the cursor's row becomes another one, and a pending wrap ends
abbrev pub with_row : Row → Screen → Screen
with_row row screen =
    record screen { rows = slice_set screen.rows screen.row row; column = active_column screen }

-- ---- erasures: columns become blanks of the pen's background

-- of the cursor's row the columns from `start` on and before `finish`
abbrev pub columns_erased : ℕ → ℕ → Screen → Screen
columns_erased start finish screen =
    with_row (set_columns (cursor_row screen) start (blanks (finish - start) screen)) screen

-- ECH, ECMA-48 8.3.38: `count` columns from the cursor on, as far as there are any
abbrev pub characters_erased : ℕ → Screen → Screen
characters_erased count screen =
    let column = active_column screen in columns_erased column (min (column + count) screen.width) screen

-- EL 0, ECMA-48 8.3.41: the columns from the cursor on
abbrev pub line_end_erased : Screen → Screen
line_end_erased screen = columns_erased (active_column screen) screen.width screen

-- EL 1: the columns up to the cursor's, which is one of them
abbrev pub line_start_erased : Screen → Screen
line_start_erased screen = columns_erased 0 (active_column screen + 1) screen

-- ---- columns that move

-- how many of `count` columns there are from the cursor on
abbrev pub columns_within : ℕ → Screen → ℕ
columns_within count screen = min count (screen.width - active_column screen)

-- ICH, ECMA-48 8.3.64: blanks come at the cursor; what passes the last column is lost
abbrev pub characters_inserted : ℕ → Screen → Screen
characters_inserted count screen =
    with_row
    (cut screen.width
    (inserted (active_column screen) (blanks (columns_within count screen) screen) (cursor_row screen))) screen

-- DCH, ECMA-48 8.3.26: columns from the cursor on go, and blanks come at the end
abbrev pub characters_deleted : ℕ → Screen → Screen
characters_deleted count screen =
    let column = active_column screen in
    let deleted = columns_within count screen in
    with_row
    (cut column (cursor_row screen) ++ cut_prefix (column + deleted) (cursor_row screen) ++ blanks deleted screen)
    screen
