-- Functions of the profile "xterm" that move rows: scrolls between margins, IL and DL, and the moves of the cursor that
-- scroll at a margin. Rows count from 0; `top` and `bottom` are the first and the last row of the scrolled region. Rows
-- that come are blanks of the pen's background, and rows that pass an edge of the region are lost.
use Rattle.std.specs.Prelude.{ℕ, ◌+◌, ◌-◌, ◌==◌, Bool, ◌&&◌, nat_le, min, if◌then◌else◌}
use Rattle.cell_base.specs.Screen.{Screen, height}
use Rattle.screen_effects.specs.Regions.{in_region, moved_up, moved_down}
use Rattle.xterm_table.specs.RowEdits.{active_column, blanks}

-- ---- blocks of rows

-- `size` rows from row `first` on move up, and down, by `count`
abbrev pub rows_up : ℕ → ℕ → ℕ → Screen → Screen
rows_up first size count screen =
    record screen { rows = in_region (moved_up (blanks screen.width screen) count) first size screen.rows }

abbrev pub rows_down : ℕ → ℕ → ℕ → Screen → Screen
rows_down first size count screen =
    record screen { rows = in_region (moved_down (blanks screen.width screen) count) first size screen.rows }

-- the cursor in a column
abbrev pub in_column : ℕ → Screen → Screen
in_column column screen = record screen { column = column }

-- ---- scrolls between margins; the cursor's place is kept, also where a wrap is pending

-- SU, ECMA-48 8.3.147: the rows from `top` to `bottom` move up
abbrev pub scrolled_up : ℕ → ℕ → ℕ → Screen → Screen
scrolled_up top bottom count screen = rows_up top (bottom + 1 - top) count screen

-- SD, ECMA-48 8.3.113: they move down
abbrev pub scrolled_down : ℕ → ℕ → ℕ → Screen → Screen
scrolled_down top bottom count screen = rows_down top (bottom + 1 - top) count screen

-- ---- lines

-- whether the cursor is between the margins; elsewhere IL and DL change nothing
abbrev pub is_between : ℕ → ℕ → Screen → Bool
is_between top bottom screen = nat_le top screen.row && nat_le screen.row bottom

-- IL, ECMA-48 8.3.67: the rows from the cursor's to the lower margin move down, and the cursor goes to the first column
abbrev pub lines_inserted : ℕ → ℕ → Screen → Screen
lines_inserted bottom count screen = in_column 0 (scrolled_down screen.row bottom count screen)

-- DL, ECMA-48 8.3.32: they move up
abbrev pub lines_deleted : ℕ → ℕ → Screen → Screen
lines_deleted bottom count screen = in_column 0 (scrolled_up screen.row bottom count screen)

-- ---- the cursor to the next row and to the one before; at a margin the region scrolls, and at the screen's edge
-- nothing changes

abbrev pub next_row : ℕ → ℕ → Screen → Screen
next_row top bottom screen =
    if screen.row == bottom then scrolled_up top bottom 1 screen
    else record screen { row = min (screen.row + 1) (height screen - 1) }

abbrev pub row_before : ℕ → ℕ → Screen → Screen
row_before top bottom screen =
    if screen.row == top then scrolled_down top bottom 1 screen else record screen { row = screen.row - 1 }

-- LF, VT, FF and IND; RI; NEL: a pending wrap ends
abbrev pub line_fed : ℕ → ℕ → Screen → Screen
line_fed top bottom screen = next_row top bottom (in_column (active_column screen) screen)

abbrev pub reverse_line_fed : ℕ → ℕ → Screen → Screen
reverse_line_fed top bottom screen = row_before top bottom (in_column (active_column screen) screen)

abbrev pub next_line : ℕ → ℕ → Screen → Screen
next_line top bottom screen = next_row top bottom (in_column 0 screen)
