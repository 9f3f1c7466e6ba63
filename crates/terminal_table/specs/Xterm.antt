-- The functions that only the profile xterm has, and the screen after each.
use Rattle.std.specs.Prelude.{ℕ}
use Rattle.cell_base.specs.Screen.{Screen}
use Rattle.terminal_table.specs.Modes.{Region}
use Rattle.xterm_table.specs.Displays.{display_end_erased, display_start_erased}
use Rattle.xterm_table.specs.RowEdits.{characters_deleted, characters_erased, characters_inserted, line_end_erased}
use Rattle.xterm_table.specs.RowEdits.{line_start_erased}
use Rattle.xterm_table.specs.RowMoves.{line_fed, lines_deleted, lines_inserted, next_line, reverse_line_fed}
use Rattle.xterm_table.specs.RowMoves.{scrolled_down, scrolled_up}

pub data XtermFunction : Type 0 where
  -- edits of the cursor's row
  EraseCharacters : ℕ → XtermFunction  -- ECH
  InsertCharacters : ℕ → XtermFunction  -- ICH
  DeleteCharacters : ℕ → XtermFunction  -- DCH
  EraseToEndOfLine : XtermFunction  -- EL 0
  EraseToStartOfLine : XtermFunction  -- EL 1
  -- erasures that go on in the rows below, and in those above
  EraseToEndOfDisplay : XtermFunction  -- ED 0
  EraseToStartOfDisplay : XtermFunction  -- ED 1
  -- moves of rows within a region
  LineFeed : Region → XtermFunction  -- LF, VT, FF, IND
  NextLine : Region → XtermFunction  -- NEL
  ReverseIndex : Region → XtermFunction  -- RI
  ScrollUp : Region → ℕ → XtermFunction  -- SU
  ScrollDown : Region → ℕ → XtermFunction  -- SD
  InsertLines : Region → ℕ → XtermFunction  -- IL
  DeleteLines : Region → ℕ → XtermFunction  -- DL

-- the screen after a function
abbrev pub xterm_screen : XtermFunction → Screen → Screen
xterm_screen (EraseCharacters n) screen = characters_erased n screen
xterm_screen (InsertCharacters n) screen = characters_inserted n screen
xterm_screen (DeleteCharacters n) screen = characters_deleted n screen
xterm_screen EraseToEndOfLine screen = line_end_erased screen
xterm_screen EraseToStartOfLine screen = line_start_erased screen
xterm_screen EraseToEndOfDisplay screen = display_end_erased screen
xterm_screen EraseToStartOfDisplay screen = display_start_erased screen
xterm_screen (LineFeed region) screen = line_fed region.top region.bottom screen
xterm_screen (NextLine region) screen = next_line region.top region.bottom screen
xterm_screen (ReverseIndex region) screen = reverse_line_fed region.top region.bottom screen
xterm_screen (ScrollUp region n) screen = scrolled_up region.top region.bottom n screen
xterm_screen (ScrollDown region n) screen = scrolled_down region.top region.bottom n screen
xterm_screen (InsertLines region n) screen = lines_inserted region.bottom n screen
xterm_screen (DeleteLines region n) screen = lines_deleted region.bottom n screen
