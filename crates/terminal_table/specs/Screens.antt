-- Saved cursors of the profile xterm; its two screens, the normal one and the alternate one, of which one is shown; the
-- soft reset; and titles that are pushed.
use Rattle.std.specs.Prelude.{ℕ, ◌-◌, ◌==◌, ◌&&◌, Bool, true, false, not, nat_lt, min, List, [], ◌∷◌, take, Option}
use Rattle.std.specs.Prelude.{Some, None, option_map, if◌then◌else◌}
use Rattle.cell_base.specs.declared.attributes.CursorVisibility.TheVariants.{Visible}
use Rattle.cell_base.specs.Attributes.{plain}
use Rattle.cell_base.specs.Screen.{Screen, height}
use Rattle.screen_change.specs.ChangeValue.{ChangeValue, AllAttributes, CursorVisibility}
use Rattle.screen_change.specs.ChangeValue as change
use Rattle.terminal_table.specs.Changes.{changes}
use Rattle.terminal_table.specs.Functions as table
use Rattle.terminal_table.specs.Charsets.{initial_charsets}
use Rattle.terminal_table.specs.Led.{led}
use Rattle.terminal_table.specs.Modes.{Modes, Region, SavedCursor, initial_modes, other_rows, region_on, unsaved_modes}
use Rattle.terminal_table.specs.State.{State}
use Rattle.terminal_table.specs.Steps.{active_column, cursor_to_restore, display_erased}

-- what saves and restores cursors, changes the screen that is shown, and what else changes both it and the modes
pub data ScreenFunction : Type 0 where
  SaveCursor : ScreenFunction  -- DECSC, SCOSC, DECSET 1048
  RestoreCursor : ScreenFunction  -- DECRC, SCORC, DECRST 1048; DECRST 1049 on the normal screen
  ShowOther : ScreenFunction  -- DECSET 47 and 1047, DECRST 47
  ClearAndShowOther : ScreenFunction  -- DECRST 1047
  SaveAndClear : ScreenFunction  -- DECSET 1049 on the alternate screen
  SaveAndShowCleared : ScreenFunction  -- DECSET 1049 on the normal screen
  ShowAndRestore : ScreenFunction  -- DECRST 1049 on the alternate screen
  SoftReset : ScreenFunction  -- DECSTR
  PushTitle : ScreenFunction  -- CSI 22 t
  PopTitle : ScreenFunction  -- CSI 23 t

-- the screen shown, the cursor that was saved on it, and the modes
pub record Screens : Type 0 where
  pub screen : Screen
  pub saved : Option SavedCursor
  pub modes : Modes

-- a wrap is pending
abbrev pub is_pending : Screen → Bool
is_pending screen = screen.column == screen.width

-- the cursor is saved, with its pen, whether a wrap is pending, whether lines count from the region's top, and the
-- character sets
abbrev pub cursor_saved : Screens → Screens
cursor_saved at = record at {
  saved = Some (record { column = active_column at.screen; row = at.screen.row; pen = at.screen.pen });
  modes = record at.modes {
    with_cursor =
        record { pending = is_pending at.screen; origin = at.modes.origin; charsets = at.modes.charsets };
  };
}

-- the row that is restored: one of the region where lines count from its top, else one of the screen
abbrev pub restored_row : Bool → Region → ℕ → ℕ → ℕ
restored_row true region tall row = if nat_lt row region.top then region.top else min row region.bottom
restored_row false region tall row = min row (tall - 1)

-- the column that is restored: past the last one where a wrap was pending there
abbrev pub restored_column : Bool → ℕ → ℕ → ℕ
restored_column pending width column =
    if pending && min column (width - 1) == width - 1 then width else min column (width - 1)

-- the saved cursor is restored, with what was saved with it; where none was, the cursor is at home, with a plain pen
abbrev pub cursor_restored : Screens → Screens
cursor_restored at =
    let cursor = cursor_to_restore at.saved in
    let modes = at.modes in
    record at {
      screen = record at.screen {
        column = restored_column modes.with_cursor.pending at.screen.width cursor.column;
        row = restored_row modes.with_cursor.origin (region_on modes at.screen) (height at.screen) cursor.row;
        pen = cursor.pen;
      };
      modes = record modes { origin = modes.with_cursor.origin; charsets = modes.with_cursor.charsets };
    }

-- the rows of the two screens change places, with what was saved on each; the cursor and the pen stay
abbrev pub other_shown : Screens → Screens
other_shown at =
    let modes = at.modes in
    record {
      screen = record at.screen { rows = other_rows at.screen modes.other.rows };
      saved = modes.other.cursor;
      modes = record modes {
        alternate = not modes.alternate;
        with_cursor = modes.other.with_cursor;
        other = record { rows = at.screen.rows; cursor = at.saved; with_cursor = modes.with_cursor };
      };
    }

-- ED 2
abbrev pub cleared : Screens → Screens
cleared at = record at { screen = display_erased at.screen }

-- DECSTR: a plain pen, a visible cursor, no cursor that was saved on the screen shown, and modes of which these are as
-- those of a new terminal
abbrev pub soft_reset : Screens → Screens
soft_reset at = record {
  screen = record at.screen { pen = plain; visible = true };
  saved = None;
  modes = record at.modes {
    region = None;
    origin = false;
    insert = false;
    autowrap = true;
    charsets = initial_charsets;
    with_cursor = unsaved_modes;
    flags = record at.modes.flags { application_cursor = false; application_keypad = false };
  };
}

-- titles that were pushed, the last one first: ten at most
abbrev pub title_pushed : Screens → Screens
title_pushed at =
    record at { modes = record at.modes { titles = take 10 (at.screen.title ∷ at.modes.titles) } }

abbrev pub title_popped : List (List ℕ) → Screens → Screens
title_popped [] at = at
title_popped (title ∷ titles) at =
    record at { screen = record at.screen { title = title }; modes = record at.modes { titles = titles } }

abbrev pub title_changes : List (List ℕ) → List ChangeValue
title_changes [] = []
title_changes (title ∷ titles) = change.Title title ∷ []

-- what a function leaves
abbrev pub screens_after : ScreenFunction → Screens → Screens
screens_after SaveCursor at = cursor_saved at
screens_after RestoreCursor at = cursor_restored at
screens_after ShowOther at = other_shown at
screens_after ClearAndShowOther at = other_shown (cleared at)
screens_after SaveAndClear at = cleared (cursor_saved at)
screens_after SaveAndShowCleared at = cleared (other_shown (cursor_saved at))
screens_after ShowAndRestore at = cursor_restored (other_shown at)
screens_after SoftReset at = soft_reset at
screens_after PushTitle at = title_pushed at
screens_after PopTitle at = title_popped at.modes.titles at

-- what is logged for it: nothing, or an erasure of the screen, the pen and the cursor's visibility, or a title; or what
-- leads to the screen that is shown then
abbrev pub screens_changes : ScreenFunction → Screens → List ChangeValue
screens_changes SaveCursor at = []
screens_changes SaveAndClear at = changes table.EraseDisplay at.saved at.screen
screens_changes SaveAndShowCleared at = changes table.EraseDisplay at.saved at.screen
screens_changes SoftReset at = AllAttributes plain ∷ CursorVisibility Visible ∷ []
screens_changes PushTitle at = []
screens_changes PopTitle at = title_changes at.modes.titles
screens_changes function at = led at.screen (screens_after function at).screen

-- ---- of states

-- the modes of a state; those of a new terminal where it is plain
abbrev pub modes_or_initial : Option Modes → Modes
modes_or_initial None = initial_modes
modes_or_initial (Some modes) = modes

abbrev pub screens_of : State → Screens
screens_of state = record { screen = state.screen; saved = state.saved; modes = modes_or_initial state.modes }

-- a state with other screens; a plain terminal stays one
abbrev pub with_screens : Screens → State → State
with_screens at state =
    record state { screen = at.screen; saved = at.saved; modes = option_map (λ _. at.modes) state.modes }
