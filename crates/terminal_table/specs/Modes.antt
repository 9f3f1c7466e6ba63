-- What the profile xterm keeps beside the screen that is shown.
use Rattle.std.specs.Prelude.{◌≡◌, ⊤, ℕ, ◌-◌, min, Bool, true, false, List, [], ◌∷◌, map, replicate, take, Option, Some}
use Rattle.std.specs.Prelude.{None}
use Rattle.cell_base.specs.Attributes.{Attributes}
use Rattle.cell_base.specs.Row.{Row, plain_row}
use Rattle.cell_base.specs.Screen.{Screen, height}
use Rattle.screen_effects.specs.Resize.{fitted, resized_row}
use Rattle.terminal_table.specs.Charsets.{Charsets, initial_charsets}
use Rattle.terminal_table.specs.Flags.{initial_flags}
use Rattle.terminal_table.specs.declared.flags.Flags.{Flags}

-- a cursor that was saved: its column, its row, and the pen; a plain terminal saves the width as the column where a
-- wrap was pending
pub record SavedCursor : Type 0 where
  pub column : ℕ
  pub row : ℕ
  pub pen : Attributes

-- what xterm saves with a cursor: whether a wrap was pending, whether lines counted from the region's top, and the
-- character sets
pub record SavedModes : Type 0 where
  pub pending : Bool
  pub origin : Bool
  pub charsets : Charsets

-- where nothing was saved
abbrev pub unsaved_modes : SavedModes
unsaved_modes = record { pending = false; origin = false; charsets = initial_charsets }

-- the first and the last row of a region that scrolls, counted from 0
pub record Region : Type 0 where
  pub top : ℕ
  pub bottom : ℕ

-- the screen that is not shown: its rows, none as long as they are plain blanks; and the cursor that was saved on it
pub record OtherScreen : Type 0 where
  pub rows : List Row
  pub cursor : Option SavedCursor
  pub with_cursor : SavedModes

-- The region that DECSTBM has set, none where all rows scroll; whether lines count from its top (DECOM); whether a
-- character is inserted (IRM), whether one past the last column goes to the next row (DECAWM), and whether LF goes to
-- the first column (LNM); the tab stops; the character sets; the run before, as it was put, which every action empties;
-- whether the alternate screen is shown; what was saved with the cursor that was saved on the screen shown; the other
-- screen; titles that were pushed, the last one first; and what the terminal keeps for the program around it.
pub record Modes : Type 0 where
  pub region : Option Region
  pub origin : Bool
  pub insert : Bool
  pub autowrap : Bool
  pub newline : Bool
  pub stops : List Bool
  pub charsets : Charsets
  pub last : List ℕ
  pub alternate : Bool
  pub with_cursor : SavedModes
  pub other : OtherScreen
  pub titles : List (List ℕ)
  pub flags : Flags

-- those of a new terminal
abbrev pub initial_modes : Modes
initial_modes = record {
  region = None;
  origin = false;
  insert = false;
  autowrap = true;
  newline = false;
  stops = [];
  charsets = initial_charsets;
  last = [];
  alternate = false;
  with_cursor = unsaved_modes;
  other = record { rows = []; cursor = None; with_cursor = unsaved_modes };
  titles = [];
  flags = initial_flags;
}

-- those behind RIS: the titles stay
abbrev pub reset_modes : Modes → Modes
reset_modes modes = record initial_modes { titles = modes.titles }

-- modes of a new terminal of either profile
abbrev pub AreNew : Option Modes → Type 0
AreNew None = ⊤
AreNew (Some modes) = modes ≡ initial_modes

-- with another run before
abbrev pub with_last : List ℕ → Modes → Modes
with_last text modes = record modes { last = text }

-- ---- the region that scrolls

-- on a screen with this many rows, as far as the screen has such rows
abbrev pub region_within : ℕ → Option Region → Region
region_within tall None = record { top = 0; bottom = tall - 1 }
region_within tall (Some region) =
    record { top = min region.top (min region.bottom (tall - 1)); bottom = min region.bottom (tall - 1) }

abbrev pub region_on : Modes → Screen → Region
region_on modes screen = region_within (height screen) modes.region

-- ---- the other screen

-- the rows of the screen that is not shown
abbrev pub other_rows : Screen → List Row → List Row
other_rows screen [] = replicate (height screen) (plain_row screen.width)
other_rows screen (row ∷ rows) = row ∷ rows

-- that screen, with the cursor at home
abbrev pub other_screen : Screen → List Row → Screen
other_screen screen rows = record screen { rows = other_rows screen rows; column = 0; row = 0 }

-- ---- another size

-- rows of another size: as those of a screen that gets it
abbrev pub resized_rows : ℕ → ℕ → List Row → List Row
resized_rows width tall [] = []
resized_rows width tall (row ∷ rows) = fitted (plain_row width) tall (map (resized_row width) (row ∷ rows))

-- the modes of a screen that has got another size: all its rows scroll, and new columns have the tab stops of a new one
abbrev pub resized_modes : ℕ → ℕ → Modes → Modes
resized_modes width tall modes =
    record modes {
      region = None;
      stops = take width modes.stops;
      other = record modes.other { rows = resized_rows width tall modes.other.rows };
    }
