-- What a terminal keeps for an application: the screen, a saved cursor, replies, and the modes of its profile.
use Rattle.std.specs.Prelude.{◌≡◌, ⊤, ℕ, List, [], Option, Some, None, All}
use Rattle.cell_base.specs.Attributes.{plain}
use Rattle.cell_base.specs.Row.{space}
use Rattle.cell_base.specs.Screen.{Screen, IsScreen, new_screen}
use Rattle.cell_base.specs.WholeRow.{IsWhole}
use Rattle.screen_effects.specs.WrittenCells.{IsSoundRow}
use Rattle.terminal_table.specs.Modes.{Modes, SavedCursor, other_screen}
use Rattle.terminal_table.specs.RunText.{IsRunText}
use Rattle.xterm_table.specs.Follows.{Follows}

-- the screen with its cursor, pen and title; the cursor that was saved, if one was; the replies that were not yet
-- taken; and the modes of the profile xterm, none on a plain terminal
pub record State : Type 0 where
  pub screen : Screen
  pub saved : Option SavedCursor
  pub replies : List ℕ
  pub modes : Option Modes

-- a new terminal with some modes or none; and a plain one
abbrev pub new_state_with : Option Modes → ℕ → ℕ → State
new_state_with modes width height =
    record { screen = new_screen width height; saved = None; replies = []; modes = modes }

abbrev pub new_state : ℕ → ℕ → State
new_state width height = new_state_with None width height

-- the cursor of a screen, to be saved; and the one at home with a plain pen
abbrev pub cursor_of : Screen → SavedCursor
cursor_of screen = record { column = screen.column; row = screen.row; pen = screen.pen }

abbrev pub home_cursor : SavedCursor
home_cursor = record { column = 0; row = 0; pen = plain }

-- the screen that is not shown, if the profile has one, is one that the screen can become
abbrev pub CanBeShown : (List ℕ → ℕ) → Screen → Option Modes → Type 0
CanBeShown width_of screen None = ⊤
CanBeShown width_of screen (Some modes) = Follows width_of screen (other_screen screen modes.other.rows)

-- the run before, if the profile keeps it, is such a text
abbrev pub HasLast : Option Modes → Type 0
HasLast None = ⊤
HasLast (Some modes) = IsRunText modes.last

-- the invariant of states: the screen is lawful, its rows are whole, and each of their cells has a sound text; a space
-- takes one column; the other screen is such a one; and the run before is a text
pub record IsState (width_of : List ℕ → ℕ) (state : State) : Type 0 where
  pub lawful : IsScreen state.screen
  pub whole : All IsWhole state.screen.rows
  pub narrow : width_of space ≡ 1
  pub sound : All (IsSoundRow width_of) state.screen.rows
  pub other : CanBeShown width_of state.screen state.modes
  pub last : HasLast state.modes
