-- What the laws of viewers say.
use Rattle.std.specs.Prelude.{◌≡◌, ℕ, ◌≤◌, ⊤, List, [], ◌∷◌, length}
use Rattle.cell_base.specs.Row.{space}
use Rattle.cell_base.specs.Screen.{Screen, height}
use Rattle.cell_base.specs.ScreenSize.{IsScreenSize}
use Rattle.screen_log.specs.Log.{due}
use Rattle.screen_log.specs.LogSteps.{Sized}
use Rattle.screen_effects.specs.Display.{IsDisplay}
use Rattle.screen_effects.specs.Resize.{resized_screen}
use Rattle.screen_effects.specs.WrittenCells.{IsSoundDisplay}
use Rattle.terminal_render.specs.Effects.{IsReady}
use Rattle.terminal_render.specs.Spelling.{HaveEncodings, IsSpelledScreen}
use Rattle.terminal_table.specs.Alone.{IsIdle}
use Rattle.terminal_table.specs.History.{History, Piece, Look, Resize, Forget}
use Rattle.terminal_table.specs.Logged.{log_after}
use Rattle.terminal_table.specs.Meaning.{View, new_view, after}
use Rattle.terminal_table.specs.Turns.{AreSizes, IsView}
use Rattle.terminal_viewers.specs.Shows.{Shows}
use Rattle.terminal_viewers.specs.Update.{display_on, update_of}
use Rattle.terminal_viewers.specs.Updates.{Standing, updated, updates}

-- a screen after the resizes of a history in turn, and nothing else of the history
abbrev pub repeated : History → Screen → Screen
repeated [] screen = screen
repeated (Piece bytes ∷ history) screen = repeated history screen
repeated (Look ∷ history) screen = repeated history screen
repeated (Resize width height ∷ history) screen = repeated history (resized_screen width height screen)
repeated (Forget number ∷ history) screen = repeated history screen

-- ---- what is shown at a number

-- a viewer that shows a terminal at a number, and repeats the resizes of a history, shows at that number the terminal
-- after the history
abbrev pub ViewersGoOnShowing : Type 0
ViewersGoOnShowing =
    (width_of : List ℕ → ℕ) (shown : Screen) (number : ℕ) (view : View) (log : Sized) (history : History)
    → IsView width_of view → AreSizes history → IsDisplay (display_on shown)
    → length log.log.entries ≤ log.log.number → number ≤ log.log.number
    → Shows width_of shown number view.state.screen log
    → Shows width_of (repeated history shown) number (after width_of view history).state.screen
    (log_after width_of view log history)

-- a screen shows itself at the log's number
abbrev pub ScreensShowThemselves : Type 0
ScreensShowThemselves =
    (width_of : List ℕ → ℕ) (screen : Screen) (log : Sized) → length log.log.entries ≤ log.log.number
    → Shows width_of screen log.log.number screen log

-- ---- updates that are read

-- A viewer can read an update: it is ready for changes, has nothing unfinished, and shows at a number a screen whose
-- cells are sound; and the cells, and the changes that the screen's log keeps, have an encoding.
pub record CanRead (width_of : List ℕ → ℕ) (viewer : View) (screen : Screen) (log : Sized) (number : ℕ) : Type 0 where
  pub narrow : width_of space ≡ 1
  pub ready : IsReady viewer
  pub idle : IsIdle viewer
  pub display : IsDisplay (display_on screen)
  pub sound : IsSoundDisplay width_of (display_on screen)
  pub spelled : IsSpelledScreen screen
  pub encodings : HaveEncodings screen.width (height screen) log.log.entries
  pub shows : Shows width_of viewer.state.screen number screen log

-- after the update the viewer shows the screen, and nothing else of its state is changed
abbrev pub UpdatesAreShown : Type 0
UpdatesAreShown =
    (width_of : List ℕ → ℕ) (viewer : View) (screen : Screen) (log : Sized) (number : ℕ)
    → CanRead width_of viewer screen log number
    → (after width_of viewer (Piece (update_of screen log number) ∷ [])).state ≡ record viewer.state { screen = screen }

-- after the update the viewer has nothing unfinished and holds no run
abbrev pub UpdatesLeaveIdle : Type 0
UpdatesLeaveIdle =
    (width_of : List ℕ → ℕ) (viewer : View) (screen : Screen) (log : Sized) (number : ℕ)
    → CanRead width_of viewer screen log number
    → IsIdle (after width_of viewer (Piece (update_of screen log number) ∷ []))

-- a new viewer that is fed the updates of an input shows the terminal's screen in the end
abbrev pub UpdatesShowTheInput : Type 0
UpdatesShowTheInput =
    (width_of : List ℕ → ℕ) (width height every : ℕ) (input : List ℕ) → width_of space ≡ 1
    → IsScreenSize width height
    → (after width_of (new_view width height) (Piece (updates width_of width height every input) ∷ [])).state.screen
    ≡ (updated width_of width height every input).state.screen

-- after these updates the new viewer has nothing unfinished and holds no run
abbrev pub UpdatesLeaveNewViewersIdle : Type 0
UpdatesLeaveNewViewersIdle =
    (width_of : List ℕ → ℕ) (width height every : ℕ) (input : List ℕ) → width_of space ≡ 1
    → IsScreenSize width height
    → IsIdle (after width_of (new_view width height) (Piece (updates width_of width height every input) ∷ []))

-- ---- standings that answer alike

-- a history in which bytes are fed and looks taken, and nothing else happens
abbrev pub AreFed : History → Type 0
AreFed [] = ⊤
AreFed (Piece bytes ∷ history) = AreFed history
AreFed (Look ∷ history) = AreFed history
AreFed (Resize width height ∷ history) = ⊥
AreFed (Forget number ∷ history) = ⊥

-- two views are equal except for the replies that were not yet taken
pub record AreAlike (one other : View) : Type 0 where
  pub screen : one.state.screen ≡ other.state.screen
  pub saved : one.state.saved ≡ other.state.saved
  pub modes : one.state.modes ≡ other.state.modes
  pub stream : one.stream ≡ other.stream
  pub held : one.held ≡ other.held

-- two logs are at the same number, and from a number on the same changes are due; each change that one of them keeps
-- has a number
pub record SameIsDue (number : ℕ) (one other : Sized) : Type 0 where
  pub most : one.most ≡ other.most
  pub count : one.log.number ≡ other.log.number
  pub one_counted : length one.log.entries ≤ one.log.number
  pub other_counted : length other.log.entries ≤ other.log.number
  pub same : (n : ℕ) → number ≤ n → due one.most one.log n ≡ due other.most other.log n

-- From a number on one terminal answers viewers as another does: so a terminal that drops its replies and forgets the
-- changes before that number answers as one that keeps all of them.
pub record AnswersAs (number : ℕ) (kept whole : Standing) : Type 0 where
  pub views : AreAlike kept.view whole.view
  pub logs : SameIsDue number kept.log whole.log
