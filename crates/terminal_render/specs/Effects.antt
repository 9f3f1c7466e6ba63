-- What the laws say of actions that encode a change: they do to the screen what the change does, and no run is held
-- after them.
use Rattle.std.specs.Prelude.{◌≡◌, ℕ, ◌<◌, ◌^◌, All, List, [], ◌∷◌, ◌++◌, map, fold, Some, None}
use Rattle.cell_base.specs.Screen.{IsScreen, height}
use Rattle.cell_base.specs.WholeRow.{IsWhole}
use Rattle.screen_change.specs.ChangeValue.{ChangeValue}
use Rattle.escape_stream.specs.StreamAction.{StreamAction}
use Rattle.escape_stream.specs.StreamText.{stream_text}
use Rattle.escape_stream.specs.StreamWritable.{IsWritable}
use Rattle.screen_effects.specs.Display.{Display}
use Rattle.screen_effects.specs.Effect.{effect}
use Rattle.terminal_table.specs.Alone.{IsIdle}
use Rattle.terminal_table.specs.History.{Act, Piece}
use Rattle.terminal_table.specs.Meaning.{View, event_done, after}
use Rattle.terminal_render.specs.Rendering.{rendering}

-- the view after actions in turn, by the terminal's table
abbrev pub actions_done : (List ℕ → ℕ) → View → List StreamAction → View
actions_done width_of view actions = fold (event_done width_of) view (map Act actions)

-- the view after a change had its effect: only the screen changes
abbrev pub with_change : (List ℕ → ℕ) → View → Display → ChangeValue → View
with_change width_of view display change =
    record view { state = record view.state { screen = (effect width_of display change).screen } }

-- a plain terminal that can take changes: its screen is lawful and its rows are whole, its width and its height are less
-- than 2^32, and no run is held
pub record IsReady (view : View) : Type 0 where
  pub lawful : IsScreen view.state.screen
  pub whole : All IsWhole view.state.screen.rows
  pub width : view.state.screen.width < 2 ^ 32
  pub height : height view.state.screen < 2 ^ 32
  pub run : view.held ≡ []
  pub plain : view.state.modes ≡ None

-- the encoding of a change has on the screen of a ready terminal the effect that the change has on any display of that
-- screen, and no other effect; the saved cursor and the replies stay, and no run is held
abbrev pub RenderingsHaveTheEffect : Type 0
RenderingsHaveTheEffect =
    (width_of : List ℕ → ℕ) (view : View) (display : Display) (change : ChangeValue) (actions : List StreamAction)
    → IsReady view → display.screen ≡ view.state.screen
    → rendering change view.state.screen.width (height view.state.screen) ≡ Some actions
    → actions_done width_of view actions ≡ with_change width_of view display change

-- a view that has read a text, which its stream goes on with
abbrev pub with_text : View → List ℕ → View
with_text view text = record view { stream = view.stream ++ text }

-- the bytes of an encoding that reads back have the change's effect on a ready terminal with nothing unfinished, and
-- nothing is unfinished after them
abbrev pub RenderedTextsHaveTheEffect : Type 0
RenderedTextsHaveTheEffect =
    (width_of : List ℕ → ℕ) (view : View) (display : Display) (change : ChangeValue) (actions : List StreamAction)
    → IsReady view → IsIdle view → IsWritable actions → display.screen ≡ view.state.screen
    → rendering change view.state.screen.width (height view.state.screen) ≡ Some actions
    → after width_of view (Piece (stream_text actions) ∷ [])
    ≡ with_text (with_change width_of view display change) (stream_text actions)

abbrev pub RenderedTextsLeaveIdle : Type 0
RenderedTextsLeaveIdle =
    (width_of : List ℕ → ℕ) (view : View) (change : ChangeValue) (actions : List StreamAction) → IsReady view
    → IsIdle view → IsWritable actions
    → rendering change view.state.screen.width (height view.state.screen) ≡ Some actions
    → IsIdle (after width_of view (Piece (stream_text actions) ∷ []))
