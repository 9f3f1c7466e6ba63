-- The encodings of lists of changes.
use Rattle.std.specs.Prelude.{◌≡◌, ℕ, List, [], ◌∷◌, ◌++◌, Option, Some, option_map, option_and_then}
use Rattle.cell_base.specs.Screen.{height}
use Rattle.screen_change.specs.ChangeValue.{ChangeValue}
use Rattle.escape_stream.specs.StreamAction.{StreamAction}
use Rattle.escape_stream.specs.StreamText.{stream_text}
use Rattle.escape_stream.specs.StreamWritable.{IsWritable}
use Rattle.screen_effects.specs.Display.{Display, IsDisplay}
use Rattle.screen_effects.specs.Effect.{replay}
use Rattle.terminal_table.specs.Alone.{IsIdle}
use Rattle.terminal_table.specs.History.{Piece}
use Rattle.terminal_table.specs.Meaning.{View, after}
use Rattle.terminal_render.specs.Effects.{actions_done, with_text, IsReady}
use Rattle.terminal_render.specs.Rendering.{rendering}

-- the actions of the first change and then those of the rest; `None` where a change has no encoding
abbrev pub all_rendered : List ChangeValue → ℕ → ℕ → Option (List StreamAction)
all_rendered [] width height = Some []
all_rendered (change ∷ changes) width height =
    option_and_then (λ first. option_map (λ remaining. first ++ remaining) (all_rendered changes width height))
    (rendering change width height)

-- the view after changes were replayed
abbrev pub with_changes : (List ℕ → ℕ) → View → Display → List ChangeValue → View
with_changes width_of view display changes =
    record view { state = record view.state { screen = (replay width_of display changes).screen } }

-- the encodings of changes in turn have the effect of the changes, replayed
abbrev pub ListsHaveTheEffect : Type 0
ListsHaveTheEffect =
    (width_of : List ℕ → ℕ) (view : View) (display : Display) (changes : List ChangeValue) (actions : List StreamAction)
    → IsReady view → IsDisplay display → display.screen ≡ view.state.screen
    → all_rendered changes view.state.screen.width (height view.state.screen) ≡ Some actions
    → actions_done width_of view actions ≡ with_changes width_of view display changes

-- the bytes of encodings that read back have the effects of the changes in turn
abbrev pub ListTextsHaveTheEffect : Type 0
ListTextsHaveTheEffect =
    (width_of : List ℕ → ℕ) (view : View) (display : Display) (changes : List ChangeValue) (actions : List StreamAction)
    → IsReady view → IsIdle view → IsWritable actions → IsDisplay display → display.screen ≡ view.state.screen
    → all_rendered changes view.state.screen.width (height view.state.screen) ≡ Some actions
    → after width_of view (Piece (stream_text actions) ∷ [])
    ≡ with_text (with_changes width_of view display changes) (stream_text actions)

abbrev pub ListTextsLeaveIdle : Type 0
ListTextsLeaveIdle =
    (width_of : List ℕ → ℕ) (view : View) (display : Display) (changes : List ChangeValue) (actions : List StreamAction)
    → IsReady view → IsIdle view → IsWritable actions → IsDisplay display → display.screen ≡ view.state.screen
    → all_rendered changes view.state.screen.width (height view.state.screen) ≡ Some actions
    → IsIdle (after width_of view (Piece (stream_text actions) ∷ []))

-- two lists of actions that read back from their bytes also read back joined
abbrev pub WritableListsJoin : Type 0
WritableListsJoin = (xs ys : List StreamAction) → IsWritable xs → IsWritable ys → IsWritable (xs ++ ys)

-- the encoding of one more change follows that of the changes before it
abbrev pub RenderingsJoin : Type 0
RenderingsJoin =
    (changes : List ChangeValue) (change : ChangeValue) (width height : ℕ) (first last : List StreamAction)
    → all_rendered changes width height ≡ Some first → rendering change width height ≡ Some last
    → all_rendered (changes ++ change ∷ []) width height ≡ Some (first ++ last)
