-- What the laws say of displays: that one turns into another, and what is replayed for an event.
use Rattle.std.specs.Prelude.{◌≡◌, ℕ, ◌<◌, ⊤, List, [], ◌∷◌, All}
use Rattle.cell_base.specs.declared.attributes.LineAttribute.{LineAttribute}
use Rattle.cell_base.specs.declared.attributes.LineAttribute.TheVariants.{SingleWidthLine}
use Rattle.cell_base.specs.Screen.{Screen}
use Rattle.screen_change.specs.ChangeValue.{ChangeValue}
use Rattle.screen_log.specs.LogSteps as log
use Rattle.screen_log.specs.LogSteps.{LogStep, Logged}
use Rattle.escape_stream.specs.StreamAction.{printed}
use Rattle.escape_stream.specs.StreamActions.{newly_decided_actions}
use Rattle.screen_effects.specs.Display.{Display}
use Rattle.screen_effects.specs.Effect.{replay}
use Rattle.screen_effects.specs.Resize.{resized}
use Rattle.terminal_table.specs.RunText.{IsRunText}
use Rattle.terminal_table.specs.State.{IsState}
use Rattle.terminal_table.specs.History.{History, Piece, Look, Resize, Forget, Event, Act, Looked, Resized, Forgot}
use Rattle.terminal_table.specs.Meaning.{View, event_done}
use Rattle.terminal_table.specs.Logged.{event_logged}

-- all rows have single width
abbrev pub AreSingle : List LineAttribute → Type 0
AreSingle sizes = All (λ size. size ≡ SingleWidthLine) sizes

-- A display turns into another that shows a screen. The cursor's shape stays; if all rows have single width, they keep
-- it.
pub record Turns (before after : Display) (shown : Screen) : Type 0 where
  pub screen : after.screen ≡ shown
  pub shape : after.shape ≡ before.shape
  pub sizes : AreSingle before.sizes → AreSingle after.sizes

-- the invariant of views: the state is lawful, and the held run is UTF-8 without controls
pub record IsView (width_of : List ℕ → ℕ) (view : View) : Type 0 where
  pub lawful : IsState width_of view.state
  pub plain : IsRunText view.held

-- a size has a column and a row
abbrev pub AreSizes : History → Type 0
AreSizes [] = ⊤
AreSizes (Piece bytes ∷ history) = AreSizes history
AreSizes (Look ∷ history) = AreSizes history
AreSizes (Resize width height ∷ history) = (0 < width) × (0 < height) × AreSizes history
AreSizes (Forget number ∷ history) = AreSizes history

-- an event prints UTF-8 without controls, and its size has a column and a row
abbrev pub IsEvent : Event → Type 0
IsEvent (Act action) = IsRunText (printed action)
IsEvent Looked = ⊤
IsEvent (Resized width height) = (0 < width) × (0 < height)
IsEvent (Forgot number) = ⊤

abbrev pub AreEvents : List Event → Type 0
AreEvents [] = ⊤
AreEvents (event ∷ events) = IsEvent event × AreEvents events

-- the changes among what is logged
abbrev pub changes_in : List LogStep → List ChangeValue
changes_in [] = []
changes_in (Logged change ∷ steps) = change ∷ changes_in steps
changes_in (log.Forgotten number ∷ steps) = changes_in steps
changes_in (log.Resized most ∷ steps) = changes_in steps

-- a display after it has replayed the changes that are logged for an event, and taken the size of a `Resized`
abbrev pub replayed : (List ℕ → ℕ) → View → Event → Display → Display
replayed width_of view (Act action) display =
    replay width_of display (changes_in (event_logged width_of view (Act action)))
replayed width_of view Looked display = replay width_of display (changes_in (event_logged width_of view Looked))
replayed width_of view (Resized width height) display =
    resized width height (replay width_of display (changes_in (event_logged width_of view (Resized width height))))
replayed width_of view (Forgot number) display = display

-- a display that has replayed the events in turn
abbrev pub all_replayed : (List ℕ → ℕ) → View → List Event → Display → Display
all_replayed width_of view [] display = display
all_replayed width_of view (event ∷ events) display =
    all_replayed width_of (event_done width_of view event) events (replayed width_of view event display)

-- two streams whose every continuation has the same further actions
abbrev pub DecideAlike : List ℕ → List ℕ → Type 0
DecideAlike one other = (more : List ℕ) → newly_decided_actions one more ≡ newly_decided_actions other more
