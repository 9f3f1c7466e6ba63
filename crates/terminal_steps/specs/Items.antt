-- A parser's items as events, and what they do to the state that a terminal keeps.
use Rattle.std.specs.Prelude.{◌≡◌, ◌<◌, ◌^◌, ℕ, Bool, false, List, [], ◌∷◌, ◌++◌, Option, map, fold}
use Rattle.cell_surface.specs.declared.error.SurfaceError.{SurfaceError}
use Rattle.cell_surface.specs.declared.error.SurfaceError.TheVariants as refusal
use Rattle.screen_log.specs.LogSteps.{Sized, step_of_kept}
use Rattle.escape_stream.specs.Items.{Item, Text, Single, items_of}
use Rattle.escape_stream.specs.Pieces.{Piece, pieces}
use Rattle.escape_stream.specs.PiecesView.{TakesMemoryBefore}
use Rattle.escape_stream.specs.StreamAction.{is_print, print_string}
use Rattle.terminal_table.specs.History.{Event, Act}
use Rattle.terminal_table.specs.Logged.{events_logged}
use Rattle.terminal_table.specs.Meaning.{View, event_done}
use Rattle.terminal_table.specs.Modes.{Modes}
use Rattle.terminal_table.specs.Requests.{AsksForNothing}
use Rattle.terminal_table.specs.Turns.{AreEvents}
use Rattle.terminal_steps.specs.Events.{IsReady, Had, Does, NeedsNumber}
use Rattle.terminal_steps.specs.Memory.{NeedsMemory, TakesMemory}
use Rattle.terminal_steps.specs.declared.state.TerminalState.{TerminalState}

-- the event of an item: a text is printed, an action is done
abbrev pub item_event : Item → Event
item_event (Text text) = Act (print_string text)
item_event (Single action) = Act action

abbrev pub item_events : List Item → List Event
item_events items = map item_event items

-- an item had its meaning
abbrev pub DoesItem : {W : Type 0} → (W → List ℕ → ℕ) → TerminalState W → Item → TerminalState W → Type 0
DoesItem width_of before item after = Does width_of before after (item_event item ∷ [])

-- why an item is refused
abbrev pub RefusesItem : {W : Type 0} → (W → List ℕ → ℕ) → TerminalState W → Item → SurfaceError → TerminalState W
    → Type 0
RefusesItem width_of before item refusal.Failed after = IsReady width_of before → ⊥
RefusesItem width_of before item refusal.Number after = NeedsNumber width_of before (item_event item ∷ [])
RefusesItem width_of before item refusal.Memory after = NeedsMemory width_of before (item_event item) after

-- some items had their meaning
abbrev pub Leads : {W : Type 0} → (W → List ℕ → ℕ) → TerminalState W → TerminalState W → List Item → Type 0
Leads width_of before after items =
    IsReady width_of before → AreEvents (item_events items) → Had width_of before after (item_events items)

-- the log after items
abbrev pub log_after_items : (List ℕ → ℕ) → View → Sized → List Item → Sized
log_after_items width_of view log items = fold step_of_kept log (events_logged width_of view (item_events items))

-- One of some items is refused memory after the items before it were done, which had numbers for their changes.
pub record SomeNeedsMemory
    (width_of : List ℕ → ℕ) (view : View) (log : Sized) (items : List Item) (failed : Bool) : Type 0 where
  pub done : List Item
  pub item : Item
  pub left : List Item
  pub whole : items ≡ done ++ (item ∷ left)
  pub fits : (log_after_items width_of view log done).log.number < 2 ^ 64
  pub takes : TakesMemory width_of (fold (event_done width_of) view (item_events done))
      (log_after_items width_of view log done) (item_event item) failed

-- The parser is refused memory for bytes that follow a stream after some of their pieces were done, which had numbers
-- for their changes.
pub record ParserNeedsMemory (width_of : List ℕ → ℕ) (view : View) (log : Sized) (stream bytes : List ℕ) : Type 0 where
  pub done : List Piece
  pub left : List Piece
  pub whole : pieces stream bytes ≡ done ++ left
  pub fits : (log_after_items width_of view log (items_of done)).log.number < 2 ^ 64
  pub takes : TakesMemoryBefore stream bytes left

-- an item asks for nothing of a terminal with some modes or none: an action that prints nothing, and for which the
-- terminal has no function
abbrev pub AsksNothing : Option Modes → Item → Type 0
AsksNothing modes (Text text) = ⊥
AsksNothing modes (Single action) = (is_print action ≡ false) × AsksForNothing modes action
