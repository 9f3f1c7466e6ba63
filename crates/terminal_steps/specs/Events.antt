-- What events do to the state that a terminal keeps.
use Rattle.std.specs.Prelude.{◌≡◌, ◌≤◌, ◌<◌, ◌^◌, ℕ, false, List, [], fold}
use Rattle.std.specs.String.{string_bytes}
use Rattle.cell_surface.specs.Surface.{Surface, shown_by}
use Rattle.screen_log.specs.LogSteps.{Sized, step_of_kept}
use Rattle.screen_effects.specs.Display.{IsDisplay}
use Rattle.terminal_table.specs.History.{Event}
use Rattle.terminal_table.specs.Meaning.{View, event_done}
use Rattle.terminal_table.specs.Logged.{events_logged}
use Rattle.terminal_table.specs.State.{IsState}
use Rattle.terminal_table.specs.RunText.{IsPrinted}
use Rattle.terminal_table.specs.Turns.{AreEvents}
use Rattle.terminal_steps.specs.ProfileView.{kept_modes}
use Rattle.terminal_steps.specs.TerminalStates.{state_of}
use Rattle.terminal_steps.specs.declared.state.TerminalState.{TerminalState}

-- the state, and the run that is held, after a stream of which nothing is unfinished
abbrev pub view_of : {W : Type 0} → TerminalState W → View
view_of t =
    record {
      state = state_of t.surface t.saved t.replies.items (kept_modes t.modes);
      stream = [];
      held = string_bytes t.held;
    }

-- its surface
abbrev pub surface_in : {W : Type 0} → TerminalState W → Surface W
surface_in t = t.surface

-- the surface hasn't failed, shows a lawful display, and its number fits in 64 bits; the state is lawful, and the held
-- run has no controls
pub record IsReady {W : Type 0} (width_of : W → List ℕ → ℕ) (t : TerminalState W) : Type 0 where
  pub stays : t.surface.is_failed ≡ false
  pub shown : IsDisplay (shown_by t.surface)
  pub lawful : IsState (width_of t.surface.grid.widths) (view_of t).state
  pub fits : t.surface.log.log.number < 2 ^ 64
  pub plain : IsPrinted (string_bytes t.held)

-- the log that events leave
abbrev pub final_log : {W : Type 0} → (W → List ℕ → ℕ) → TerminalState W → List Event → Sized
final_log width_of t events =
    fold step_of_kept t.surface.log (events_logged (width_of t.surface.grid.widths) (view_of t) events)

-- the events had their meaning, and were logged; none sets the cursor's shape
pub record Had {W : Type 0} (width_of : W → List ℕ → ℕ) (before after : TerminalState W) (events : List Event) : Type 0
  where
    pub view : view_of after ≡ fold (event_done (width_of before.surface.grid.widths)) (view_of before) events
    pub log : after.surface.log ≡ final_log width_of before events
    pub widths : after.surface.grid.widths ≡ before.surface.grid.widths
    pub shape : (shown_by after.surface).shape ≡ (shown_by before.surface).shape
    pub ready : IsReady width_of after

-- events of lawful sizes and texts had their meaning on a terminal that was ready for them
abbrev pub Does : {W : Type 0} → (W → List ℕ → ℕ) → TerminalState W → TerminalState W → List Event → Type 0
Does width_of before after events = IsReady width_of before → AreEvents events → Had width_of before after events

-- the number after the events doesn't fit in 64 bits
abbrev pub NeedsNumber : {W : Type 0} → (W → List ℕ → ℕ) → TerminalState W → List Event → Type 0
NeedsNumber width_of before events =
    IsReady width_of before → AreEvents events → 2 ^ 64 ≤ (final_log width_of before events).log.number
