-- What a `Terminal` holds.
use Rattle.std.specs.Prelude.{◌≡◌, ℕ, false, List}
use Rattle.std.specs.String.{string_bytes}
use Rattle.escape_framing.specs.Framed.{IsReached}
use Rattle.terminal.specs.Terminal.{Terminal, IsSpelled}
use Rattle.terminal.specs.declared.terminal.Terminal.TheInside.{Inside}
use Rattle.terminal_steps.specs.Events.{IsReady}
use Rattle.terminal_steps.specs.ProfileView.{kept_modes}

abbrev pub terminal_of : {W : Type 0} → Inside W → Terminal W
terminal_of i = record {
  surface = i.state.surface;
  saved = i.state.saved;
  replies = i.state.replies.items;
  modes = kept_modes i.state.modes;
  run = string_bytes i.state.held;
  unfinished = i.parser.held;
  is_failed = i.is_failed;
}

-- the invariant of a terminal that hasn't failed: its parts haven't failed, its unfinished bytes are those of some
-- stream, and its changes have encodings
pub record CanGoOn {W : Type 0} (width_of : W → List ℕ → ℕ) (i : Inside W) : Type 0 where
  pub ready : IsReady width_of i.state
  pub parser : i.parser.failed ≡ false
  pub reached : IsReached i.parser.held
  pub spelled : IsSpelled (terminal_of i)

abbrev pub IsSound : {W : Type 0} → (W → List ℕ → ℕ) → Inside W → Type 0
IsSound width_of i = i.is_failed ≡ false → CanGoOn width_of i
