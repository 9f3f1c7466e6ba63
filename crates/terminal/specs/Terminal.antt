-- A terminal: its parts, and when it is idle.
use Rattle.std.specs.Prelude.{◌≡◌, ℕ, Bool, List, [], Option}
use Rattle.cell_surface.specs.Surface.{Surface}
use Rattle.escape_framing.specs.Held.{Held, nothing_held}
use Rattle.terminal_render.specs.Spelling.{AreSpelledModes, IsSpelledSaved, IsSpelledText}
use Rattle.terminal_steps.specs.TerminalStates.{state_of}
use Rattle.terminal_table.specs.Modes.{Modes}
use Rattle.terminal_table.specs.Modes.{SavedCursor}
use Rattle.terminal_table.specs.State.{State}
use Rattle.terminal_viewers.specs.Encodable.{CanBeEncoded}

-- the surface, the saved cursor, the replies that were not yet taken, the modes of the profile xterm (none on a plain
-- terminal), the run that nothing has ended, the unfinished bytes of the stream, and whether the terminal has failed
pub record Terminal (W : Type 0) : Type 0 where
  pub surface : Surface W
  pub saved : Option SavedCursor
  pub replies : List ℕ
  pub modes : Option Modes
  pub run : List ℕ
  pub unfinished : Held
  pub is_failed : Bool

-- the state of a terminal
abbrev pub state_in : {W : Type 0} → Terminal W → State
state_in t = state_of t.surface t.saved t.replies t.modes

-- A terminal's screens, the saved pens, the held run and the changes that its log keeps have an encoding, so that
-- viewers can get each change.
pub record IsSpelled {W : Type 0} (t : Terminal W) : Type 0 where
  pub surface : CanBeEncoded t.surface
  pub saved : IsSpelledSaved t.saved
  pub modes : AreSpelledModes t.modes
  pub run : IsSpelledText t.run

-- nothing of the stream is unfinished, and no run is held
pub record IsIdle {W : Type 0} (t : Terminal W) : Type 0 where
  pub run : t.run ≡ []
  pub unfinished : t.unfinished ≡ nothing_held

-- two terminals have the same state, run, unfinished bytes and log, so that they go on alike
pub record IsAlike {W : Type 0} (one other : Terminal W) : Type 0 where
  pub state : state_in one ≡ state_in other
  pub run : one.run ≡ other.run
  pub unfinished : one.unfinished ≡ other.unfinished
  pub log : one.surface.log ≡ other.surface.log
