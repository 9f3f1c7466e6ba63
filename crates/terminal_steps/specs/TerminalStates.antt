-- What a terminal keeps, as the state of its table.
use Rattle.std.specs.Prelude.{ℕ, List, Option}
use Rattle.cell_surface.specs.Surface.{Surface, shown_by}
use Rattle.terminal_table.specs.Modes.{Modes}
use Rattle.terminal_table.specs.Modes.{SavedCursor}
use Rattle.terminal_table.specs.State.{State}

-- the screen that a surface shows, a saved cursor, replies and modes
abbrev pub state_of : {W : Type 0} → Surface W → Option SavedCursor → List ℕ → Option Modes → State
state_of surface saved replies modes =
    record { screen = (shown_by surface).screen; saved = saved; replies = replies; modes = modes }
