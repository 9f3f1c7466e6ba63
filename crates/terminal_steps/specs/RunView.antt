-- A run under xterm on its way on a surface.
use Rattle.std.specs.Prelude.{◌≡◌, ◌≤◌, ◌<◌, ◌+◌, ◌^◌, ⊤, ℕ, List, Result, IfOk, IsErrOf, Some, length, true}
use Rattle.std.specs.String.{string_bytes}
use Rattle.cell_base.specs.Screen.{Screen, height}
use Rattle.cell_surface.specs.Surface.{Surface, number_of, shown_by}
use Rattle.cell_surface.specs.declared.error.SurfaceError.{SurfaceError}
use Rattle.cell_surface.specs.declared.error.SurfaceError.TheVariants.{Failed, Number}
use Rattle.screen_effects.specs.Display.{IsDisplay}
use Rattle.terminal_table.specs.Modes.{Modes, region_on}
use Rattle.terminal_table.specs.RunTurns.{IsRunning}
use Rattle.terminal_table.specs.Runs.{Running, run_changes, run_done, screen_alone}
use Rattle.terminal_table.specs.State.{IsState}
use Rattle.terminal_table.specs.RunText.{IsRunText}
use Rattle.terminal_table.specs.Feeds.{scrolls_plainly}
use Rattle.terminal_steps.specs.declared.runs.Frame.{Frame}
use Rattle.terminal_steps.specs.declared.runs.Run.{Run}
use Rattle.xterm_steps.specs.Additions.{AddsAll, AddsWith}

-- what the frame keeps is that of the modes and the screen
pub record IsFrame (modes : Modes) (screen : Screen) (frame : Frame) : Type 0 where
  pub insert : frame.insert ≡ modes.insert
  pub autowrap : frame.autowrap ≡ modes.autowrap
  pub region : frame.region ≡ region_on modes screen
  pub scrolls : frame.scrolls_plainly ≡ scrolls_plainly (region_on modes screen) screen
  pub width : frame.width ≡ screen.width
  pub height : frame.height ≡ height screen

-- the cursor's place is that on a screen
pub record IsAt (run : Run) (screen : Screen) : Type 0 where
  pub column : run.column ≡ screen.column
  pub row : run.row ≡ screen.row

-- From one surface on the changes so far were added; the clusters after them are those that are put plainly, and the
-- cursor's place is that with them.
pub record RunsOn {W : Type 0}
    (width_of : W → List ℕ → ℕ) (before now : Surface W) (run : Run) (running : Running) : Type 0 where
  pub added : AddsAll width_of before now running.changes
  pub going : IsRunning (width_of before.grid.widths) (shown_by before) (shown_by before).screen running
  pub text : string_bytes run.text ≡ running.text
  pub at : IsAt run running.screen
  pub fits : number_of before < 2 ^ 64 → number_of now < 2 ^ 64

-- more of the run was done, or is refused, as where a change has no number
pub record GoesOn {W : Type 0}
    (width_of : W → List ℕ → ℕ) (before : Surface W) (result : Result ⊤ SurfaceError) (now : Surface W) (run : Run)
    (running : Running) : Type 0 where
  pub goes : IfOk result (λ _. RunsOn width_of before now run running)
  pub failed : IsErrOf result Failed → ⊥
  pub numbers : IsErrOf result Number → 2 ^ 64 ≤ number_of before + length running.changes

-- a run can be put on a surface that shows a lawful display
pub record CanBePut {W : Type 0} (width_of : W → List ℕ → ℕ) (surface : Surface W) (text : List ℕ) : Type 0 where
  pub state : IsState (width_of surface.grid.widths) (screen_alone (shown_by surface).screen)
  pub shown : IsDisplay (shown_by surface)
  pub printed : IsRunText text

-- a text is put cluster by cluster on a terminal of these modes
abbrev pub PutsText : {W : Type 0} → (W → List ℕ → ℕ) → Modes → Surface W → List ℕ → Result ⊤ SurfaceError → Surface W
    → Type 0
PutsText width_of modes before text result after =
    CanBePut width_of before text
    → AddsWith true width_of before (run_done modes (width_of before.grid.widths) (shown_by before).screen text).changes
    result after

-- a run is put, in the characters of the set in use
abbrev pub PutsRun : {W : Type 0} → (W → List ℕ → ℕ) → Modes → Surface W → List ℕ → Result ⊤ SurfaceError → Surface W
    → Type 0
PutsRun width_of modes before text result after =
    CanBePut width_of before text
    → AddsWith true width_of before
    (run_changes (Some modes) (width_of before.grid.widths) (shown_by before).screen text) result after
