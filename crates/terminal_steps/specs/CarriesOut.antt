-- What becomes of a surface, a saved cursor, replies and the modes of xterm where what was asked for is done.
use Rattle.std.specs.Prelude.{◌≡◌, ◌≤◌, ◌<◌, ◌+◌, ◌^◌, ◌⊎◌, ⊤, ℕ, List, Option, Some, Result, IfOk, IsErrOf, length}
use Rattle.cell_surface.specs.Surface.{Surface, number_of}
use Rattle.cell_surface.specs.declared.error.SurfaceError.{SurfaceError}
use Rattle.cell_surface.specs.declared.error.SurfaceError.TheVariants.{Failed, Number, Memory}
use Rattle.escape_stream.specs.StreamAction.{StreamAction}
use Rattle.terminal_table.specs.Modes.{Modes, SavedCursor}
use Rattle.terminal_table.specs.Request.{Request}
use Rattle.terminal_table.specs.Requests.{acted, request_changes, request_done, request_of}
use Rattle.terminal_table.specs.State.{CanBeShown, HasLast, State}
use Rattle.xterm_steps.specs.Additions.{AddsAll, IsChangeRefused}
use Rattle.terminal_steps.specs.Memory.{TakesOwnMemory}

-- What was asked for in a state, if anything was, is done, and the modes after it are the next ones; or it is refused,
-- for want of a number or of memory.
pub record Carries {W : Type 0}
    (width_of : W → List ℕ → ℕ) (state : State) (request : Option Request) (next : Option Modes) (before : Surface W)
    (result : Result ⊤ SurfaceError) (after : Surface W) (cursor : Option SavedCursor) (answers : List ℕ)
    (kept : Option Modes) : Type 0 where
  pub added : IfOk result
      (λ _. AddsAll width_of before after (request_changes (width_of before.grid.widths) request state))
  pub saved : IfOk result (λ _. cursor ≡ (request_done (width_of before.grid.widths) request state).saved)
  pub replies : IfOk result (λ _. answers ≡ (request_done (width_of before.grid.widths) request state).replies)
  pub modes : IfOk result (λ _. kept ≡ next)
  pub failed : IsErrOf result Failed → ⊥
  pub numbers : IsErrOf result Number
      → 2 ^ 64 ≤ number_of before + length (request_changes (width_of before.grid.widths) request state)
  pub memory : IsErrOf result Memory → number_of before < 2 ^ 64
      → TakesOwnMemory request (number_of before)
      ⊎ IsChangeRefused (request_changes (width_of before.grid.widths) request state) (number_of before) after.is_failed
  pub fits : IfOk result (λ _. number_of before < 2 ^ 64 → number_of after < 2 ^ 64)

-- something was asked for of a state whose other screen can be shown, and whose run before is a text
abbrev pub CarriesOut : {W : Type 0} → (W → List ℕ → ℕ) → State → Request → Surface W → Result ⊤ SurfaceError
    → Surface W → Option SavedCursor → List ℕ → Option Modes → Type 0
CarriesOut width_of state request before result after saved replies kept =
    CanBeShown (width_of before.grid.widths) state.screen state.modes → HasLast state.modes
    → Carries width_of state (Some request) (request_done (width_of before.grid.widths) (Some request) state).modes
    before result after saved replies kept

-- what an action asks for is done, and the run before stays
abbrev pub CarriesOutAction : {W : Type 0} → (W → List ℕ → ℕ) → State → StreamAction → Surface W
    → Result ⊤ SurfaceError → Surface W → Option SavedCursor → List ℕ → Option Modes → Type 0
CarriesOutAction width_of state action before result after saved replies kept =
    CanBeShown (width_of before.grid.widths) state.screen state.modes → HasLast state.modes
    → Carries width_of state (request_of state.modes state.screen action)
    (request_done (width_of before.grid.widths) (request_of state.modes state.screen action) state).modes
    before result after saved replies kept

-- what an action asks for is done, and no run is the one before
abbrev pub Applies : {W : Type 0} → (W → List ℕ → ℕ) → State → StreamAction → Surface W → Result ⊤ SurfaceError
    → Surface W → Option SavedCursor → List ℕ → Option Modes → Type 0
Applies width_of state action before result after saved replies kept =
    CanBeShown (width_of before.grid.widths) state.screen state.modes → HasLast state.modes
    → Carries width_of state (request_of state.modes state.screen action)
    (acted (width_of before.grid.widths) action state).modes before result after saved replies kept
