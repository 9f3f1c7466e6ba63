-- What an action asks for, as xterm itself has it or as the table does.
use Rattle.std.proofs.Common.{◌≡◌, ℕ, ◌+◌, ◌^◌, ◌<◌, ◌≤◌, Bool, inl, inr, List, [], length, refl, sym, ap, subst, ◌∙◌}
use Rattle.std.specs.Prelude.{◌⊎◌, ⊤, Option, Some, None, Result, Ok, Err, IfOk, IsErrOf, option_map}
use Rattle.cell_surface.specs.Surface.{Surface, number_of}
use Rattle.cell_surface.specs.declared.error.SurfaceError.{SurfaceError}
use Rattle.cell_surface.specs.declared.error.SurfaceError.TheVariants.{Failed, Number, Memory}
use Rattle.screen_change.specs.ChangeValue.{ChangeValue}
use Rattle.escape_stream.specs.StreamAction.{StreamAction}
use Rattle.terminal_table.specs.Changes.{changes_of}
use Rattle.terminal_table.specs.Functions.{ControlFunction, function_of}
use Rattle.terminal_table.specs.Modes.{Modes, SavedCursor}
use Rattle.terminal_table.specs.Request.{Request, Table}
use Rattle.terminal_table.specs.Requests.{acted, acted_changes, own_first, own_request, request_changes, request_done, request_of}
use Rattle.terminal_table.specs.State.{State}
use Rattle.terminal_table.specs.Steps.{step_of}
use Rattle.terminal_table.proofs.RequestLemmas.{plain_changes, plain_done}
use Rattle.xterm_steps.specs.Additions.{AddsAll, IsChangeRefused}
use Rattle.terminal_steps.specs.CarriesOut.{Carries}
use Rattle.terminal_steps.specs.Memory.{TakesOwnMemory, TakesTableMemory}

module _ (f : List ℕ → ℕ) (state : State) (action : StreamAction) where
  abbrev own : Option Request
  own = own_request state.modes state.screen action

  -- ---- one of xterm's own

  pub own_is : (request : Request) → Some request ≡ own → Some request ≡ request_of state.modes state.screen action
  own_is request e = ap (λ (found : Option Request). own_first found (function_of action)) e

  -- ---- one of the table, or none

  pub table_changes : None ≡ own → changes_of (function_of action) state ≡ acted_changes f action state
  table_changes e = sym (plain_changes f (function_of action) state) ∙ ap (λ (found : Option Request). request_changes f (own_first found (function_of action)) state) e

  pub table_done : None ≡ own → step_of (function_of action) state ≡ request_done f (request_of state.modes state.screen action) state
  table_done e = sym (plain_done f (function_of action) state) ∙ ap (λ (found : Option Request). request_done f (own_first found (function_of action)) state) e

  pub table_memory : (number : ℕ) → None ≡ own → TakesTableMemory (function_of action) number → TakesOwnMemory (request_of state.modes state.screen action) number
  table_memory number e h = subst (λ (found : Option Request). TakesOwnMemory (own_first found (function_of action)) number) e (by_function (function_of action) h)
    where
      by_function : (function : Option ControlFunction) → TakesTableMemory function number → TakesOwnMemory (option_map Table function) number
      by_function None h = h
      by_function (Some function) h = h

  -- why it is refused memory
  pub table_refused : (number : ℕ) (failed : Bool) → None ≡ own → TakesTableMemory (function_of action) number ⊎ IsChangeRefused (changes_of (function_of action) state) number failed
      → TakesOwnMemory (request_of state.modes state.screen action) number ⊎ IsChangeRefused (acted_changes f action state) number failed
  table_refused number failed e (inl h) = inl (table_memory number e h)
  table_refused number failed e (inr h) = inr (subst (λ (changes : List ChangeValue). IsChangeRefused changes number failed) (table_changes e) h)

  -- what the table has is done, and the modes stay
  pub modes_stay : (function : Option ControlFunction) → state.modes ≡ (step_of function state).modes
  modes_stay None = refl
  modes_stay (Some function) = refl

pub table_carries : (state : State) (action : StreamAction) {W : Type 0} (width_of : W → List ℕ → ℕ) (before after : Surface W) (result : Result ⊤ SurfaceError) (cursor : Option SavedCursor) (answers : List ℕ) (kept : Option Modes) (then : Option Modes → Option Modes) → None ≡ own_request state.modes state.screen action
    → IfOk result (λ _. kept ≡ then state.modes)
    → IfOk result (λ _. AddsAll width_of before after (changes_of (function_of action) state))
    → IfOk result (λ _. cursor ≡ (step_of (function_of action) state).saved)
    → IfOk result (λ _. answers ≡ (step_of (function_of action) state).replies)
    → (IsErrOf result Failed → ⊥)
    → (IsErrOf result Number → 2 ^ 64 ≤ number_of before + length (changes_of (function_of action) state))
    → (IsErrOf result Memory → number_of before < 2 ^ 64 → TakesTableMemory (function_of action) (number_of before) ⊎ IsChangeRefused (changes_of (function_of action) state) (number_of before) after.is_failed)
    → IfOk result (λ _. number_of before < 2 ^ 64 → number_of after < 2 ^ 64)
    → Carries width_of state (request_of state.modes state.screen action) (then (request_done (width_of before.grid.widths) (request_of state.modes state.screen action) state).modes) before result after cursor answers kept
table_carries state action width_of before after result cursor answers kept then e modes added saved replies failed numbers memory fits = record {
  added = subst (λ (changes : List ChangeValue). IfOk result (λ _. AddsAll width_of before after changes)) (table_changes f state action e) added;
  saved = subst (λ (s : State). IfOk result (λ _. cursor ≡ s.saved)) (table_done f state action e) saved;
  replies = subst (λ (s : State). IfOk result (λ _. answers ≡ s.replies)) (table_done f state action e) replies;
  modes = subst (λ (m : Option Modes). IfOk result (λ _. kept ≡ then m)) (modes_stay f state action (function_of action) ∙ ap (λ (s : State). s.modes) (table_done f state action e)) modes;
  failed = failed;
  numbers = λ refused. subst (λ (changes : List ChangeValue). 2 ^ 64 ≤ number_of before + length changes) (table_changes f state action e) (numbers refused);
  memory = λ refused few. table_refused f state action (number_of before) after.is_failed e (memory refused few);
  fits = fits;
}
  where
    f : List ℕ → ℕ
    f = width_of before.grid.widths

-- other modes are left after it
pub then_kept : {W : Type 0} (width_of : W → List ℕ → ℕ) (state : State) (request : Option Request) (next kept : Option Modes) (then : Option Modes → Option Modes) (before after : Surface W) (result : Result ⊤ SurfaceError) (cursor : Option SavedCursor) (answers : List ℕ) (last : Option Modes)
    → Carries width_of state request next before result after cursor answers kept → last ≡ then kept → Carries width_of state request (then next) before result after cursor answers last
then_kept width_of state request next kept then before after (Ok x) cursor answers last carries e = record {
  added = carries.added;
  saved = carries.saved;
  replies = carries.replies;
  modes = e ∙ ap then carries.modes;
  failed = carries.failed;
  numbers = carries.numbers;
  memory = carries.memory;
  fits = carries.fits;
}
then_kept width_of state request next kept then before after (Err error) cursor answers last carries e = record {
  added = tt;
  saved = tt;
  replies = tt;
  modes = tt;
  failed = carries.failed;
  numbers = carries.numbers;
  memory = carries.memory;
  fits = tt;
}
