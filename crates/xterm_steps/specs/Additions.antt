-- Changes that are added to a surface, in order.
use Rattle.std.specs.Prelude.{◌≡◌, ◌<◌, ◌≤◌, ◌+◌, ◌^◌, ⊤, ℕ, Bool, true, false, List, length, map, fold}
use Rattle.std.specs.Prelude.{Result, IfOk, IsErrOf}
use Rattle.screen_change.specs.ChangeValue.{ChangeValue}
use Rattle.cell_surface.specs.Surface.{Surface, number_of, shown_by}
use Rattle.cell_surface.specs.declared.error.SurfaceError.{SurfaceError}
use Rattle.cell_surface.specs.declared.error.SurfaceError.TheVariants.{Failed, Number, Memory}
use Rattle.screen_log.specs.LogSteps.{Logged, step_of_kept}
use Rattle.screen_effects.specs.Effect.{replay}

-- one of some changes after a number is refused memory: there is a change, the first one has a number, and the surface
-- has failed
abbrev pub IsChangeRefused : {A : Type 0} → List A → ℕ → Bool → Type 0
IsChangeRefused changes number failed = (0 < length changes) × (number + 1 < 2 ^ 64) × (failed ≡ true)

-- each change has had its effect on the surface, and was logged
pub record AddsAll {W : Type 0} (width_of : W → List ℕ → ℕ) (before after : Surface W) (changes : List ChangeValue) :
    Type 0 where
  pub shown : shown_by after ≡ replay (width_of before.grid.widths) (shown_by before) changes
  pub widths : after.grid.widths ≡ before.grid.widths
  pub log : after.log ≡ fold step_of_kept before.log (map Logged changes)
  pub stays : after.is_failed ≡ false

-- Changes are added in turn; or they are refused, because the surface had failed before, because no number is left for
-- one of them, or because one is refused memory, and then the surface has failed. A call that also takes memory of its
-- own may be refused that, too.
pub record AddsWith {W : Type 0}
    (takes_more : Bool) (width_of : W → List ℕ → ℕ) (before : Surface W) (changes : List ChangeValue)
    (result : Result ⊤ SurfaceError) (after : Surface W) : Type 0 where
  pub added : IfOk result (λ _. AddsAll width_of before after changes)
  pub failed : IsErrOf result Failed → before.is_failed ≡ true
  pub numbers : IsErrOf result Number → (0 < length changes) × (2 ^ 64 ≤ number_of before + length changes)
  pub memory : IsErrOf result Memory → takes_more ≡ false → IsChangeRefused changes (number_of before) after.is_failed
  pub fits : IfOk result (λ _. number_of before < 2 ^ 64 → number_of after < 2 ^ 64)

-- the call takes memory for the changes alone
abbrev pub Adds : {W : Type 0} → (W → List ℕ → ℕ) → Surface W → List ChangeValue → Result ⊤ SurfaceError → Surface W
    → Type 0
Adds = AddsWith false

-- the call also takes memory for a copy of a text or a pen, which it makes first
abbrev pub CopiesAndAdds : {W : Type 0} → (W → List ℕ → ℕ) → Surface W → List ChangeValue → Result ⊤ SurfaceError
    → Surface W → Type 0
CopiesAndAdds = AddsWith true
