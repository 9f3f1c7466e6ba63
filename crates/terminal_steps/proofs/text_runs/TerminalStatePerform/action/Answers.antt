use Rattle.std.proofs.Common.{Result, Ok, Err, OnOk, IfErr, ◌≡◌, refl}
use Rattle.std.specs.Prelude.{⊤}
use Rattle.cell_surface.specs.declared.error.SurfaceError.{SurfaceError}
use Rattle.cell_surface.specs.declared.error.SurfaceError.TheVariants as refusal
use Rattle.terminal_steps.proofs.text_runs.TerminalStatePerform.action.Goals as goal

always : {T E : Type 0} (r : Result T E) → OnOk r ⊤
always (Ok x) = tt
always (Err e) = tt

-- what holds for each refusal
by_refusal : {T : Type 0} (r : Result T SurfaceError) (P : SurfaceError → Type 0) → (r ≡ Err refusal.Failed → P refusal.Failed) → (r ≡ Err refusal.Number → P refusal.Number) → (r ≡ Err refusal.Memory → P refusal.Memory) → IfErr r P
by_refusal (Ok x) P failed number memory = tt
by_refusal (Err refusal.Failed) P failed number memory = failed refl
by_refusal (Err refusal.Number) P failed number memory = number refl
by_refusal (Err refusal.Memory) P failed number memory = memory refl

pub returns-in_default : goal.returns-in_default
returns-in_default g c = record {
  ready = always c.apply.result;
  done = c.apply.ensures.done;
  refused = by_refusal c.apply.result _ c.apply.ensures.failed c.apply.ensures.numbers c.apply.ensures.memory;
}
