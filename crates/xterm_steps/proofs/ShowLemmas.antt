-- What becomes of a surface by changes that are added, or refused.
use Rattle.std.proofs.Common.{◌≡◌, ℕ, ◌+◌, ◌<◌, ◌≤◌, ◌^◌, true, false, List, ◌∷◌, [], length, inl, inr, refl, sym, ap, ◌∙◌, arith}
use Rattle.std.specs.Prelude.{Ok, Err}
use Rattle.std.proofs.lemmas.List.Folds.{fold-map}
use Rattle.cell_base.specs.Screen.{Screen}
use Rattle.cell_surface.specs.Surface as surface
use Rattle.cell_surface.specs.Surface.{Surface, number_of, shown_by}
use Rattle.cell_surface.specs.declared.error.SurfaceError.{SurfaceError}
use Rattle.cell_surface.specs.declared.error.SurfaceError.TheVariants.{Failed, Number, Memory}
use Rattle.screen_change.specs.ChangeValue.{ChangeValue}
use Rattle.screen_effects.specs.Display.{Display}
use Rattle.screen_effects.specs.Effect.{replay}
use Rattle.screen_log.specs.LogSteps.{Logged, Sized, step_of_kept}
use Rattle.xterm_steps.specs.Additions.{AddsAll}
use Rattle.xterm_steps.specs.Becomes.{ShowsBy}

-- ---- refusals before a change is added

pub had_failed : {W : Type 0} (width_of : W → List ℕ → ℕ) (before : Surface W) (changes : List ChangeValue) (screen : Screen) → before.is_failed ≡ true → ShowsBy width_of before changes screen (Err Failed) before
had_failed width_of before changes screen is = record {
  added = record { added = tt; failed = λ h. is; numbers = λ h. cc; memory = λ h k. cc; fits = tt };
  shown = tt;
  failed = λ h. refl;
  unchanged = λ h. refl;
  numbers = λ h. refl;
  memory = λ h. inl refl;
}

pub no_memory : {W : Type 0} (width_of : W → List ℕ → ℕ) (before : Surface W) (changes : List ChangeValue) (screen : Screen) → before.is_failed ≡ false → ShowsBy width_of before changes screen (Err Memory) before
no_memory width_of before changes screen stays = record {
  added = record { added = tt; failed = λ h. cc; numbers = λ h. cc; memory = λ h k. cc; fits = tt };
  shown = tt;
  failed = λ h. cc;
  unchanged = λ h. refl;
  numbers = λ h. refl;
  memory = λ h. inl refl;
}

-- ---- changes that are added at once

added_at_once : {W : Type 0} (width_of : W → List ℕ → ℕ) (before after : Surface W) (changes : List ChangeValue) → surface.AddsAll (width_of before.grid.widths) before after changes → AddsAll width_of before after changes
added_at_once width_of before after changes a = record {
  shown = a.shown;
  widths = a.widths;
  log = a.log ∙ sym (fold-map step_of_kept Logged before.log changes);
  stays = a.stays;
}

logged_number : (values : List ChangeValue) (log : Sized) → (surface.all_logged log values).log.number ≡ log.log.number + length values
logged_number [] log = omega arith
logged_number (value ∷ values) log = logged_number values (step_of_kept log (Logged value)) ∙ omega arith

pub shows_ok : {W : Type 0} (width_of : W → List ℕ → ℕ) (before after : Surface W) (values : List ChangeValue) (screen : Screen) (count : ℕ) → count ≡ length values → before.is_failed ≡ false
    → surface.AddsAll (width_of before.grid.widths) before after values → ¬ (2 ^ 64 ≤ number_of before + count)
    → (replay (width_of before.grid.widths) (shown_by before) values).screen ≡ screen → ShowsBy width_of before values screen (Ok tt) after
shows_ok width_of before after values screen count e stays a room is = record {
  added = record {
    added = added_at_once width_of before after values a;
    failed = λ h. cc;
    numbers = λ h. cc;
    memory = λ h k. cc;
    fits = λ h. let n = ap (λ (l : Sized). l.log.number) a.log ∙ logged_number values before.log in grind (arith, n, e, room);
  };
  shown = ap (λ (d : Display). d.screen) a.shown ∙ is;
  failed = λ h. cc;
  unchanged = λ h. cc;
  numbers = λ h. cc;
  memory = λ h. cc;
}

pub shows_err : {W : Type 0} (width_of : W → List ℕ → ℕ) (before after : Surface W) (values : List ChangeValue) (screen : Screen) (count : ℕ) (refusal : SurfaceError) → count ≡ length values → before.is_failed ≡ false
    → number_of before < 2 ^ 64 → (refusal ≡ Failed → before.is_failed ≡ true) → (refusal ≡ Number → 2 ^ 64 ≤ number_of before + count) → (refusal ≡ Number → after ≡ before) → (refusal ≡ Memory → after.is_failed ≡ true)
    → ShowsBy width_of before values screen (Err refusal) after
shows_err width_of before after values screen count Failed e stays small failed many same lost = let was = failed refl in cc
shows_err width_of before after values screen count Number e stays small failed many same lost =
    let over = many refl in record {
      added = record { added = tt; failed = λ h. cc; numbers = λ h. (omega (arith, over, e, small), omega (arith, over, e)); memory = λ h k. cc; fits = tt };
      shown = tt;
      failed = λ h. cc;
      unchanged = λ h. cc;
      numbers = λ h. same refl;
      memory = λ h. cc;
    }
shows_err width_of before after values screen count Memory e stays small failed many same lost = record {
  added = record { added = tt; failed = λ h. cc; numbers = λ h. cc; memory = λ h k. cc; fits = tt };
  shown = tt;
  failed = λ h. cc;
  unchanged = λ h. cc;
  numbers = λ h. cc;
  memory = λ h. inr (lost refl);
}
