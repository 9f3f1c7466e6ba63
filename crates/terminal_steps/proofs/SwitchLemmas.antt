-- The screen that is not shown comes, and something is logged for it.
use Rattle.std.proofs.Common.{◌≡◌, ℕ, ◌+◌, ◌<◌, ◌^◌, true, List, [], ◌∷◌, length, replicate, refl, ap, arith}
use Rattle.std.specs.Prelude.{Option}
use Rattle.std.proofs.lemmas.List.{length-map}
use Rattle.cell_base.specs.Row.{Row, plain_row, space}
use Rattle.cell_base.specs.Screen.{Screen}
use Rattle.screen_effects.specs.Display.{Display, IsDisplay}
use Rattle.screen_effects.specs.Effect.{blank_row}
use Rattle.screen_effects.specs.WrittenCells.{IsSoundDisplay}
use Rattle.xterm_table.specs.Follows.{Follows}
use Rattle.terminal_table.specs.Modes.{Modes, SavedCursor, other_rows, other_screen}
use Rattle.terminal_table.specs.RunText.{IsRunText}
use Rattle.terminal_table.specs.Screens.{Screens, screens_after, screens_changes}
use Rattle.terminal_table.specs.Steps.{display_erased}
use Rattle.terminal_table.proofs.SwitchLemmas.{Leads, screens_follow}
use Rattle.terminal_steps.specs.FunctionView.{screen_function}
use Rattle.terminal_steps.specs.Memory.{TakesScreenMemory, adds_always}
use Rattle.terminal_steps.specs.declared.screens.ScreenFunction.{ScreenFunction}
use Rattle.terminal_steps.specs.declared.screens.ScreenFunction.TheVariants as switch
use Rattle.xterm_steps.proofs.LedLemmas.{led_some}

-- the screens of a lawful surface lead to themselves
pub leads_here : (width_of : List ℕ → ℕ) (d : Display) (saved : Option SavedCursor) (modes : Modes) → width_of space ≡ 1 → IsDisplay d → IsSoundDisplay width_of d → Follows width_of d.screen (other_screen d.screen modes.other.rows) × IsRunText modes.last
    → Leads width_of d.screen (record { screen = d.screen; saved = saved; modes = modes })
leads_here width_of d saved modes narrow h sound can = record {
  narrow = narrow;
  wide = refl;
  tall = refl;
  lawful = h.lawful;
  whole = h.whole;
  sound = sound;
  other = can.0;
  last = can.1;
}

-- an erasure of the screen shown leaves the other one
pub other_same : (s : Screen) (rows : List Row) → other_rows (display_erased s) rows ≡ other_rows s rows
other_same s [] = ap (λ n. replicate n (plain_row s.width)) (length-map s.rows (λ _. blank_row s.width s.pen.background))
other_same s (row ∷ rows) = refl

-- a function that adds a change in any case logs something
pub switch_some : (width_of : List ℕ → ℕ) (at : Screens) (function : ScreenFunction) → Leads width_of at.screen at → adds_always (screen_function function) ≡ true → 0 < length (screens_changes (screen_function function) at)
switch_some width_of at switch.SaveCursor h adds = cc
switch_some width_of at switch.PushTitle h adds = cc
switch_some width_of at switch.PopTitle h adds = cc
switch_some width_of at switch.SoftReset h adds = omega arith
switch_some width_of at switch.SaveAndClear h adds = omega arith
switch_some width_of at switch.SaveAndShowCleared h adds = omega arith
switch_some width_of at switch.RestoreCursor h adds = led_some width_of at.screen (screens_after (screen_function switch.RestoreCursor) at).screen (screens_follow width_of (screen_function switch.RestoreCursor) at h)
switch_some width_of at switch.ShowOther h adds = led_some width_of at.screen (screens_after (screen_function switch.ShowOther) at).screen (screens_follow width_of (screen_function switch.ShowOther) at h)
switch_some width_of at switch.ClearAndShowOther h adds = led_some width_of at.screen (screens_after (screen_function switch.ClearAndShowOther) at).screen (screens_follow width_of (screen_function switch.ClearAndShowOther) at h)
switch_some width_of at switch.ShowAndRestore h adds = led_some width_of at.screen (screens_after (screen_function switch.ShowAndRestore) at).screen (screens_follow width_of (screen_function switch.ShowAndRestore) at h)

-- it may take memory where it has a number for a change
pub switch_memory : (function : ScreenFunction) (number : ℕ) → number < 2 ^ 64 → (adds_always (screen_function function) ≡ true → number + 1 < 2 ^ 64) → TakesScreenMemory (screen_function function) number
switch_memory switch.SaveCursor number few more = few
switch_memory switch.PushTitle number few more = few
switch_memory switch.PopTitle number few more = few
switch_memory switch.SoftReset number few more = more refl
switch_memory switch.SaveAndClear number few more = more refl
switch_memory switch.SaveAndShowCleared number few more = more refl
switch_memory switch.RestoreCursor number few more = more refl
switch_memory switch.ShowOther number few more = more refl
switch_memory switch.ClearAndShowOther number few more = more refl
switch_memory switch.ShowAndRestore number few more = more refl
