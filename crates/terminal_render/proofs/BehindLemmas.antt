-- What leads from one screen to another behind a control function has an encoding.
use Rattle.std.proofs.Common.{ℕ, List, sym, ◌∙◌}
use Rattle.cell_base.specs.Screen.{Screen, height}
use Rattle.screen_change.specs.ChangeValue.{ChangeValue}
use Rattle.terminal_table.specs.Changes.{changes}
use Rattle.terminal_table.specs.Functions.{ControlFunction}
use Rattle.xterm_table.specs.Follows.{Follows}
use Rattle.terminal_table.specs.Led.{led, led_behind}
use Rattle.terminal_table.specs.State.{State, IsState}
use Rattle.terminal_table.specs.Steps.{step}
use Rattle.terminal_table.proofs.StateLemmas.{step_is, step_size}
use Rattle.terminal_render.specs.Spelling.{HaveEncodings, IsSpelledFunction, IsSpelledScreen, IsSpelledState}
use Rattle.terminal_render.proofs.ChangeLemmas.{encodings_append}
use Rattle.terminal_render.proofs.LedLemmas.{led_has}
use Rattle.terminal_render.proofs.RequestLemmas.{changes_have, moved_has}

pub behind_has : (width_of : List ℕ → ℕ) (function : ControlFunction) (state : State) (new : Screen) → IsState width_of state → Follows width_of (step function state).screen new → IsSpelledFunction function → IsSpelledState state → IsSpelledScreen new
    → HaveEncodings new.width (height new) (led_behind function state.saved state.screen new)
behind_has width_of function state new h f q p pn =
    let next : Screen = (step function state).screen in
    let first : List ChangeValue = changes function state.saved state.screen in
    let size = step_size width_of function state h in
    encodings_append new.width (height new) first (led next new)
    (moved_has state.screen new first (record { wide = sym (f.wide ∙ size.wide); tall = sym (f.tall ∙ size.tall) }) (changes_have function state h.lawful.wide_enough q p))
    (led_has width_of next new (step_is width_of function state h).lawful f pn)
