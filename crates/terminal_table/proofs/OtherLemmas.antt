-- Actions that ask for nothing.
use Rattle.std.proofs.Common.{◌≡◌, ℕ, Bool, false, List, [], ◌++◌, map, ap, ◌∙◌}
use Rattle.std.specs.Prelude.{Option, None, if◌then◌else◌}
use Rattle.screen_log.specs.LogSteps.{Logged}
use Rattle.escape_stream.specs.StreamAction.{StreamAction, is_print, printed}
use Rattle.terminal_table.specs.History.{Act}
use Rattle.terminal_table.specs.Meaning.{View, settled, event_done}
use Rattle.terminal_table.specs.Logged.{run_logged, event_logged}
use Rattle.terminal_table.specs.Modes.{Modes}
use Rattle.terminal_table.specs.Request.{Request}
use Rattle.terminal_table.specs.Requests.{AsksForNothing, acted, acted_changes, request_changes, request_done, request_of, without_last}
use Rattle.terminal_table.proofs.ListLemmas.{append_nil}
use Rattle.terminal_table.proofs.ModesLemmas.{settled_modes}

-- a run that ends asks for nothing else
pub asked_settled : (width_of : List ℕ → ℕ) (v : View) (action : StreamAction) → AsksForNothing v.state.modes action → request_of (settled width_of v).state.modes (settled width_of v).state.screen action ≡ None
asked_settled width_of v action e =
    let last = settled_modes width_of v in
    ap (λ (modes : Option Modes). request_of modes (settled width_of v).state.screen action) last.1 ∙ e last.0 (settled width_of v).state.screen

pub other_view : (width_of : List ℕ → ℕ) (v : View) (action : StreamAction) → is_print action ≡ false → AsksForNothing v.state.modes action
    → event_done width_of v (Act action) ≡ record (settled width_of v) { state = without_last (settled width_of v).state }
other_view width_of v action p e =
    let own : View = settled width_of v in
    ap (λ (b : Bool). if b then record v { held = v.held ++ printed action } else record own { state = acted width_of action own.state }) p
    ∙ ap (λ (request : Option Request). record own { state = without_last (request_done width_of request own.state) }) (asked_settled width_of v action e)

pub other_logged : (width_of : List ℕ → ℕ) (v : View) (action : StreamAction) → is_print action ≡ false → AsksForNothing v.state.modes action → event_logged width_of v (Act action) ≡ run_logged width_of v
other_logged width_of v action p e =
    let own : View = settled width_of v in
    ap (λ (b : Bool). if b then [] else run_logged width_of v ++ map Logged (acted_changes width_of action own.state)) p
    ∙ ap (λ (request : Option Request). run_logged width_of v ++ map Logged (request_changes width_of request own.state)) (asked_settled width_of v action e)
    ∙ append_nil (run_logged width_of v)
