-- Which modes events leave.
use Rattle.std.proofs.Common.{◌≡◌, ℕ, Bool, true, false, List, [], ◌∷◌, length, fold, refl, ap, ◌∙◌}
use Rattle.std.specs.Prelude.{◌==◌, Option, Some, None, option_map, if◌then◌else◌}
use Rattle.std.proofs.lemmas.Bool.{cond_both}
use Rattle.escape_stream.specs.StreamAction.{is_print}
use Rattle.terminal_table.specs.Facts.{PlainTerminalsStay}
use Rattle.terminal_table.specs.History.{Event, Act, Looked, Resized, Forgot, events}
use Rattle.terminal_table.specs.Meaning.{View, settled, event_done}
use Rattle.terminal_table.specs.Modes.{Modes, resized_modes, with_last}
use Rattle.terminal_table.specs.Runs.{run_modes, run_step, text_as}
use Rattle.terminal_table.proofs.RequestLemmas.{plain_modes}

-- the same modes, with a run before
pub settled_modes : (width_of : List ℕ → ℕ) (v : View) → (text : List ℕ) × ((settled width_of v).state.modes ≡ option_map (with_last text) v.state.modes)
settled_modes width_of v = by_test (length v.held == 0)
  where
    same : (modes : Option Modes) → (text : List ℕ) × (modes ≡ option_map (with_last text) modes)
    same None = ([], refl)
    same (Some modes) = (modes.last, refl)

    kept : (modes : Option Modes) → (text : List ℕ) × (run_modes v.held modes ≡ option_map (with_last text) modes)
    kept None = ([], refl)
    kept (Some modes) = (text_as modes v.held, refl)

    by_test : (b : Bool) → (text : List ℕ) × ((if b then v.state else run_step width_of v.held v.state).modes ≡ option_map (with_last text) v.state.modes)
    by_test true = same v.state.modes
    by_test false = kept v.state.modes

-- none, where there are none
pub settled_plain : (width_of : List ℕ → ℕ) (v : View) → v.state.modes ≡ None → (settled width_of v).state.modes ≡ None
settled_plain width_of v e =
    let last = settled_modes width_of v in
    last.1 ∙ ap (option_map (with_last last.0)) e

-- a plain terminal stays one
pub plain_event : (width_of : List ℕ → ℕ) (v : View) (event : Event) → v.state.modes ≡ None → (event_done width_of v event).state.modes ≡ None
plain_event width_of v (Act action) e =
    cond_both (is_print action) _ _ (λ (x : View). x.state.modes ≡ None) (λ p. e) (λ p. plain_modes width_of action (settled width_of v).state (settled_plain width_of v e))
plain_event width_of v Looked e = settled_plain width_of v e
plain_event width_of v (Resized width height) e = ap (option_map (resized_modes width height)) (settled_plain width_of v e)
plain_event width_of v (Forgot number) e = e

plain_events : (width_of : List ℕ → ℕ) (v : View) (es : List Event) → v.state.modes ≡ None → (fold (event_done width_of) v es).state.modes ≡ None
plain_events width_of v [] e = e
plain_events width_of v (event ∷ es) e = plain_events width_of (event_done width_of v event) es (plain_event width_of v event e)

pub plain_terminals_stay : PlainTerminalsStay
plain_terminals_stay width_of v history e = plain_events width_of v (events v.stream history) e
