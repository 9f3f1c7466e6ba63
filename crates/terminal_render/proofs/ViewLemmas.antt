-- Events leave views whose parts have an encoding, and so have the changes that are logged for them.
use Rattle.std.proofs.Common.{ℕ, List, [], ◌∷◌, ◌++◌, length, map, refl}
use Rattle.std.specs.Prelude.{⊤, ◌==◌, Option, None}
use Rattle.std.specs.List.{AllByRecursion}
use Rattle.std.proofs.lemmas.Bool.{cond_both}
use Rattle.cell_base.specs.Screen.{height}
use Rattle.cell_base.proofs.Fields.{all_joined}
use Rattle.screen_change.specs.ChangeValue.{ChangeValue}
use Rattle.screen_log.specs.LogSteps as log
use Rattle.screen_log.specs.LogSteps.{LogStep, Logged}
use Rattle.screen_log.specs.Log.{most_due}
use Rattle.escape_stream.specs.StreamAction.{is_print, printed}
use Rattle.terminal_table.specs.Modes.{AreNew, Modes}
use Rattle.terminal_table.specs.Request.{Request}
use Rattle.terminal_table.specs.State.{State}
use Rattle.terminal_table.specs.Requests.{acted_changes, request_done, request_of}
use Rattle.terminal_table.specs.Runs.{run_changes_of, run_step}
use Rattle.terminal_table.specs.History.{Event, Act, Looked, Resized, Forgot}
use Rattle.terminal_table.specs.Meaning.{View, new_view, new_view_with, settled, event_done}
use Rattle.terminal_table.specs.Logged.{run_logged, event_logged}
use Rattle.terminal_table.specs.Turns.{IsView, IsEvent, changes_in}
use Rattle.terminal_table.proofs.StateLemmas.{HasSize, turned_size}
use Rattle.terminal_table.proofs.EventLemmas.{event_turns, settled_is}
use Rattle.terminal_render.specs.Spelling.{IsSpelledState, IsSpelledView, IsSpelledEvent, HasEncoding, HaveEncodings}
use Rattle.terminal_render.proofs.TextLemmas.{spelled_append, spelled_nil}
use Rattle.terminal_render.proofs.DisplayLemmas.{size_spelled, screen_spelled}
use Rattle.terminal_render.proofs.AskedLemmas.{asked_spelled}
use Rattle.terminal_render.proofs.ActedLemmas.{actions_have_encodings, request_spelled}
use Rattle.terminal_render.proofs.RequestLemmas.{display_on, display_on_is, moved_has, new_modes_spelled, resized_modes_spelled, run_modes_spelled, without_spelled}
use Rattle.terminal_render.proofs.RunningLemmas.{run_has, run_spelled}

-- ---- views

pub new_spelled_with : (modes : Option Modes) (width height : ℕ) → AreNew modes → IsSpelledView (new_view_with modes width height)
new_spelled_with modes width height new = record { state = record { screen = screen_spelled width height; saved = tt; modes = new_modes_spelled modes new }; held = spelled_nil }

pub new_spelled : (width height : ℕ) → IsSpelledView (new_view width height)
new_spelled width height = new_spelled_with None width height tt

pub settled_spelled : (width_of : List ℕ → ℕ) (v : View) → IsView width_of v → IsSpelledView v → IsSpelledView (settled width_of v)
settled_spelled width_of v h p = record {
  state = cond_both (length v.held == 0) v.state (run_step width_of v.held v.state) IsSpelledState (λ e. p.state)
      (λ e. record { screen = run_spelled width_of v.held v.state h.lawful h.plain p.held p.state.screen; saved = p.state.saved; modes = run_modes_spelled v.held v.state.modes h.plain p.held p.state.modes });
  held = spelled_nil;
}

pub event_spelled : (width_of : List ℕ → ℕ) (v : View) (event : Event) → IsView width_of v → IsEvent event → IsSpelledView v → IsSpelledEvent event → IsSpelledView (event_done width_of v event)
event_spelled width_of v (Act action) h k p q =
    cond_both (is_print action) _ _ IsSpelledView (λ e. record { state = p.state; held = spelled_append v.held (printed action) p.held q.0 })
    (λ e.
    let own : State = (settled width_of v).state in
    let request : Option Request = request_of own.modes own.screen action in
    record {
      state = without_spelled (request_done width_of request own)
          (request_spelled width_of request own (settled_is width_of v h).lawful (asked_spelled own.modes own.screen action q.1) (settled_spelled width_of v h p).state);
      held = spelled_nil;
    })
event_spelled width_of v Looked h k p q = settled_spelled width_of v h p
event_spelled width_of v (Resized width height) h k p q =
    let s = settled_spelled width_of v h p in
    record { state = record { screen = size_spelled width height (settled width_of v).state.screen s.state.screen; saved = s.state.saved; modes = resized_modes_spelled width height (settled width_of v).state.modes s.state.modes }; held = spelled_nil }
event_spelled width_of v (Forgot number) h k p q = p

-- ---- sizes

pub settled_size : (width_of : List ℕ → ℕ) (v : View) → IsView width_of v → HasSize (settled width_of v).state.screen v.state.screen
settled_size width_of v h =
    let d = display_on_is v.state.screen h.lawful.lawful h.lawful.whole in
    turned_size width_of (changes_in (run_logged width_of v)) v.state.screen (settled width_of v).state.screen d (event_turns width_of v Looked (display_on v.state.screen) h tt d refl).screen

-- ---- the steps that are logged

-- a change that is logged has an encoding
abbrev pub IsEncoded : ℕ → ℕ → LogStep → Type 0
IsEncoded width tall (Logged change) = HasEncoding width tall change
IsEncoded width tall (log.Forgotten number) = ⊤
IsEncoded width tall (log.Resized most) = ⊤

abbrev pub AreEncoded : ℕ → ℕ → List LogStep → Type 0
AreEncoded width tall = AllByRecursion (IsEncoded width tall)

logged_encoded : (width tall : ℕ) (cs : List ChangeValue) → HaveEncodings width tall cs → AreEncoded width tall (map Logged cs)
logged_encoded width tall [] h = tt
logged_encoded width tall (c ∷ cs) h = (h.0, logged_encoded width tall cs h.1)

encoded_have : (width tall : ℕ) (steps : List LogStep) → AreEncoded width tall steps → HaveEncodings width tall (changes_in steps)
encoded_have width tall [] h = tt
encoded_have width tall (Logged change ∷ steps) h = (h.0, encoded_have width tall steps h.1)
encoded_have width tall (log.Forgotten number ∷ steps) h = encoded_have width tall steps h.1
encoded_have width tall (log.Resized most ∷ steps) h = encoded_have width tall steps h.1

run_encoded : (width_of : List ℕ → ℕ) (v : View) → IsView width_of v → IsSpelledView v → AreEncoded v.state.screen.width (height v.state.screen) (run_logged width_of v)
run_encoded width_of v h p = cond_both (length v.held == 0) _ _ (AreEncoded v.state.screen.width (height v.state.screen)) (λ e. tt)
    (λ e. logged_encoded v.state.screen.width (height v.state.screen) (run_changes_of width_of v.held v.state) (run_has width_of v.held v.state h.lawful h.plain p.held p.state.screen))

-- at the size of the screen before the event
pub event_encoded : (width_of : List ℕ → ℕ) (v : View) (event : Event) → IsView width_of v → IsSpelledView v → IsSpelledEvent event → AreEncoded v.state.screen.width (height v.state.screen) (event_logged width_of v event)
event_encoded width_of v (Act action) h p q =
    let encoded = IsEncoded v.state.screen.width (height v.state.screen) in
    let own = settled width_of v in
    let changes = acted_changes width_of action own.state in
    let has = actions_have_encodings width_of action own.state (settled_is width_of v h).lawful (settled_spelled width_of v h p).state q.1 in
    cond_both (is_print action) [] (run_logged width_of v ++ map Logged changes) (AreEncoded v.state.screen.width (height v.state.screen)) (λ e. tt)
    (λ e.
    all_joined encoded (run_logged width_of v) (map Logged changes) (run_encoded width_of v h p)
    (logged_encoded v.state.screen.width (height v.state.screen) changes (moved_has own.state.screen v.state.screen changes (settled_size width_of v h) has)))
event_encoded width_of v Looked h p q = run_encoded width_of v h p
event_encoded width_of v (Resized width tall) h p q =
    all_joined (IsEncoded v.state.screen.width (height v.state.screen)) (run_logged width_of v) (log.Resized (most_due width tall) ∷ []) (run_encoded width_of v h p) (tt, tt)
event_encoded width_of v (Forgot number) h p q = (tt, tt)

pub event_has : (width_of : List ℕ → ℕ) (v : View) (event : Event) → IsView width_of v → IsSpelledView v → IsSpelledEvent event → HaveEncodings v.state.screen.width (height v.state.screen) (changes_in (event_logged width_of v event))
event_has width_of v event h p q = encoded_have v.state.screen.width (height v.state.screen) (event_logged width_of v event) (event_encoded width_of v event h p q)
