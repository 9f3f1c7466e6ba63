-- The text of one action, fed where nothing is unfinished and no run is held.
use Rattle.std.proofs.Common.{◌≡◌, ◌≢◌, ℕ, Bool, true, false, List, [], ◌∷◌, ◌++◌, length, map, fold, refl, ap, ◌∙◌, arith}
use Rattle.std.specs.Prelude.{◌==◌, Option, encode_utf8, if◌then◌else◌}
use Rattle.std.specs.Str.{chars}
use Rattle.std.proofs.lemmas.Bool.Decides.{nat_tests}
use Rattle.std.proofs.lemmas.Str.{encodes-chars}
use Rattle.std.proofs.lemmas.List.Sums.{fold-append}
use Rattle.screen_log.specs.LogSteps.{LogStep, Logged}
use Rattle.escape_framing.specs.Cut.{tail_of}
use Rattle.escape_framing.specs.Held.{held_of, nothing_held}
use Rattle.escape_framing.specs.Segment.{Begun}
use Rattle.escape_stream.specs.StreamAction.{StreamAction, print, print_string, control, enter, data_byte, exit, command, csi, esc}
use Rattle.escape_stream.specs.StreamText.{stream_text}
use Rattle.escape_stream.specs.StreamWritable.{IsWritable, read_form, WritableListsReadOn, WritableListsEndOn}
use Rattle.unicode_segmentation.proofs.TextLemmas.{encode_utf8_nonempty}
use Rattle.terminal_table.specs.Alone.{IsIdle, alone, row_done, row_logged}
use Rattle.terminal_table.specs.History.{Event, Act, Looked, events}
use Rattle.terminal_table.specs.Logged.{events_logged, logged}
use Rattle.terminal_table.specs.Meaning.{View, event_done, after}
use Rattle.terminal_table.specs.Request.{Request}
use Rattle.terminal_table.specs.Modes.{Modes, with_last}
use Rattle.terminal_table.specs.Requests.{request_changes, request_done, request_of, without_last}
use Rattle.terminal_table.specs.Runs.{run_changes_of, run_step}
use Rattle.terminal_table.specs.State.{State}
use Rattle.terminal_table.proofs.JoinLemmas.{nothing_after}
use Rattle.terminal_table.proofs.ListLemmas.{append_nil}
use Rattle.terminal_table.proofs.RequestLemmas.{terminator_nothing, twice}
use Rattle.terminal_table.proofs.TextLemmas.{prints, with_text, text_logged}

no_more : (actions : List StreamAction) → actions ++ [] ≡ actions
no_more [] = refl
no_more (a ∷ actions) = ap (λ xs. a ∷ xs) (no_more actions)

-- nothing is held
abbrev at : State → List ℕ → View
at state stream = record { state = state; stream = stream; held = [] }

-- the events of the action's text, and the look
abbrev read_events : StreamAction → List Event
read_events action = map Act (read_form (action ∷ [])) ++ Looked ∷ []

some : (n : ℕ) → (n ≡ 0 → ⊥) → (n == 0) ≡ false
some n h = by_test (n == 0) refl
  where
    by_test : (x : Bool) → (n == 0) ≡ x → (n == 0) ≡ false
    by_test true e = absurd (h (grind (arith, nat_tests)))
    by_test false e = e

is_some : (text : List ℕ) → text ≢ [] → (length text == 0) ≡ false
is_some [] h = absurd (h refl)
is_some (c ∷ text) h = some (length (c ∷ text)) (λ e. omega (arith, e))

some_bytes : (c : ℕ) → (length (encode_utf8 c) == 0) ≡ false
some_bytes c = let h = encode_utf8_nonempty c in some (length (encode_utf8 c)) (λ e. omega (arith, h, e))

module _ (f : List ℕ → ℕ) (state : State) (stream : List ℕ) where
  -- a run that ends
  ended : (text : List ℕ) → (length text == 0) ≡ false → fold (event_done f) (record (at state stream) { held = text }) (Looked ∷ []) ≡ at (run_step f text state) stream
  ended text h = λ i. record (at state stream) { state = if h i then state else run_step f text state }

  ended_logged : (text : List ℕ) → (length text == 0) ≡ false → events_logged f (record (at state stream) { held = text }) (Looked ∷ []) ≡ map Logged (run_changes_of f text state)
  ended_logged text h = (λ i. (if h i then [] else map Logged (run_changes_of f text state)) ++ []) ∙ append_nil (map Logged (run_changes_of f text state))

  row_is : (action : StreamAction) → IsWritable (action ∷ []) → fold (event_done f) (at state stream) (read_events action) ≡ at (row_done f action state) stream
  unfolding Rattle.terminal_table.specs.Functions.function_of
  row_is (print character) w = ended (encode_utf8 character) (some_bytes character)
  row_is (print_string text) w =
      ap (λ es. fold (event_done f) (at state stream) (map Act es ++ Looked ∷ [])) (no_more (map print (chars text)))
      ∙ fold-append (event_done f) (at state stream) (prints (chars text)) (Looked ∷ [])
      ∙ ap (λ v. fold (event_done f) v (Looked ∷ [])) (with_text f (at state stream) (chars text))
      ∙ ap (λ t. fold (event_done f) (record (at state stream) { held = t }) (Looked ∷ [])) (encodes-chars text w.0.utf8)
      ∙ ended text (is_some text w.0.some)
  row_is (control number) w = refl
  row_is (enter header byte) w = absurd w.1
  row_is (data_byte byte) w = absurd w.0
  row_is exit w = absurd w.0
  row_is (command c) w =
      let s : State = row_done f (command c) state in
      ap (λ (request : Option Request). at (without_last (request_done f request s)) stream) (terminator_nothing s) ∙ ap (λ (t : State). at t stream) (twice (request_done f (request_of state.modes state.screen (command c)) state))
  row_is (csi a) w = refl
  row_is (esc e) w = refl

  row_logged_is : (action : StreamAction) → IsWritable (action ∷ []) → events_logged f (at state stream) (read_events action) ≡ row_logged f action state
  unfolding Rattle.terminal_table.specs.Functions.function_of
  row_logged_is (print character) w = ended_logged (encode_utf8 character) (some_bytes character)
  row_logged_is (print_string text) w =
      ap (λ es. events_logged f (at state stream) (map Act es ++ Looked ∷ [])) (no_more (map print (chars text)))
      ∙ text_logged f (at state stream) (chars text) (Looked ∷ [])
      ∙ ap (λ t. events_logged f (record (at state stream) { held = t }) (Looked ∷ [])) (encodes-chars text w.0.utf8)
      ∙ ended_logged text (is_some text w.0.some)
  row_logged_is (control number) w = append_nil _
  row_logged_is (enter header byte) w = absurd w.1
  row_logged_is (data_byte byte) w = absurd w.0
  row_logged_is exit w = absurd w.0
  row_logged_is (command c) w =
      let s : State = row_done f (command c) state in
      let own : List LogStep = row_logged f (command c) state in
      ap (λ (request : Option Request). own ++ (map Logged (request_changes f request s) ++ [])) (terminator_nothing s) ∙ append_nil own
  row_logged_is (csi a) w = append_nil _
  row_logged_is (esc e) w = append_nil _

-- ---- on a view

abbrev pub IdleIsWhole : Type 0
IdleIsWhole = (stream : List ℕ) → held_of stream ≡ nothing_held → tail_of stream ≡ Begun []

abbrev pub WholeIsIdle : Type 0
WholeIsIdle = (stream : List ℕ) → tail_of stream ≡ Begun [] → held_of stream ≡ nothing_held

module _ (whole : IdleIsWhole) (reads : WritableListsReadOn) where
  single_events : (view : View) (action : StreamAction) → IsIdle view → IsWritable (action ∷ []) → events view.stream (alone action) ≡ read_events action
  single_events view action idle w = ap (λ actions. map Act actions ++ Looked ∷ []) (reads view.stream (action ∷ []) (whole view.stream idle.stream) w)

  same : (view : View) → IsIdle view → view ≡ at view.state view.stream
  same view idle = λ i. record view { held = idle.run i }

  shown : (f : List ℕ → ℕ) (view : View) (action : StreamAction) → IsIdle view → IsWritable (action ∷ []) → fold (event_done f) view (events view.stream (alone action)) ≡ at (row_done f action view.state) view.stream
  shown f view action idle w =
      ap (fold (event_done f) view) (single_events view action idle w)
      ∙ ap (λ v. fold (event_done f) v (read_events action)) (same view idle)
      ∙ row_is f view.state view.stream action w

  pub single_state : (f : List ℕ → ℕ) (view : View) (action : StreamAction) → IsIdle view → IsWritable (action ∷ []) → (after f view (alone action)).state ≡ row_done f action view.state
  single_state f view action idle w = ap (λ v. v.state) (shown f view action idle w)

  pub single_logged : (f : List ℕ → ℕ) (view : View) (action : StreamAction) → IsIdle view → IsWritable (action ∷ []) → logged f view (alone action) ≡ row_logged f action view.state
  single_logged f view action idle w =
      ap (events_logged f view) (single_events view action idle w)
      ∙ ap (λ v. events_logged f v (read_events action)) (same view idle)
      ∙ row_logged_is f view.state view.stream action w

  pub single_idle : WholeIsIdle → WritableListsEndOn → (f : List ℕ → ℕ) (view : View) (action : StreamAction) → IsIdle view → IsWritable (action ∷ []) → IsIdle (after f view (alone action))
  single_idle is_idle ends f view action idle w = record {
    run = ap (λ v. v.held) (shown f view action idle w);
    stream = ap (λ bytes. held_of (view.stream ++ bytes)) (nothing_after (stream_text (action ∷ []))) ∙ is_idle (view.stream ++ stream_text (action ∷ [])) (ends view.stream (action ∷ []) (whole view.stream idle.stream) w);
  }
