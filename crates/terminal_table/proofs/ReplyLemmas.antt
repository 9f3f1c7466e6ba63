-- Replies that are taken change nothing else; and steps that end no run.
use Rattle.std.proofs.Common.{◌≡◌, ℕ, Bool, true, false, List, [], ◌∷◌, ◌++◌, length, map, fold, refl, sym, ap, ◌∙◌, append_assoc, append-nil}
use Rattle.std.specs.Prelude.{◌==◌, Option, Some, None, option_map, if◌then◌else◌}
use Rattle.cell_base.specs.Screen.{Screen}
use Rattle.screen_change.specs.ChangeValue.{ChangeValue}
use Rattle.screen_log.specs.LogSteps.{LogStep, Logged}
use Rattle.escape_stream.specs.StreamAction.{StreamAction, is_print}
use Rattle.escape_stream.specs.StreamActions.{newly_decided_actions}
use Rattle.terminal_table.specs.Functions.{ControlFunction, Moves, LineFeed, CarriageReturn, NextRow, ReverseIndex, EraseToEndOfDisplay, EraseDisplay, EraseToEndOfLine, EraseLine, ScrollUp, ScrollDown, Rendition, Hyperlink, Title, ShowCursor, SaveCursor, RestoreCursor, FullReset, ReportStatus, ReportPosition}
use Rattle.terminal_table.specs.History.{History, Piece, Forget, pieces, Event, Act, Looked, Resized, Forgot, events}
use Rattle.terminal_table.specs.Logged.{run_logged, event_logged, events_logged, logged}
use Rattle.terminal_table.specs.Meaning.{View, settled, event_done, after, with_size}
use Rattle.terminal_table.specs.Replies.{with_taken, without_replies}
use Rattle.terminal_table.specs.Request.{Request, Table, Xterm, Sets, SetsAlone, Switches, Repeats, Aligns, Replies, Nothing, modes_set}
use Rattle.terminal_table.specs.Requests.{acted, acted_changes, request_changes, request_done, request_of, without_last}
use Rattle.terminal_table.specs.Runs.{run_step}
use Rattle.terminal_table.specs.State.{State}
use Rattle.terminal_table.specs.Steps.{reply_step, status_reply, position_reply, step}
use Rattle.terminal_table.proofs.JoinLemmas.{after_joins, nothing_after, with_stream}

reply_after : (function : ControlFunction) (taken replies : List ℕ) (screen : Screen) → reply_step function (taken ++ replies) screen ≡ taken ++ reply_step function replies screen
reply_after (Moves move) taken replies screen = refl
reply_after LineFeed taken replies screen = refl
reply_after CarriageReturn taken replies screen = refl
reply_after NextRow taken replies screen = refl
reply_after ReverseIndex taken replies screen = refl
reply_after EraseToEndOfDisplay taken replies screen = refl
reply_after EraseDisplay taken replies screen = refl
reply_after EraseToEndOfLine taken replies screen = refl
reply_after EraseLine taken replies screen = refl
reply_after (ScrollUp n) taken replies screen = refl
reply_after (ScrollDown n) taken replies screen = refl
reply_after (Rendition value) taken replies screen = refl
reply_after (Hyperlink link) taken replies screen = refl
reply_after (Title text) taken replies screen = refl
reply_after (ShowCursor shown) taken replies screen = refl
reply_after SaveCursor taken replies screen = refl
reply_after RestoreCursor taken replies screen = refl
reply_after FullReset taken replies screen = refl
reply_after ReportStatus taken replies screen = append_assoc taken replies status_reply
reply_after ReportPosition taken replies screen = append_assoc taken replies (position_reply screen)

abbrev with_prefix : List ℕ → State → State
with_prefix taken state = record state { replies = taken ++ state.replies }

module _ (width_of : List ℕ → ℕ) (taken : List ℕ) where
  settled_with : (v : View) → settled width_of (with_taken taken v) ≡ with_taken taken (settled width_of v)
  settled_with v = by_test (length v.held == 0)
    where
      by_test : (b : Bool) → record v { state = if b then with_prefix taken v.state else run_step width_of v.held (with_prefix taken v.state); held = [] }
          ≡ record v { state = with_prefix taken (if b then v.state else run_step width_of v.held v.state); held = [] }
      by_test true = refl
      by_test false = refl

  step_with : (request : Option Request) (state : State) → request_done width_of request (with_prefix taken state) ≡ with_prefix taken (request_done width_of request state)
  step_with None state = refl
  step_with (Some (Table function)) state = λ i. record (step function state) { replies = reply_after function taken state.replies state.screen i }
  step_with (Some (Xterm function)) state = refl
  step_with (Some (Sets setting function)) state = λ i. record (step function state) { replies = reply_after function taken state.replies state.screen i; modes = option_map (modes_set setting) state.modes }
  step_with (Some (SetsAlone setting)) state = refl
  step_with (Some (Switches function)) state = refl
  step_with (Some (Repeats count)) state = refl
  step_with (Some Aligns) state = refl
  step_with (Some Nothing) state = refl
  step_with (Some (Replies text)) state = λ i. record state { replies = append_assoc taken state.replies text i }

  changes_with : (request : Option Request) (state : State) → request_changes width_of request (with_prefix taken state) ≡ request_changes width_of request state
  changes_with None state = refl
  changes_with (Some (Table function)) state = refl
  changes_with (Some (Xterm function)) state = refl
  changes_with (Some (Sets setting function)) state = refl
  changes_with (Some (SetsAlone setting)) state = refl
  changes_with (Some (Switches function)) state = refl
  changes_with (Some (Repeats count)) state = refl
  changes_with (Some Aligns) state = refl
  changes_with (Some Nothing) state = refl
  changes_with (Some (Replies text)) state = refl

  done_with : (v : View) (event : Event) → event_done width_of (with_taken taken v) event ≡ with_taken taken (event_done width_of v event)
  done_with v (Act action) = by_test (is_print action) refl
    where
      by_test : (b : Bool) → is_print action ≡ b → event_done width_of (with_taken taken v) (Act action) ≡ with_taken taken (event_done width_of v (Act action))
      by_test true e = rw e refl
      by_test false e = rw e (ap (λ (x : View). record x { state = acted width_of action x.state }) (settled_with v)
          ∙ ap (λ (s : State). record (settled width_of v) { state = without_last s }) (step_with (request_of (settled width_of v).state.modes (settled width_of v).state.screen action) (settled width_of v).state))
  done_with v Looked = settled_with v
  done_with v (Resized width tall) = ap (λ (x : View). record x { state = with_size width tall x.state }) (settled_with v)
  done_with v (Forgot number) = refl

  all_done_with : (es : List Event) (v : View) → fold (event_done width_of) (with_taken taken v) es ≡ with_taken taken (fold (event_done width_of) v es)
  all_done_with [] v = refl
  all_done_with (e ∷ es) v = ap (λ x. fold (event_done width_of) x es) (done_with v e) ∙ all_done_with es (event_done width_of v e)

  one_logged_with : (v : View) (event : Event) → event_logged width_of (with_taken taken v) event ≡ event_logged width_of v event
  one_logged_with v (Act action) =
      ap (λ (cs : List ChangeValue). if is_print action then [] else run_logged width_of v ++ map Logged cs)
      (ap (λ (x : View). acted_changes width_of action x.state) (settled_with v) ∙ changes_with (request_of (settled width_of v).state.modes (settled width_of v).state.screen action) (settled width_of v).state)
  one_logged_with v Looked = refl
  one_logged_with v (Resized width tall) = refl
  one_logged_with v (Forgot number) = refl

  all_logged_with : (es : List Event) (v : View) → events_logged width_of (with_taken taken v) es ≡ events_logged width_of v es
  all_logged_with [] v = refl
  all_logged_with (e ∷ es) v =
      ap (λ (steps : List LogStep). event_logged width_of (with_taken taken v) e ++ steps) (ap (λ x. events_logged width_of x es) (done_with v e) ∙ all_logged_with es (event_done width_of v e))
      ∙ ap (λ (steps : List LogStep). steps ++ events_logged width_of (event_done width_of v e) es) (one_logged_with v e)

  pub after_with : (v : View) (history : History) → after width_of (with_taken taken v) history ≡ with_taken taken (after width_of v history)
  after_with v history = ap (with_stream (v.stream ++ pieces history)) (all_done_with (events v.stream history) v)

  pub logged_with_taken : (v : View) (history : History) → logged width_of (with_taken taken v) history ≡ logged width_of v history
  logged_with_taken v history = all_logged_with (events v.stream history) v

together : (v : View) → with_taken v.state.replies (without_replies v) ≡ v
together v = λ i. record v { state = record v.state { replies = append-nil v.state.replies i } }

pub after_separate : (width_of : List ℕ → ℕ) (v : View) (history : History) → after width_of v history ≡ with_taken v.state.replies (after width_of (without_replies v) history)
after_separate width_of v history = ap (λ x. after width_of x history) (sym (together v)) ∙ after_with width_of v.state.replies (without_replies v) history

pub logged_separate : (width_of : List ℕ → ℕ) (v : View) (history : History) → logged width_of (without_replies v) history ≡ logged width_of v history
logged_separate width_of v history = sym (logged_with_taken width_of v.state.replies (without_replies v) history) ∙ ap (λ x. logged width_of x history) (together v)

-- ---- steps that end no run

pub forgets_separate : (width_of : List ℕ → ℕ) (v : View) (first second : History) (number : ℕ) → after width_of v (first ++ (Forget number ∷ second)) ≡ after width_of v (first ++ second)
forgets_separate width_of v first second number = after_joins width_of v first (Forget number ∷ second) ∙ sym (after_joins width_of v first second)

pub nothing_decided : (width_of : List ℕ → ℕ) (v : View) (bytes : List ℕ) → newly_decided_actions v.stream bytes ≡ [] → after width_of v (Piece bytes ∷ []) ≡ with_stream (v.stream ++ bytes) v
nothing_decided width_of v bytes none =
    ap (λ (actions : List StreamAction). with_stream (v.stream ++ (bytes ++ [])) (fold (event_done width_of) v (map Act actions ++ []))) none
    ∙ ap (λ (xs : List ℕ). with_stream (v.stream ++ xs) v) (nothing_after bytes)
