-- A terminal that drops its replies, and forgets changes before a number, answers from that number on as one that keeps all.
use Rattle.std.proofs.Common.{◌≡◌, ◌≢◌, ◌⊎◌, inl, inr, ℕ, suc, ◌+◌, ◌-◌, ◌≤◌, ◌<◌, Bool, true, false, List, [], ◌∷◌, ◌++◌, length, drop, map, fold, refl, sym, ap, subst, ◌∙◌, arith, append-nil}
use Rattle.std.specs.Prelude.{◌==◌, ◌||◌, nat_lt, Option, Some, None, option_map, if◌then◌else◌}
use Rattle.std.specs.Option.{option_map}
use Rattle.std.proofs.lemmas.Bool.Decides.{eqb_tells, leb_tells, nat_tests}
use Rattle.cell_base.specs.Screen.{height}
use Rattle.screen_change.specs.ChangeValue.{ChangeValue}
use Rattle.screen_log.specs.Log.{Log, first_number, forgotten, due}
use Rattle.screen_log.specs.LogSteps as log
use Rattle.screen_log.specs.LogSteps.{LogStep, Logged, Sized, step_of_kept}
use Rattle.screen_log.proofs.DueLemmas.{due_forgotten, due_later, nothing_newer}
use Rattle.escape_stream.specs.StreamAction.{StreamAction, is_print}
use Rattle.escape_stream.specs.StreamActions.{newly_decided_actions}
use Rattle.screen_effects.specs.Resize.{resized_screen}
use Rattle.terminal_render.specs.Lists.{all_rendered}
use Rattle.terminal_table.specs.History.{History, Piece, Look, Resize, Forget, pieces, Event, Act, Looked, Resized, Forgot, events}
use Rattle.terminal_table.specs.Logged.{run_logged, event_logged, events_logged, logged, log_after}
use Rattle.terminal_table.specs.Meaning.{View, settled, event_done, after}
use Rattle.terminal_table.specs.Modes.{resized_modes}
use Rattle.terminal_table.specs.Request.{Request, Table, Xterm, Sets, SetsAlone, Switches, Repeats, Aligns, Replies, Nothing}
use Rattle.terminal_table.specs.Requests.{acted, acted_changes, request_changes, request_done, request_of, without_last}
use Rattle.terminal_table.specs.State.{State}
use Rattle.terminal_table.specs.Runs.{run_step}
use Rattle.terminal_viewers.specs.Update.{bytes_of, due_or, painted_anew, update_of}
use Rattle.terminal_viewers.specs.Updates.{Standing, standing_after}
use Rattle.terminal_viewers.specs.Viewers.{AnswersAs, AreAlike, AreFed, SameIsDue}
use Rattle.terminal_viewers.proofs.DueLemmas.{AreChanges, changes-append, none_due, step_reaches}
use Rattle.terminal_viewers.proofs.ShowLemmas.{action_changes, run_changes}

-- ---- views

abbrev pub with_replies : List ℕ → View → View
with_replies replies v = record v { state = record v.state { replies = replies } }

pub alike_itself : (v : View) → AreAlike v v
alike_itself v = record { screen = refl; saved = refl; modes = refl; stream = refl; held = refl }

same_as : (a b : View) → AreAlike a b → a ≡ with_replies a.state.replies b
same_as a b h = λ i. record { state = record { screen = h.screen i; saved = h.saved i; replies = a.state.replies; modes = h.modes i }; stream = h.stream i; held = h.held i }

module _ (width_of : List ℕ → ℕ) where
  settled_with : (replies : List ℕ) (v : View) → settled width_of (with_replies replies v) ≡ with_replies replies (settled width_of v)
  settled_with replies v = by_test (length v.held == 0)
    where
      by_test : (b : Bool) → record v { state = if b then record v.state { replies = replies } else run_step width_of v.held (record v.state { replies = replies }); held = [] }
          ≡ record v { state = record (if b then v.state else run_step width_of v.held v.state) { replies = replies }; held = [] }
      by_test true = refl
      by_test false = refl

  step_with : (request : Option Request) (replies : List ℕ) (v : View)
      → AreAlike (record (with_replies replies v) { state = without_last (request_done width_of request (with_replies replies v).state) }) (record v { state = without_last (request_done width_of request v.state) })
  step_with None replies v = record { screen = refl; saved = refl; modes = refl; stream = refl; held = refl }
  step_with (Some (Table function)) replies v = record { screen = refl; saved = refl; modes = refl; stream = refl; held = refl }
  step_with (Some (Xterm function)) replies v = record { screen = refl; saved = refl; modes = refl; stream = refl; held = refl }
  step_with (Some (Sets setting function)) replies v = record { screen = refl; saved = refl; modes = refl; stream = refl; held = refl }
  step_with (Some (SetsAlone setting)) replies v = record { screen = refl; saved = refl; modes = refl; stream = refl; held = refl }
  step_with (Some (Switches function)) replies v = record { screen = refl; saved = refl; modes = refl; stream = refl; held = refl }
  step_with (Some (Repeats count)) replies v = record { screen = refl; saved = refl; modes = refl; stream = refl; held = refl }
  step_with (Some Aligns) replies v = record { screen = refl; saved = refl; modes = refl; stream = refl; held = refl }
  step_with (Some (Replies text)) replies v = record { screen = refl; saved = refl; modes = refl; stream = refl; held = refl }
  step_with (Some Nothing) replies v = record { screen = refl; saved = refl; modes = refl; stream = refl; held = refl }

  done_with : (replies : List ℕ) (v : View) (event : Event) → AreAlike (event_done width_of (with_replies replies v) event) (event_done width_of v event)
  done_with replies v (Act action) = by_test (is_print action) refl
    where
      by_test : (b : Bool) → is_print action ≡ b → AreAlike (event_done width_of (with_replies replies v) (Act action)) (event_done width_of v (Act action))
      by_test true e = rw e (record { screen = refl; saved = refl; modes = refl; stream = refl; held = refl })
      by_test false e = rw e (subst (λ (x : View). AreAlike (record x { state = acted width_of action x.state }) (record (settled width_of v) { state = acted width_of action (settled width_of v).state }))
          (sym (settled_with replies v)) (step_with (request_of (settled width_of v).state.modes (settled width_of v).state.screen action) replies (settled width_of v)))
  done_with replies v Looked = subst (λ (x : View). AreAlike x (settled width_of v)) (sym (settled_with replies v)) (record { screen = refl; saved = refl; modes = refl; stream = refl; held = refl })
  done_with replies v (Resized width tall) = let s = settled_with replies v in record {
    screen = ap (λ (x : View). resized_screen width tall x.state.screen) s;
    saved = ap (λ (x : View). x.state.saved) s;
    modes = ap (λ (x : View). option_map (resized_modes width tall) x.state.modes) s;
    stream = refl;
    held = refl;
  }
  done_with replies v (Forgot number) = record { screen = refl; saved = refl; modes = refl; stream = refl; held = refl }

  changes_with : (request : Option Request) (replies : List ℕ) (state : State) → request_changes width_of request (record state { replies = replies }) ≡ request_changes width_of request state
  changes_with None replies state = refl
  changes_with (Some (Table function)) replies state = refl
  changes_with (Some (Xterm function)) replies state = refl
  changes_with (Some (Sets setting function)) replies state = refl
  changes_with (Some (SetsAlone setting)) replies state = refl
  changes_with (Some (Switches function)) replies state = refl
  changes_with (Some (Repeats count)) replies state = refl
  changes_with (Some Aligns) replies state = refl
  changes_with (Some (Replies text)) replies state = refl
  changes_with (Some Nothing) replies state = refl

  logged_with : (replies : List ℕ) (v : View) (event : Event) → event_logged width_of (with_replies replies v) event ≡ event_logged width_of v event
  logged_with replies v (Act action) =
      ap (λ (cs : List ChangeValue). if is_print action then [] else run_logged width_of v ++ map Logged cs)
      (ap (λ (x : View). acted_changes width_of action x.state) (settled_with replies v) ∙ changes_with (request_of (settled width_of v).state.modes (settled width_of v).state.screen action) replies (settled width_of v).state)
  logged_with replies v Looked = refl
  logged_with replies v (Resized width tall) = refl
  logged_with replies v (Forgot number) = refl

  -- views that are alike stay alike after the same events, and log the same steps
  event_alike : (a b : View) (event : Event) → AreAlike a b → AreAlike (event_done width_of a event) (event_done width_of b event)
  event_alike a b event h = subst (λ (x : View). AreAlike (event_done width_of x event) (event_done width_of b event)) (sym (same_as a b h)) (done_with a.state.replies b event)

  event_logs : (a b : View) (event : Event) → AreAlike a b → event_logged width_of a event ≡ event_logged width_of b event
  event_logs a b event h = ap (λ (x : View). event_logged width_of x event) (same_as a b h) ∙ logged_with a.state.replies b event

  events_alike : (es : List Event) (a b : View) → AreAlike a b → AreAlike (fold (event_done width_of) a es) (fold (event_done width_of) b es)
  events_alike [] a b h = h
  events_alike (event ∷ es) a b h = events_alike es (event_done width_of a event) (event_done width_of b event) (event_alike a b event h)

  events_log : (es : List Event) (a b : View) → AreAlike a b → events_logged width_of a es ≡ events_logged width_of b es
  events_log [] a b h = refl
  events_log (event ∷ es) a b h = λ i. event_logs a b event h i ++ events_log es (event_done width_of a event) (event_done width_of b event) (event_alike a b event h) i

  pub after_alike : (history : History) (a b : View) → AreAlike a b → AreAlike (after width_of a history) (after width_of b history)
  after_alike history a b h =
      let all = events_alike (events b.stream history) a b h in
      record {
        screen = ap (λ s. (fold (event_done width_of) a (events s history)).state.screen) h.stream ∙ all.screen;
        saved = ap (λ s. (fold (event_done width_of) a (events s history)).state.saved) h.stream ∙ all.saved;
        modes = ap (λ s. (fold (event_done width_of) a (events s history)).state.modes) h.stream ∙ all.modes;
        stream = ap (λ s. s ++ pieces history) h.stream;
        held = ap (λ s. (fold (event_done width_of) a (events s history)).held) h.stream ∙ all.held;
      }

  pub logged_alike : (history : History) (a b : View) → AreAlike a b → logged width_of a history ≡ logged width_of b history
  logged_alike history a b h = ap (λ s. events_logged width_of a (events s history)) h.stream ∙ events_log (events b.stream history) a b h

  -- ---- bytes that are fed log changes alone

  acts_change : (actions : List StreamAction) (es : List Event) (v : View) → ((v : View) → AreChanges (events_logged width_of v es)) → AreChanges (events_logged width_of v (map Act actions ++ es))
  acts_change [] es v h = h v
  acts_change (action ∷ actions) es v h =
      changes-append (event_logged width_of v (Act action)) (events_logged width_of (event_done width_of v (Act action)) (map Act actions ++ es)) (action_changes width_of v action) (acts_change actions es (event_done width_of v (Act action)) h)

  events_change : (stream : List ℕ) (history : History) → AreFed history → (v : View) → AreChanges (events_logged width_of v (events stream history))
  events_change stream [] f v = tt
  events_change stream (Piece bytes ∷ history) f v = acts_change (newly_decided_actions stream bytes) (events (stream ++ bytes) history) v (events_change (stream ++ bytes) history f)
  events_change stream (Look ∷ history) f v =
      changes-append (run_logged width_of v) (events_logged width_of (settled width_of v) (events stream history)) (run_changes width_of v) (events_change stream history f (settled width_of v))
  events_change stream (Resize width tall ∷ history) f v = absurd f
  events_change stream (Forget number ∷ history) f v = absurd f

-- ---- logs

pub due_itself : (number : ℕ) (s : Sized) → length s.log.entries ≤ s.log.number → SameIsDue number s s
due_itself number s h = record { most = refl; count = refl; one_counted = h; other_counted = h; same = λ n l. refl }

-- The list due from `n` after one more change: `None` above the new number, empty at it; below it the earlier list and the change, if at most `most`.
abbrev due_next : Bool → Bool → ℕ → ℕ → ChangeValue → ℕ → Option (List ChangeValue) → Option (List ChangeValue)
due_next is_past is_new most count change n before =
    if is_past then (if is_new then Some [] else None)
    else (if nat_lt most (count + 1 - n) then None else option_map (λ (cs : List ChangeValue). cs ++ change ∷ []) before)

abbrev due_more : ℕ → ℕ → ChangeValue → ℕ → Option (List ChangeValue) → Option (List ChangeValue)
due_more most count change n before = due_next (nat_lt count n) (n == count + 1) most count change n before

above : (a b c d : Bool) → c ≡ true → (a || b || c || d) ≡ true
above true b c d e = refl
above false true c d e = refl
above false false c d e = rw e refl

next_is : (s : Sized) (change : ChangeValue) (n : ℕ) → length s.log.entries ≤ s.log.number → due s.most (step_of_kept s (Logged change)).log n ≡ due_more s.most s.log.number change n (due s.most s.log n)
next_is s change n h = by_position (leb_tells (suc s.log.number) n) (eqb_tells n (s.log.number + 1))
  where
    later : Log
    later = (step_of_kept s (Logged change)).log

    next : Bool → Bool → Option (List ChangeValue)
    next is_past is_new = due_next is_past is_new s.most s.log.number change n (due s.most s.log n)

    by_position : ((nat_lt s.log.number n ≡ true) × (suc s.log.number ≤ n)) ⊎ ((nat_lt s.log.number n ≡ false) × (n < suc s.log.number))
        → (((n == s.log.number + 1) ≡ true) × (n ≡ s.log.number + 1)) ⊎ (((n == s.log.number + 1) ≡ false) × (n ≢ s.log.number + 1))
        → due s.most later n ≡ next (nat_lt s.log.number n) (n == s.log.number + 1)
    by_position (inr p) e = due_later s.most s.log change n h (let k = p.1 in omega arith) ∙ ap (λ b. next b (n == s.log.number + 1)) (sym p.0)
    by_position (inl p) (inl e) = ap (due s.most later) e.1 ∙ nothing_newer s.most s.log change h ∙ (λ i. next (sym p.0 i) (sym e.0 i))
    by_position (inl p) (inr e) = let k = p.1 in let m = e.1 in
        let past : nat_lt later.number n ≡ true = grind (arith, nat_tests) in
        none_due s.most later n (above (n == 0) (nat_lt n (first_number later)) (nat_lt later.number n) (nat_lt s.most (later.number - n)) past) ∙ (λ i. next (sym p.0 i) (sym e.0 i))

logged_same : (number : ℕ) (a b : Sized) (change : ChangeValue) → SameIsDue number a b → SameIsDue number (step_of_kept a (Logged change)) (step_of_kept b (Logged change))
logged_same number a b change h = record {
  most = h.most;
  count = ap (λ n. n + 1) h.count;
  one_counted = (step_reaches 0 (Logged change) a (record { counted = h.one_counted; reached = omega arith })).counted;
  other_counted = (step_reaches 0 (Logged change) b (record { counted = h.other_counted; reached = omega arith })).counted;
  same = λ n l. next_is a change n h.one_counted ∙ (λ i. due_more (h.most i) (h.count i) change n (h.same n l i)) ∙ sym (next_is b change n h.other_counted);
}

steps_same : (number : ℕ) (steps : List LogStep) (a b : Sized) → AreChanges steps → SameIsDue number a b → SameIsDue number (fold step_of_kept a steps) (fold step_of_kept b steps)
steps_same number [] a b c h = h
steps_same number (Logged change ∷ steps) a b c h = steps_same number steps (step_of_kept a (Logged change)) (step_of_kept b (Logged change)) c (logged_same number a b change h)
steps_same number (log.Forgotten before ∷ steps) a b c h = absurd c
steps_same number (log.Resized most ∷ steps) a b c h = absurd c

forgotten_number : (before : ℕ) (l : Log) → (forgotten before l).number ≡ l.number
forgotten_number before l = by_test (nat_lt l.number before)
  where
    by_test : (b : Bool) → (if b then l else record l { entries = drop (before - first_number l) l.entries }).number ≡ l.number
    by_test true = refl
    by_test false = refl

pub forgotten_same : (number later : ℕ) (a b : Sized) → number ≤ later → SameIsDue number a b → SameIsDue later (step_of_kept a (log.Forgotten later)) b
forgotten_same number later a b l h = record {
  most = h.most;
  count = forgotten_number later a.log ∙ h.count;
  one_counted = (step_reaches 0 (log.Forgotten later) a (record { counted = h.one_counted; reached = omega arith })).counted;
  other_counted = h.other_counted;
  same = λ n m. due_forgotten a.most a.log later n h.one_counted m ∙ h.same n (omega arith);
}

-- ---- terminals

pub answers_itself : (number : ℕ) (s : Standing) → length s.log.log.entries ≤ s.log.log.number → AnswersAs number s s
answers_itself number s h = record { views = alike_itself s.view; logs = due_itself number s.log h }

-- they answer alike after bytes are fed and looks taken
pub answers_after : (width_of : List ℕ → ℕ) (number : ℕ) (kept whole : Standing) (history : History) → AreFed history → AnswersAs number kept whole → AnswersAs number (standing_after width_of kept history) (standing_after width_of whole history)
answers_after width_of number kept whole history f h = record {
  views = after_alike width_of history kept.view whole.view h.views;
  logs = subst (λ steps. SameIsDue number (fold step_of_kept kept.log steps) (log_after width_of whole.view whole.log history)) (sym (logged_alike width_of history kept.view whole.view h.views))
      (steps_same number (logged width_of whole.view history) kept.log whole.log (events_change width_of whole.view.stream history f whole.view) h.logs);
}

-- they answer alike after the replies of one are taken
pub answers_with_replies : (number : ℕ) (kept whole : Standing) (replies : List ℕ) → AnswersAs number kept whole → AnswersAs number (record kept { view = with_replies replies kept.view }) whole
answers_with_replies number kept whole replies h = record { views = record { screen = h.views.screen; saved = h.views.saved; modes = h.views.modes; stream = h.views.stream; held = h.views.held }; logs = h.logs }

-- they answer alike, from a later number on, after one forgets the changes before that number
pub answers_after_forget : (width_of : List ℕ → ℕ) (number later : ℕ) (kept whole : Standing) → number ≤ later → AnswersAs number kept whole → AnswersAs later (standing_after width_of kept (Forget later ∷ [])) whole
answers_after_forget width_of number later kept whole l h = record {
  views = record { screen = h.views.screen; saved = h.views.saved; modes = h.views.modes; stream = append-nil kept.view.stream ∙ h.views.stream; held = h.views.held };
  logs = forgotten_same number later kept.log whole.log l h.logs;
}

-- so both have the same updates from the number on
pub answers_alike : (number : ℕ) (kept whole : Standing) → AnswersAs number kept whole → (n : ℕ) → number ≤ n → update_of kept.view.state.screen kept.log n ≡ update_of whole.view.state.screen whole.log n
answers_alike number kept whole h n l =
    λ i. let screen = h.views.screen i in bytes_of (all_rendered (due_or (painted_anew screen) (h.logs.same n l i)) screen.width (height screen))
