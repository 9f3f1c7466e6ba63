-- A call that takes memory of a terminal takes memory of one that answers alike.
use Rattle.std.proofs.Common.{◌≡◌, ◌⊎◌, inl, inr, ℕ, ◌+◌, ◌<◌, ◌^◌, Bool, true, false, List, [], ◌∷◌, ◌++◌, length, map, fold, refl, sym, ap, subst, ◌∙◌}
use Rattle.std.specs.Prelude.{◌==◌, Option, Some, None, if◌then◌else◌}
use Rattle.std.proofs.lemmas.List.Sums.{fold-append}
use Rattle.screen_log.specs.LogSteps as log
use Rattle.screen_log.specs.LogSteps.{LogStep, Logged, Sized, step_of_kept}
use Rattle.escape_stream.specs.Items.{Item, Text, Single, items, items_of}
use Rattle.escape_stream.specs.StreamAction.{StreamAction, is_print, print_string, printed}
use Rattle.terminal.specs.Refusals.{FeedTakesMemory, LookTakesMemory}
use Rattle.terminal_steps.specs.Items.{ParserNeedsMemory, SomeNeedsMemory, item_event, item_events, log_after_items}
use Rattle.xterm_steps.specs.Additions.{IsChangeRefused}
use Rattle.terminal_steps.specs.Memory.{TakesMemory, TakesOwnMemory, number_settled}
use Rattle.terminal_table.specs.History.{Act}
use Rattle.terminal_table.specs.Logged.{event_logged, events_logged, run_logged}
use Rattle.terminal_table.specs.Meaning.{View, settled, event_done}
use Rattle.terminal_table.specs.Request.{Request, Table, Xterm, Sets, SetsAlone, Switches, Repeats, Aligns, Replies, Nothing}
use Rattle.terminal_table.specs.Requests.{acted, acted_changes, request_changes, request_done, request_of, without_last}
use Rattle.terminal_table.specs.Runs.{run_step}
use Rattle.terminal_viewers.specs.Updates.{Standing}
use Rattle.terminal_viewers.specs.Viewers.{AreAlike, AnswersAs}
use Rattle.terminal_viewers.proofs.DueLemmas.{AreChanges}
use Rattle.terminal_viewers.proofs.KeptLemmas.{with_replies}
use Rattle.terminal_viewers.proofs.ShowLemmas.{action_changes, run_changes}

same_as : (a b : View) → AreAlike a b → a ≡ with_replies a.state.replies b
same_as a b h = λ i. record { state = record { screen = h.screen i; saved = h.saved i; replies = a.state.replies; modes = h.modes i }; stream = h.stream i; held = h.held i }

-- after the same changes, logs whose numbers were equal have equal numbers
steps_number : (steps : List LogStep) → AreChanges steps → (l m : Sized) → l.log.number ≡ m.log.number → (fold step_of_kept l steps).log.number ≡ (fold step_of_kept m steps).log.number
steps_number [] changes l m e = e
steps_number (Logged change ∷ steps) changes l m e = steps_number steps changes (step_of_kept l (Logged change)) (step_of_kept m (Logged change)) (ap (λ n. n + 1) e)
steps_number (log.Forgotten number ∷ steps) changes l m e = absurd changes
steps_number (log.Resized most ∷ steps) changes l m e = absurd changes

module _ (f : List ℕ → ℕ) where
  -- ---- an action

  settled_alike : (a b : View) → AreAlike a b → AreAlike (settled f a) (settled f b)
  settled_alike a b h = subst (λ x. AreAlike (settled f x) (settled f b)) (sym (same_as a b h)) (by_test (length b.held == 0))
    where
      by_test : (t : Bool) → AreAlike
          (record b { state = if t then (with_replies a.state.replies b).state else run_step f b.held (with_replies a.state.replies b).state; held = [] })
          (record b { state = if t then b.state else run_step f b.held b.state; held = [] })
      by_test true = record { screen = refl; saved = refl; modes = refl; stream = refl; held = refl }
      by_test false = record { screen = refl; saved = refl; modes = refl; stream = refl; held = refl }

  acted_alike : (action : StreamAction) (a b : View) → AreAlike a b → AreAlike (record a { state = acted f action a.state }) (record b { state = acted f action b.state })
  acted_alike action a b h =
      subst (λ x. AreAlike (record x { state = acted f action x.state }) (record b { state = acted f action b.state })) (sym (same_as a b h)) (by_request (request_of b.state.modes b.state.screen action))
    where
      by_request : (request : Option Request) → AreAlike (record b { state = without_last (request_done f request (with_replies a.state.replies b).state) }) (record b { state = without_last (request_done f request b.state) })
      by_request None = record { screen = refl; saved = refl; modes = refl; stream = refl; held = refl }
      by_request (Some (Table function)) = record { screen = refl; saved = refl; modes = refl; stream = refl; held = refl }
      by_request (Some (Xterm function)) = record { screen = refl; saved = refl; modes = refl; stream = refl; held = refl }
      by_request (Some (Sets setting function)) = record { screen = refl; saved = refl; modes = refl; stream = refl; held = refl }
      by_request (Some (SetsAlone setting)) = record { screen = refl; saved = refl; modes = refl; stream = refl; held = refl }
      by_request (Some (Switches function)) = record { screen = refl; saved = refl; modes = refl; stream = refl; held = refl }
      by_request (Some (Repeats count)) = record { screen = refl; saved = refl; modes = refl; stream = refl; held = refl }
      by_request (Some Aligns) = record { screen = refl; saved = refl; modes = refl; stream = refl; held = refl }
      by_request (Some Nothing) = record { screen = refl; saved = refl; modes = refl; stream = refl; held = refl }
      by_request (Some (Replies text)) = record { screen = refl; saved = refl; modes = refl; stream = refl; held = refl }

  changes_alike : (action : StreamAction) (a b : View) → AreAlike a b → acted_changes f action a.state ≡ acted_changes f action b.state
  changes_alike action a b h = ap (λ x. acted_changes f action x.state) (same_as a b h) ∙ by_request (request_of b.state.modes b.state.screen action)
    where
      by_request : (request : Option Request) → request_changes f request (with_replies a.state.replies b).state ≡ request_changes f request b.state
      by_request None = refl
      by_request (Some (Table function)) = refl
      by_request (Some (Xterm function)) = refl
      by_request (Some (Sets setting function)) = refl
      by_request (Some (SetsAlone setting)) = refl
      by_request (Some (Switches function)) = refl
      by_request (Some (Repeats count)) = refl
      by_request (Some Aligns) = refl
      by_request (Some Nothing) = refl
      by_request (Some (Replies text)) = refl

  done_alike : (a b : View) (action : StreamAction) → AreAlike a b → AreAlike (event_done f a (Act action)) (event_done f b (Act action))
  done_alike a b action h = by_test (is_print action) refl
    where
      by_test : (t : Bool) → is_print action ≡ t → AreAlike (event_done f a (Act action)) (event_done f b (Act action))
      by_test true e = rw e (record { screen = h.screen; saved = h.saved; modes = h.modes; stream = h.stream; held = ap (λ held. held ++ printed action) h.held })
      by_test false e = rw e (acted_alike action (settled f a) (settled f b) (settled_alike a b h))

  run_alike : (a b : View) → AreAlike a b → run_logged f a ≡ run_logged f b
  run_alike a b h = ap (run_logged f) (same_as a b h)

  logs_alike : (a b : View) (action : StreamAction) → AreAlike a b → event_logged f a (Act action) ≡ event_logged f b (Act action)
  logs_alike a b action h = λ i.
      if is_print action then [] else run_alike a b h i ++ map Logged (changes_alike action (settled f a) (settled f b) (settled_alike a b h) i)

  abbrev done : StreamAction → View → View
  done action v = event_done f v (Act action)

  abbrev log_done : StreamAction → View → Sized → Sized
  log_done action v l = fold step_of_kept l (event_logged f v (Act action))

  action_number : (a b : View) (l m : Sized) (action : StreamAction) → AreAlike a b → l.log.number ≡ m.log.number → (log_done action a l).log.number ≡ (log_done action b m).log.number
  action_number a b l m action h e =
      ap (λ steps. (fold step_of_kept l steps).log.number) (logs_alike a b action h) ∙ steps_number (event_logged f b (Act action)) (action_changes f b action) l m e

  settled_number : (a b : View) (l m : Sized) → AreAlike a b → l.log.number ≡ m.log.number → number_settled f a l ≡ number_settled f b m
  settled_number a b l m h e = ap (λ steps. (fold step_of_kept l steps).log.number) (run_alike a b h) ∙ steps_number (run_logged f b) (run_changes f b) l m e

  takes_alike : (a b : View) (l m : Sized) (action : StreamAction) (failed : Bool) → AreAlike a b → l.log.number ≡ m.log.number → TakesMemory f a l (Act action) failed → TakesMemory f b m (Act action) failed
  takes_alike a b l m action failed h e takes =
      let s = settled_alike a b h in
      subst (λ (T : Type 0). T)
      (λ i. (is_print action ≡ true) ⊎ TakesOwnMemory (request_of (s.modes i) (s.screen i) action) (settled_number a b l m h e i) ⊎ IsChangeRefused (logs_alike a b action h i) (e i) failed) takes

  -- ---- a look

  run_takes : (a b : View) (l m : Sized) (failed : Bool) → AreAlike a b → l.log.number ≡ m.log.number → IsChangeRefused (run_logged f a) l.log.number failed → IsChangeRefused (run_logged f b) m.log.number failed
  run_takes a b l m failed h e refused = subst (λ (T : Type 0). T) (λ i. IsChangeRefused (run_alike a b h i) (e i) failed) refused

  pub look_alike : (number : ℕ) (kept whole : Standing) (failed : Bool) → AnswersAs number kept whole → LookTakesMemory f kept failed → LookTakesMemory f whole failed
  look_alike number kept whole failed h takes =
      (λ none. takes.0 (h.views.modes ∙ none), run_takes kept.view whole.view kept.log whole.log failed h.views h.logs.count takes.1)

  -- ---- items

  items_alike : (items : List Item) (a b : View) → AreAlike a b → AreAlike (fold (event_done f) a (item_events items)) (fold (event_done f) b (item_events items))
  items_alike [] a b h = h
  items_alike (Text text ∷ items) a b h = items_alike items (done (print_string text) a) (done (print_string text) b) (done_alike a b (print_string text) h)
  items_alike (Single action ∷ items) a b h = items_alike items (done action a) (done action b) (done_alike a b action h)

  -- the number after items, where an action comes before them
  after_action : (action : StreamAction) (items : List Item) (v : View) (l : Sized)
      → (fold step_of_kept l (events_logged f v (Act action ∷ item_events items))).log.number ≡ (log_after_items f (done action v) (log_done action v l) items).log.number
  after_action action items v l =
      ap (λ (s : Sized). s.log.number) (fold-append step_of_kept l (event_logged f v (Act action)) (events_logged f (done action v) (item_events items)))

  both_after : (action : StreamAction) (items : List Item) (a b : View) (l m : Sized)
      → (log_after_items f (done action a) (log_done action a l) items).log.number ≡ (log_after_items f (done action b) (log_done action b m) items).log.number
      → (fold step_of_kept l (events_logged f a (Act action ∷ item_events items))).log.number ≡ (fold step_of_kept m (events_logged f b (Act action ∷ item_events items))).log.number
  both_after action items a b l m e = after_action action items a l ∙ e ∙ sym (after_action action items b m)

  items_number : (items : List Item) (a b : View) (l m : Sized) → AreAlike a b → l.log.number ≡ m.log.number
      → (log_after_items f a l items).log.number ≡ (log_after_items f b m items).log.number
  items_number [] a b l m h e = e
  items_number (Text text ∷ items) a b l m h e =
      let action = print_string text in
      both_after action items a b l m (items_number items (done action a) (done action b) (log_done action a l) (log_done action b m) (done_alike a b action h) (action_number a b l m action h e))
  items_number (Single action ∷ items) a b l m h e =
      both_after action items a b l m (items_number items (done action a) (done action b) (log_done action a l) (log_done action b m) (done_alike a b action h) (action_number a b l m action h e))

  item_takes : (a b : View) (l m : Sized) (item : Item) (failed : Bool) → AreAlike a b → l.log.number ≡ m.log.number → TakesMemory f a l (item_event item) failed → TakesMemory f b m (item_event item) failed
  item_takes a b l m (Text text) failed h e takes = takes_alike a b l m (print_string text) failed h e takes
  item_takes a b l m (Single action) failed h e takes = takes_alike a b l m action failed h e takes

  -- ---- bytes

  parser_alike : (a b : View) (l m : Sized) (stream bytes : List ℕ) → AreAlike a b → l.log.number ≡ m.log.number → ParserNeedsMemory f a l stream bytes → ParserNeedsMemory f b m stream bytes
  parser_alike a b l m stream bytes h e p = record {
    done = p.done;
    left = p.left;
    whole = p.whole;
    fits = subst (λ n. n < 2 ^ 64) (items_number (items_of p.done) a b l m h e) p.fits;
    takes = p.takes;
  }

  some_alike : (a b : View) (l m : Sized) (items : List Item) (failed : Bool) → AreAlike a b → l.log.number ≡ m.log.number → SomeNeedsMemory f a l items failed → SomeNeedsMemory f b m items failed
  some_alike a b l m items failed h e s =
      let number = items_number s.done a b l m h e in
      record {
        done = s.done;
        item = s.item;
        left = s.left;
        whole = s.whole;
        fits = subst (λ n. n < 2 ^ 64) number s.fits;
        takes = item_takes (fold (event_done f) a (item_events s.done)) (fold (event_done f) b (item_events s.done)) (log_after_items f a l s.done) (log_after_items f b m s.done) s.item failed
            (items_alike s.done a b h) number s.takes;
      }

  pub feed_alike : (number : ℕ) (kept whole : Standing) (bytes : List ℕ) (failed : Bool) → AnswersAs number kept whole → FeedTakesMemory f kept bytes failed → FeedTakesMemory f whole bytes failed
  feed_alike number kept whole bytes failed h (inl p) =
      inl (subst (λ stream. ParserNeedsMemory f whole.view whole.log stream bytes) h.views.stream (parser_alike kept.view whole.view kept.log whole.log kept.view.stream bytes h.views h.logs.count p))
  feed_alike number kept whole bytes failed h (inr s) =
      inr (subst (λ stream. SomeNeedsMemory f whole.view whole.log (items stream bytes) failed) h.views.stream
      (some_alike kept.view whole.view kept.log whole.log (items kept.view.stream bytes) failed h.views h.logs.count s))
