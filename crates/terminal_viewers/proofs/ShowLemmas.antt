-- A screen that shows a terminal at a number goes on showing it, as changes are logged, sizes are taken on and changes are forgotten.
use Rattle.std.proofs.Common.{◌≡◌, ◌⊎◌, inl, inr, ℕ, ◌+◌, ◌-◌, ◌≤◌, ◌<◌, Bool, true, false, List, [], ◌∷◌, ◌++◌, length, drop, map, fold, refl, sym, ap, subst, ◌∙◌, arith}
use Rattle.std.specs.Prelude.{◌==◌, ◌||◌, nat_le, nat_lt, Option, Some, IfSome, if◌then◌else◌}
use Rattle.std.proofs.lemmas.Bool.Decides.{leb_tells, nat_tests}
use Rattle.std.proofs.lemmas.List.{length-replicate, drop_all}
use Rattle.std.proofs.lemmas.List.Sums.{fold-append}
use Rattle.cell_base.specs.declared.attributes.LineAttribute.TheVariants.{SingleWidthLine}
use Rattle.cell_base.specs.Screen.{Screen, height}
use Rattle.screen_change.specs.ChangeValue.{ChangeValue}
use Rattle.cell_surface.proofs.TextLemmas.{resized_height}
use Rattle.screen_log.specs.Log.{Log, most_due, first_number, forgotten, resized_log, due}
use Rattle.screen_log.specs.LogSteps as log
use Rattle.screen_log.specs.LogSteps.{LogStep, Logged, Sized, step_of_kept}
use Rattle.screen_log.proofs.DueLemmas.{due_forgotten}
use Rattle.screen_log.proofs.StoredLemmas.{due_here, forgotten_here}
use Rattle.escape_stream.specs.StreamAction.{StreamAction, is_print}
use Rattle.escape_stream.specs.StreamActions.{newly_decided_actions}
use Rattle.screen_effects.specs.Display.{Display, IsDisplay}
use Rattle.screen_effects.specs.Effect.{effect, replay}
use Rattle.screen_effects.specs.Resize.{resized_screen}
use Rattle.screen_effects.proofs.EffectLaws.{replay_is, resized_is}
use Rattle.terminal_table.proofs.StateLemmas.{replay_size}
use Rattle.terminal_render.proofs.RequestLemmas.{display_on_is}
use Rattle.terminal_table.specs.Requests.{acted_changes}
use Rattle.terminal_table.specs.History.{History, Piece, Look, Resize, Forget, Event, Act, Looked, Resized, Forgot, events}
use Rattle.terminal_table.specs.Logged.{run_logged, event_logged, events_logged, log_after}
use Rattle.terminal_table.specs.Runs.{run_changes_of}
use Rattle.terminal_table.specs.Meaning.{View, settled, event_done, after}
use Rattle.terminal_table.specs.Turns.{IsView, AreSizes, IsEvent, AreEvents, changes_in}
use Rattle.terminal_table.proofs.EventLemmas.{event_is, event_turns}
use Rattle.terminal_table.proofs.PrintLemmas.{AllCut, events_are}
use Rattle.terminal_viewers.specs.Shows.{Shows, replayed_on}
use Rattle.terminal_viewers.specs.Update.{display_on}
use Rattle.terminal_viewers.specs.Viewers.{repeated}
use Rattle.terminal_viewers.proofs.DueLemmas.{AreChanges, GoesOn, HasReached, changes-append, changes-logged, due_goes_on, is_none_due, none_before, none_due, none_forgotten, steps_reach}

-- ---- a screen shows itself

pub shows_itself : (width_of : List ℕ → ℕ) (screen : Screen) (s : Sized) → length s.log.entries ≤ s.log.number → Shows width_of screen s.log.number screen s
shows_itself width_of screen s h = record { wide = refl; tall = refl; leads = by_zero (leb_tells 1 s.log.number) }
  where
    n : ℕ
    n = s.log.number

    Leads : Option (List ChangeValue) → Type 0
    Leads changes = IfSome changes (λ cs. replayed_on width_of screen cs ≡ screen)

    nothing : drop (n - first_number s.log) s.log.entries ≡ []
    nothing = drop_all (n - first_number s.log) s.log.entries (omega arith)

    by_zero : ((nat_lt 0 n ≡ true) × (1 ≤ n)) ⊎ ((nat_lt 0 n ≡ false) × (n < 1)) → Leads (due s.most s.log n)
    by_zero (inl p) = let some = p.1 in subst Leads (sym (due_here s.most s.log n (grind (arith, nat_tests)) (omega arith) (omega arith) (omega arith) ∙ ap (λ (cs : List ChangeValue). Some cs) nothing)) refl
    by_zero (inr p) = let none = p.1 in subst Leads (sym (none_due s.most s.log n (first (n == 0) (nat_lt n (first_number s.log)) (nat_lt n n) (nat_lt s.most (n - n)) (grind (arith, nat_tests))))) tt
      where
        first : (a b c d : Bool) → a ≡ true → (a || b || c || d) ≡ true
        first a b c d e = rw e refl

-- ---- changes that are logged

module _ (width_of : List ℕ → ℕ) where
  -- the changes, if there are any, lead from one screen to the other
  abbrev LeadsTo : Screen → Screen → Option (List ChangeValue) → Type 0
  LeadsTo shown screen changes = IfSome changes (λ cs. replayed_on width_of shown cs ≡ screen)

  -- changes of an event, which lead from the screen before it to the one after it
  abbrev LeadOn : Screen → Screen → List ChangeValue → Type 0
  LeadOn before after changes = (d : Display) → IsDisplay d → d.screen ≡ before → (replay width_of d changes).screen ≡ after

  led_on : (shown before after : Screen) (changes : List ChangeValue) (was is : Option (List ChangeValue)) → IsDisplay (display_on shown) → LeadOn before after changes → LeadsTo shown before was → GoesOn was is changes → LeadsTo shown after is
  led_on shown before after changes was is h leads l (inl none) = subst (LeadsTo shown after) (sym none) tt
  led_on shown before after changes was is h leads l (inr (first, e, k)) =
      subst (LeadsTo shown after) (sym k)
      (ap (λ (d : Display). d.screen) (fold-append (effect width_of) (display_on shown) first changes)
      ∙ leads (replay width_of (display_on shown) first) (replay_is width_of first (display_on shown) h) (subst (LeadsTo shown before) e l))

  -- changes that are logged, and keep the size
  shows_on : (shown : Screen) (number : ℕ) (before after : Screen) (s : Sized) (steps : List LogStep) → IsDisplay (display_on shown) → IsDisplay (display_on before) → HasReached number s → AreChanges steps
      → LeadOn before after (changes_in steps) → Shows width_of shown number before s → Shows width_of shown number after (fold step_of_kept s steps)
  shows_on shown number before after s steps h k r c leads p =
      let same = leads (display_on before) k refl in
      let size = replay_size width_of (changes_in steps) (display_on before) k in
      record {
        wide = p.wide ∙ sym size.wide ∙ ap (λ (x : Screen). x.width) same;
        tall = p.tall ∙ sym size.tall ∙ ap (λ (x : Screen). height x) same;
        leads = led_on shown before after (changes_in steps) (due s.most s.log number) (due (fold step_of_kept s steps).most (fold step_of_kept s steps).log number) h leads p.leads (due_goes_on number steps s c r);
      }

  -- ---- another size

  -- an empty log: if changes are due, there are none of them, so both screens are equal
  empty_leads : (width tall most next number n : ℕ) (shown screen : Screen) → number ≤ n → LeadsTo shown screen (due most (record { number = n; entries = [] }) number)
      → LeadsTo (resized_screen width tall shown) (resized_screen width tall screen) (due next (record { number = n; entries = [] }) number)
  empty_leads width tall most next number n shown screen h l = by_test (is_none_due next (record { number = n; entries = [] }) number) refl
    where
      log : Log
      log = record { number = n; entries = [] }

      none_left : (k : ℕ) → drop {A = ChangeValue} k [] ≡ []
      none_left k = drop_all k [] (omega arith)

      same : is_none_due next log number ≡ false → shown ≡ screen
      same e = subst (LeadsTo shown screen) (due_here most log number (grind (arith, nat_tests)) (grind (arith, nat_tests)) h (grind (arith, nat_tests)) ∙ ap (λ (cs : List ChangeValue). Some cs) (none_left (number - first_number log))) l

      by_test : (b : Bool) → is_none_due next log number ≡ b → LeadsTo (resized_screen width tall shown) (resized_screen width tall screen) (due next log number)
      by_test true e = rw e tt
      by_test false e = rw e (rw (none_left (number - first_number log)) (ap (resized_screen width tall) (same e)))

  resized_leads : (width tall most next number n : ℕ) (entries : List ChangeValue) (shown screen : Screen) → number ≤ n → LeadsTo shown screen (due most (record { number = n; entries = entries }) number)
      → LeadsTo (resized_screen width tall shown) (resized_screen width tall screen) (due next (resized_log (record { number = n; entries = entries })) number)
  resized_leads width tall most next number n [] shown screen h l = empty_leads width tall most next number n shown screen h l
  resized_leads width tall most next number n (change ∷ changes) shown screen h l =
      subst (LeadsTo (resized_screen width tall shown) (resized_screen width tall screen)) (sym (none_before next (record { number = n + 1; entries = [] }) number (omega arith))) tt

  shows_resized : (shown : Screen) (number width tall next : ℕ) (screen : Screen) (s : Sized) → HasReached number s → Shows width_of shown number screen s
      → Shows width_of (resized_screen width tall shown) number (resized_screen width tall screen) (step_of_kept s (log.Resized next))
  shows_resized shown number width tall next screen s r p = record {
    wide = refl;
    tall = resized_height width tall (display_on shown) ∙ sym (resized_height width tall (display_on screen));
    leads = resized_leads width tall s.most next number s.log.number s.log.entries shown screen r.reached p.leads;
  }

  -- ---- changes that are forgotten

  shows_forgotten : (shown : Screen) (number before : ℕ) (screen : Screen) (s : Sized) → HasReached number s → Shows width_of shown number screen s → Shows width_of shown number screen (step_of_kept s (log.Forgotten before))
  shows_forgotten shown number before screen s r p = record {
    wide = p.wide;
    tall = p.tall;
    leads = elim (leb_tells before number) [
      | inl x ↦ subst (LeadsTo shown screen) (sym (due_forgotten s.most s.log before number r.counted x.1)) p.leads
      | inr x ↦ above (leb_tells before s.log.number) x.1
    ];
  }
    where
      above : ((nat_le before s.log.number ≡ true) × (before ≤ s.log.number)) ⊎ ((nat_le before s.log.number ≡ false) × (s.log.number < before)) → number < before → LeadsTo shown screen (due s.most (forgotten before s.log) number)
      above (inl x) m = subst (LeadsTo shown screen) (sym (ap (λ (l : Log). due s.most l number) (forgotten_here s.log before x.1) ∙ none_forgotten s.most before number s.log r.counted m x.1)) tt
      above (inr x) m = let past : nat_lt s.log.number before ≡ true = (let k = x.1 in grind (arith, nat_tests)) in
          rw past p.leads

  -- ---- events

  abbrev repeated_at : Event → Screen → Screen
  repeated_at (Act action) screen = screen
  repeated_at Looked screen = screen
  repeated_at (Resized width height) screen = resized_screen width height screen
  repeated_at (Forgot number) screen = screen

  -- for bytes that are fed, and for a look, only changes are logged
  pub run_changes : (v : View) → AreChanges (run_logged width_of v)
  run_changes v = by_test (length v.held == 0)
    where
      by_test : (b : Bool) → AreChanges (if b then [] else map Logged (run_changes_of width_of v.held v.state))
      by_test true = tt
      by_test false = changes-logged (run_changes_of width_of v.held v.state)

  pub action_changes : (v : View) (action : StreamAction) → AreChanges (event_logged width_of v (Act action))
  action_changes v action = by_test (is_print action)
    where
      by_test : (b : Bool) → AreChanges (if b then [] else run_logged width_of v ++ map Logged (acted_changes width_of action (settled width_of v).state))
      by_test true = tt
      by_test false = changes-append (run_logged width_of v) (map Logged (acted_changes width_of action (settled width_of v).state)) (run_changes v) (changes-logged (acted_changes width_of action (settled width_of v).state))

  settled_shows : (shown : Screen) (number : ℕ) (v : View) (s : Sized) → IsView width_of v → IsDisplay (display_on shown) → HasReached number s → Shows width_of shown number v.state.screen s
      → Shows width_of shown number (settled width_of v).state.screen (fold step_of_kept s (run_logged width_of v))
  settled_shows shown number v s h k r p =
      shows_on shown number v.state.screen (settled width_of v).state.screen s (run_logged width_of v) k (display_on_is v.state.screen h.lawful.lawful h.lawful.whole) r (run_changes v) (λ d l e. (event_turns width_of v Looked d h tt l e).screen) p

  event_shows : (shown : Screen) (number : ℕ) (v : View) (event : Event) (s : Sized) → IsView width_of v → IsEvent event → IsDisplay (display_on shown) → HasReached number s → Shows width_of shown number v.state.screen s
      → Shows width_of (repeated_at event shown) number (event_done width_of v event).state.screen (fold step_of_kept s (event_logged width_of v event))
  event_shows shown number v (Act action) s h l k r p =
      shows_on shown number v.state.screen (event_done width_of v (Act action)).state.screen s (event_logged width_of v (Act action)) k (display_on_is v.state.screen h.lawful.lawful h.lawful.whole) r (action_changes v action) (λ d m e. (event_turns width_of v (Act action) d h l m e).screen) p
  event_shows shown number v Looked s h l k r p = settled_shows shown number v s h k r p
  event_shows shown number v (Resized width tall) s h l k r p =
      subst (Shows width_of (resized_screen width tall shown) number (resized_screen width tall (settled width_of v).state.screen)) (sym (fold-append step_of_kept s (run_logged width_of v) (log.Resized (most_due width tall) ∷ [])))
      (shows_resized shown number width tall (most_due width tall) (settled width_of v).state.screen (fold step_of_kept s (run_logged width_of v)) (steps_reach number (run_logged width_of v) s r) (settled_shows shown number v s h k r p))
  event_shows shown number v (Forgot before) s h l k r p = shows_forgotten shown number before v.state.screen s r p

  repeated_is : (event : Event) (shown : Screen) → IsEvent event → IsDisplay (display_on shown) → IsDisplay (display_on (repeated_at event shown))
  repeated_is (Act action) shown l h = h
  repeated_is Looked shown l h = h
  repeated_is (Resized width tall) shown l h =
      let d = resized_is width tall (display_on shown) l.0 l.1 h in
      record { lawful = d.lawful; whole = d.whole; sized = length-replicate (height (resized_screen width tall shown)) SingleWidthLine }
  repeated_is (Forgot number) shown l h = h

  abbrev all_repeated : List Event → Screen → Screen
  all_repeated [] screen = screen
  all_repeated (event ∷ es) screen = all_repeated es (repeated_at event screen)

  all_show : (shown : Screen) (number : ℕ) (v : View) (es : List Event) (s : Sized) → IsView width_of v → AreEvents es → IsDisplay (display_on shown) → HasReached number s → Shows width_of shown number v.state.screen s
      → Shows width_of (all_repeated es shown) number (fold (event_done width_of) v es).state.screen (fold step_of_kept s (events_logged width_of v es))
  all_show shown number v [] s h l k r p = p
  all_show shown number v (event ∷ es) s h l k r p =
      let next = event_done width_of v event in
      let later = fold step_of_kept s (event_logged width_of v event) in
      subst (Shows width_of (all_repeated es (repeated_at event shown)) number (fold (event_done width_of) next es).state.screen) (sym (fold-append step_of_kept s (event_logged width_of v event) (events_logged width_of next es)))
      (all_show (repeated_at event shown) number next es later (event_is width_of v event h l.0) l.1 (repeated_is event shown l.0 k) (steps_reach number (event_logged width_of v event) s r) (event_shows shown number v event s h l.0 k r p))

  -- ---- histories

  acts_repeated : (actions : List StreamAction) (es : List Event) (screen : Screen) → all_repeated (map Act actions ++ es) screen ≡ all_repeated es screen
  acts_repeated [] es screen = refl
  acts_repeated (action ∷ actions) es screen = acts_repeated actions es screen

  history_repeated : (stream : List ℕ) (history : History) (screen : Screen) → all_repeated (events stream history) screen ≡ repeated history screen
  history_repeated stream [] screen = refl
  history_repeated stream (Piece bytes ∷ history) screen = acts_repeated (newly_decided_actions stream bytes) (events (stream ++ bytes) history) screen ∙ history_repeated (stream ++ bytes) history screen
  history_repeated stream (Look ∷ history) screen = history_repeated stream history screen
  history_repeated stream (Resize width tall ∷ history) screen = history_repeated stream history (resized_screen width tall screen)
  history_repeated stream (Forget number ∷ history) screen = history_repeated stream history screen

  pub history_shows : AllCut → (shown : Screen) (number : ℕ) (v : View) (s : Sized) (history : History) → IsView width_of v → AreSizes history → IsDisplay (display_on shown) → length s.log.entries ≤ s.log.number → number ≤ s.log.number
      → Shows width_of shown number v.state.screen s → Shows width_of (repeated history shown) number (after width_of v history).state.screen (log_after width_of v s history)
  history_shows cut shown number v s history h l k c r p =
      subst (λ x. Shows width_of x number (after width_of v history).state.screen (log_after width_of v s history)) (history_repeated v.stream history shown)
      (all_show shown number v (events v.stream history) s h (events_are cut v.stream history l) k (record { counted = c; reached = r }) p)
