-- A log's number never falls, so an event that is refused a number leads past the last one.
use Rattle.std.proofs.Common.{◌≡◌, ◌≢◌, ℕ, ◌<◌, ◌≤◌, ◌+◌, ◌-◌, ◌^◌, Bool, true, false, List, [], ◌∷◌, ◌++◌, length, map, fold, inl, inr, refl, sym, ap, subst, ◌∙◌, arith}
use Rattle.std.specs.Prelude.{◌==◌, ◌⊎◌, nat_lt, if◌then◌else◌, option_map}
use Rattle.std.specs.String.{string_bytes}
use Rattle.std.specs.List.{FoldsTo}
use Rattle.std.proofs.lemmas.List.Sums.{fold-append}
use Rattle.screen_change.specs.ChangeValue.{ChangeValue}
use Rattle.cell_surface.specs.Surface.{Surface, number_of, shown_by, Resizes}
use Rattle.screen_log.specs.Log.{most_due, forgotten, resized_log}
use Rattle.screen_log.specs.LogSteps as log
use Rattle.screen_log.specs.LogSteps.{LogStep, Logged, Forgotten, Sized, step_of_kept}
use Rattle.escape_stream.specs.StreamAction.{StreamAction, is_print}
use Rattle.screen_effects.specs.Display.{IsDisplay}
use Rattle.screen_effects.proofs.EffectLaws.{resized_is}
use Rattle.terminal_table.specs.History.{Event, Act, Looked, Resized}
use Rattle.terminal_table.specs.Meaning.{View, event_done, settled, with_size}
use Rattle.terminal_table.specs.Modes.{resized_modes}
use Rattle.terminal_table.specs.Requests.{acted_changes}
use Rattle.terminal_table.specs.Runs.{run_changes_of}
use Rattle.terminal_table.specs.Logged.{run_logged, event_logged, events_logged}
use Rattle.terminal_table.specs.RunText.{IsPrinted}
use Rattle.terminal_table.specs.Turns.{AreEvents}
use Rattle.terminal_table.proofs.JoinLemmas.{events_logged-append}
use Rattle.terminal_table.proofs.ListLemmas.{append_nil}
use Rattle.terminal_table.proofs.StateLemmas.{size_is}
use Rattle.std.proofs.lemmas.List.{length-append, length-map, map-append}
use Rattle.cell_surface.specs.declared.error.SurfaceError.{SurfaceError}
use Rattle.cell_surface.specs.declared.error.SurfaceError.TheVariants as refusal
use Rattle.escape_stream.specs.Items.{Item}
use Rattle.escape_stream.specs.Performing.{StopsAt, HaltsAt}
use Rattle.escape_stream.specs.declared.perform.Halted.{Halted}
use Rattle.escape_stream.specs.declared.perform.Halted.TheVariants as halted
use Rattle.terminal_steps.specs.Memory.{TakesMemory, TakesOwnMemory, asked_in}
use Rattle.terminal_steps.specs.Refusals.{of_halted}
use Rattle.xterm_steps.specs.Additions.{IsChangeRefused}
use Rattle.terminal_steps.specs.Items.{item_event, item_events, DoesItem, RefusesItem}
use Rattle.terminal_steps.specs.declared.error.TerminalError.TheVariants.{Failed, Number}
use Rattle.terminal_steps.proofs.StateLemmas.{lawful_after}
use Rattle.terminal_steps.proofs.TakeLemmas.{are_prefix, are_after, leads}
use Rattle.terminal_steps.specs.Events.{view_of, Does, IsReady, Had, NeedsNumber, final_log}
use Rattle.terminal_steps.specs.ProfileView.{kept_modes}
use Rattle.terminal_steps.specs.declared.state.TerminalState.{TerminalState}

pub step_number : (s : Sized) (step : LogStep) → s.log.number ≤ (step_of_kept s step).log.number
step_number s (Logged change) = omega arith
step_number s (Forgotten number) = by_test (nat_lt s.log.number number) refl
  where
    by_test : (b : Bool) → nat_lt s.log.number number ≡ b → s.log.number ≤ (forgotten number s.log).number
    by_test true e = rw e (omega arith)
    by_test false e = rw e (omega arith)
step_number s (log.Resized next) = by_entries s.log.entries refl
  where
    by_entries : (cs : List ChangeValue) → s.log.entries ≡ cs → s.log.number ≤ (resized_log s.log).number
    by_entries [] e = rw e (omega arith)
    by_entries (c ∷ cs) e = rw e (omega arith)

pub fold_number : (steps : List LogStep) (s : Sized) → s.log.number ≤ (fold step_of_kept s steps).log.number
fold_number [] s = omega arith
fold_number (step ∷ steps) s = let one = step_number s step in let more = fold_number steps (step_of_kept s step) in omega arith

pub logged_number : (changes : List ChangeValue) (s : Sized) → (fold step_of_kept s (map Logged changes)).log.number ≡ s.log.number + length changes
logged_number [] s = omega arith
logged_number (change ∷ changes) s = logged_number changes (step_of_kept s (Logged change)) ∙ omega arith

abbrev Past : Sized → Type 0
Past s = 2 ^ 64 ≤ s.log.number

pub past_after : (s : Sized) (steps : List LogStep) → Past s → Past (fold step_of_kept s steps)
past_after s steps h = let more = fold_number steps s in omega arith

module _ {W : Type 0} (width_of : W → List ℕ → ℕ) where
  abbrev of : TerminalState W → List ℕ → ℕ
  of t = width_of t.surface.grid.widths

  -- ---- the log of a resize: the log of a look, and then the step for the new size

  after_prefix : (t : TerminalState W) (prefix back : List LogStep) → fold step_of_kept t.surface.log ((prefix ++ back) ++ []) ≡ fold step_of_kept (fold step_of_kept t.surface.log (prefix ++ [])) back
  after_prefix t prefix back =
      ap (fold step_of_kept t.surface.log) (append_nil (prefix ++ back))
      ∙ fold-append step_of_kept t.surface.log prefix back
      ∙ ap (λ xs. fold step_of_kept (fold step_of_kept t.surface.log xs) back) (sym (append_nil prefix))

  resized_after : (t : TerminalState W) (width height : ℕ) → final_log width_of t (Resized width height ∷ []) ≡ step_of_kept (final_log width_of t (Looked ∷ [])) (log.Resized (most_due width height))
  resized_after t width height = after_prefix t (run_logged (of t) (view_of t)) (log.Resized (most_due width height) ∷ [])

  -- where the held run has no number, a look has none
  pub looked_number : (t : TerminalState W) → (length (string_bytes t.held) == 0) ≡ false → 2 ^ 64 ≤ number_of t.surface + length (run_changes_of (of t) (string_bytes t.held) (view_of t).state) → 2 ^ 64 ≤ (final_log width_of t (Looked ∷ [])).log.number
  looked_number t e past =
      let all : List ChangeValue = run_changes_of (of t) (string_bytes t.held) (view_of t).state in
      subst Past (sym (ap (λ (b : Bool). fold step_of_kept t.surface.log ((if b then [] else map Logged all) ++ [])) e ∙ ap (fold step_of_kept t.surface.log) (append_nil (map Logged all))))
      (subst (λ (n : ℕ). 2 ^ 64 ≤ n) (sym (logged_number all t.surface.log)) past)

  -- ---- the log of an action: the log of a look, and then its changes

  act_after : (t : TerminalState W) (action : StreamAction) → is_print action ≡ false
      → final_log width_of t (Act action ∷ []) ≡ fold step_of_kept (final_log width_of t (Looked ∷ [])) (map Logged (acted_changes (of t) action (settled (of t) (view_of t)).state))
  act_after t action p =
      let changes : List LogStep = map Logged (acted_changes (of t) action (settled (of t) (view_of t)).state) in
      ap (λ (b : Bool). fold step_of_kept t.surface.log ((if b then [] else run_logged (of t) (view_of t) ++ changes) ++ [])) p
      ∙ after_prefix t (run_logged (of t) (view_of t)) changes

  -- where the run has no number, the action has none
  pub looked_past : (t : TerminalState W) (action : StreamAction) → is_print action ≡ false → NeedsNumber width_of t (Looked ∷ []) → NeedsNumber width_of t (Act action ∷ [])
  looked_past t action p needs = λ ready events.
      subst Past (sym (act_after t action p))
      (past_after (final_log width_of t (Looked ∷ [])) (map Logged (acted_changes (of t) action (settled (of t) (view_of t)).state)) (needs ready (tt, tt)))

  -- nor where one of its changes has none
  pub acted_past : (t u : TerminalState W) (action : StreamAction) → is_print action ≡ false → Does width_of t u (Looked ∷ [])
      → (IsReady width_of u → 2 ^ 64 ≤ number_of u.surface + length (acted_changes (of u) action (view_of u).state)) → NeedsNumber width_of t (Act action ∷ [])
  acted_past t u action p does past = λ ready events.
      let had = does ready (tt, tt) in
      let changes : List ChangeValue = acted_changes (of u) action (view_of u).state in
      let there : Past (fold step_of_kept u.surface.log (map Logged changes)) = subst (λ n. 2 ^ 64 ≤ n) (sym (logged_number changes u.surface.log)) (past had.ready) in
      subst Past (sym (act_after t action p))
      (subst Past (λ i. fold step_of_kept (had.log i) (map Logged (acted_changes (width_of (had.widths i)) action (had.view i).state))) there)

  -- an action after the run is refused memory as its own request or one of its changes is
  pub acted_memory : (t u : TerminalState W) (action : StreamAction) (failed : Bool) → Does width_of t u (Looked ∷ [])
      → (IsReady width_of u → TakesOwnMemory (asked_in (view_of u).state action) (number_of u.surface) ⊎ IsChangeRefused (acted_changes (of u) action (view_of u).state) (number_of u.surface) failed)
      → IsReady width_of t → is_print action ≡ false → TakesMemory (of t) (view_of t) t.surface.log (Act action) failed
  acted_memory t u action failed does refused ready p =
      let had = does ready (tt, tt) in
      let log : u.surface.log ≡ fold step_of_kept t.surface.log (run_logged (of t) (view_of t)) = had.log ∙ ap (fold step_of_kept t.surface.log) (append_nil (run_logged (of t) (view_of t))) in
      by_cause had log (refused had.ready)
    where
      by_cause : Had width_of t u (Looked ∷ []) → u.surface.log ≡ fold step_of_kept t.surface.log (run_logged (of t) (view_of t))
          → TakesOwnMemory (asked_in (view_of u).state action) (number_of u.surface) ⊎ IsChangeRefused (acted_changes (of u) action (view_of u).state) (number_of u.surface) failed
          → TakesMemory (of t) (view_of t) t.surface.log (Act action) failed
      by_cause had log (inl own) = inr (inl (subst (λ (T : Type 0). T) (λ i. TakesOwnMemory (asked_in (had.view i).state action) (log i).log.number) own))
      by_cause had log (inr change) =
          let changes : List ChangeValue = acted_changes (of t) action (settled (of t) (view_of t)).state in
          let same : length (acted_changes (of u) action (view_of u).state) ≡ length changes = (λ i. length (acted_changes (width_of (had.widths i)) action (had.view i).state)) in
          let logged : event_logged (of t) (view_of t) (Act action) ≡ run_logged (of t) (view_of t) ++ map Logged changes = ap (λ (b : Bool). if b then [] else run_logged (of t) (view_of t) ++ map Logged changes) p in
          let size = ap length logged ∙ length-append (run_logged (of t) (view_of t)) (map Logged changes) in
          let as_many = length-map changes Logged in
          let some = change.0 in
          let more = fold_number (run_logged (of t) (view_of t)) t.surface.log in
          let number = ap (λ (l : Sized). l.log.number) log in
          let fits = change.1 in
          inr (inr (omega (arith, same, size, as_many, some), omega (arith, more, number, fits), change.2))

  -- ---- other sizes

  resized_fits : (s t : Surface W) (width height : ℕ) → Resizes width height s t → s.is_failed ≡ false → ((s.is_failed ≡ false) × (s.log.log.number ≡ 2 ^ 64 - 1) × (s.log.log.entries ≢ []) → ⊥)
      → s.log.log.number < 2 ^ 64 → t.log.log.number < 2 ^ 64
  resized_fits s t width height a stays numbers fits = subst (λ (l : Sized). l.log.number < 2 ^ 64) (sym a.log) (by_entries s.log.log.entries refl)
    where
      by_entries : (cs : List ChangeValue) → s.log.log.entries ≡ cs → (resized_log s.log.log).number < 2 ^ 64
      by_entries [] e = rw e fits
      by_entries (c ∷ cs) e = rw e (let some : s.log.log.entries ≢ [] = λ none. cc in let last : s.log.log.number ≢ 2 ^ 64 - 1 = λ n. numbers (stays, n, some) in omega (arith, fits, last))

  -- where the run has no number, the new size has none
  pub resized_past : (t : TerminalState W) (width height : ℕ) → NeedsNumber width_of t (Looked ∷ []) → IsReady width_of t → 2 ^ 64 ≤ (final_log width_of t (Resized width height ∷ [])).log.number
  resized_past t width height needs ready =
      subst Past (sym (resized_after t width height)) (past_after (final_log width_of t (Looked ∷ [])) (log.Resized (most_due width height) ∷ []) (needs ready (tt, tt)))

  -- nor where the number after it is the last one, and the log isn't empty
  pub resized_over : (t u : TerminalState W) (width height : ℕ) → Had width_of t u (Looked ∷ []) → u.surface.log.log.number ≡ 2 ^ 64 - 1 → u.surface.log.log.entries ≢ [] → 2 ^ 64 ≤ (final_log width_of t (Resized width height ∷ [])).log.number
  resized_over t u width height had last some =
      subst Past (sym (resized_after t width height)) (subst (λ (l : Sized). Past (step_of_kept l (log.Resized (most_due width height)))) had.log (by_entries u.surface.log.log.entries refl))
    where
      by_entries : (cs : List ChangeValue) → u.surface.log.log.entries ≡ cs → 2 ^ 64 ≤ (resized_log u.surface.log.log).number
      by_entries [] e = absurd (some e)
      by_entries (c ∷ cs) e = rw e (omega (arith, last))

  pub resized_had : (t u : TerminalState W) (s : Surface W) (r : TerminalState W) (width height : ℕ) → 0 < width → 0 < height
      → r.surface ≡ s → string_bytes r.held ≡ string_bytes u.held → r.saved ≡ u.saved → r.replies.items ≡ u.replies.items → kept_modes r.modes ≡ option_map (resized_modes width height) (kept_modes u.modes)
      → Had width_of t u (Looked ∷ [])
      → Resizes width height u.surface s → ((u.surface.is_failed ≡ false) × (u.surface.log.log.number ≡ 2 ^ 64 - 1) × (u.surface.log.log.entries ≢ []) → ⊥)
      → Had width_of t r (Resized width height ∷ [])
  resized_had t u s r width height w k e n v q m h a numbers = record {
    view = (λ i. record { state = states i; stream = []; held = n i }) ∙ ap {B = View} (λ (x : View). record x { state = with_size width height x.state }) h.view;
    log = ap (λ x. x.log) e ∙ a.log ∙ ap (λ l. step_of_kept l (log.Resized (most_due width height))) h.log ∙ sym (resized_after t width height);
    widths = ap (λ x. x.grid.widths) e ∙ a.widths ∙ h.widths;
    shape = ap (λ x. (shown_by x).shape) e ∙ ap (λ d. d.shape) a.shown ∙ h.shape;
    ready = record {
      stays = ap (λ x. x.is_failed) e ∙ a.stays;
      shown = subst (λ x. IsDisplay (shown_by x)) (sym e) (subst IsDisplay (sym a.shown) (resized_is width height (shown_by u.surface) w k h.ready.shown));
      lawful = lawful_after width_of u r (with_size width height (view_of u).state) (ap (λ x. x.grid.widths) e ∙ a.widths) states (size_is (of u) width height (view_of u).state w k h.ready.lawful);
      fits = subst (λ (x : Surface W). x.log.log.number < 2 ^ 64) (sym e) (resized_fits u.surface s width height a h.ready.stays numbers h.ready.fits);
      plain = subst IsPrinted (sym n) h.ready.plain;
    };
  }
    where
      states : (view_of r).state ≡ with_size width height (view_of u).state
      states = λ i. record { screen = (ap (λ x. (shown_by x).screen) e ∙ ap (λ d. d.screen) a.shown) i; saved = v i; replies = q i; modes = m i }

  -- ---- events in turn

  pub after_had : (t now : TerminalState W) (xs ys : List Event) → Had width_of t now xs → final_log width_of t (xs ++ ys) ≡ final_log width_of now ys
  after_had t now xs ys h =
      ap (fold step_of_kept t.surface.log) (events_logged-append (of t) (view_of t) xs ys)
      ∙ fold-append step_of_kept t.surface.log (events_logged (of t) (view_of t) xs) (events_logged (of t) (fold (event_done (of t)) (view_of t) xs) ys)
      ∙ (λ i. fold step_of_kept (sym h.log i) (events_logged (width_of (sym h.widths i)) (sym h.view i) ys))

  pub past_first : (t : TerminalState W) (x : Event) (ys : List Event) → Past (final_log width_of t (x ∷ [])) → Past (final_log width_of t (x ∷ ys))
  past_first t x ys h =
      let first = event_logged (of t) (view_of t) x in
      let rest = events_logged (of t) (event_done (of t) (view_of t) x) ys in
      subst Past (sym (fold-append step_of_kept t.surface.log first rest))
      (past_after (fold step_of_kept t.surface.log first) rest (subst (λ xs. Past (fold step_of_kept t.surface.log xs)) (append_nil first) h))

  -- ---- items in turn

  -- the events of items of which one is refused: those of the items done, of the refused one, and of those left
  stopped_all : (done left : List Item) (item : Item) (items : List Item) → items ≡ done ++ (item ∷ left) → item_events items ≡ item_events done ++ (item_event item ∷ item_events left)
  stopped_all done left item items e = ap item_events e ∙ map-append item_event done (item ∷ left)

  pub stopped_had : (t before : TerminalState W) (done left : List Item) (item : Item) (items : List Item) → items ≡ done ++ (item ∷ left) → FoldsTo (DoesItem width_of) t done before
      → IsReady width_of t → AreEvents (item_events items) → Had width_of t before (item_events done)
  stopped_had t before done left item items e f ready events =
      leads width_of t before done f ready (are_prefix (item_events done) (item_event item ∷ item_events left) (subst AreEvents (stopped_all done left item items e) events))

  stopped_number : (t last : TerminalState W) (items : List Item) → StopsAt (DoesItem width_of) (RefusesItem width_of) t items refusal.Number last → NeedsNumber width_of t (item_events items)
  stopped_number t last items s = λ ready events.
      let all = stopped_all s.done s.left s.item items s.whole in
      let rest = item_events s.left in
      let had = stopped_had t s.before s.done s.left s.item items s.whole s.performed ready events in
      let es : AreEvents (item_events s.done ++ (item_event s.item ∷ rest)) = subst AreEvents all events in
      let one : AreEvents (item_event s.item ∷ []) = ((are_after (item_events s.done) (item_event s.item ∷ rest) es).0, tt) in
      subst (λ xs. Past (final_log width_of t xs)) (sym all)
      (subst Past (sym (after_had t s.before (item_events s.done) (item_event s.item ∷ rest) had)) (past_first s.before (item_event s.item) rest (s.refused had.ready one)))

  stopped_ready : (t last : TerminalState W) (items : List Item) → StopsAt (DoesItem width_of) (RefusesItem width_of) t items refusal.Failed last → IsReady width_of t → AreEvents (item_events items) → ⊥
  stopped_ready t last items s ready events = s.refused (stopped_had t s.before s.done s.left s.item items s.whole s.performed ready events).ready

  -- a call that fails with `Number` has events that lead past the last number
  pub halted_number : (t last : TerminalState W) (items : List Item) (h : Halted SurfaceError) → of_halted h ≡ Number → HaltsAt (DoesItem width_of) (RefusesItem width_of) t items h last → NeedsNumber width_of t (item_events items)
  halted_number t last items halted.Failed e s = cc
  halted_number t last items halted.Memory e s = cc
  halted_number t last items (halted.Refused refusal.Failed) e s = cc
  halted_number t last items (halted.Refused refusal.Number) e s = stopped_number t last items s
  halted_number t last items (halted.Refused refusal.Memory) e s = cc

  pub halted_ready : (t last : TerminalState W) (items : List Item) (h : Halted SurfaceError) → of_halted h ≡ Failed → (h ≡ halted.Failed → ⊥) → HaltsAt (DoesItem width_of) (RefusesItem width_of) t items h last → IsReady width_of t → AreEvents (item_events items) → ⊥
  halted_ready t last items halted.Failed e n s ready events = n refl
  halted_ready t last items halted.Memory e n s ready events = cc
  halted_ready t last items (halted.Refused refusal.Failed) e n s ready events = stopped_ready t last items s ready events
  halted_ready t last items (halted.Refused refusal.Number) e n s ready events = cc
  halted_ready t last items (halted.Refused refusal.Memory) e n s ready events = cc
