-- Terminals that go on by histories.
use Rattle.std.proofs.Common.{◌≡◌, ◌≢◌, ℕ, ◌+◌, ◌<◌, ◌≤◌, ◌^◌, Bool, true, false, List, [], ◌∷◌, ◌++◌, length, map, fold, inl, inr, refl, sym, ap, subst, ◌∙◌, arith}
use Rattle.std.specs.Prelude.{◌⊎◌, ◌==◌, Option, Some, None, if◌then◌else◌}
use Rattle.std.specs.String.{string_bytes}
use Rattle.std.proofs.lemmas.Grind.{flat_map-append}
use Rattle.std.proofs.lemmas.List.Sums.{fold-append}
use Rattle.std.proofs.lemmas.Str.{IsUtf8-string_bytes}
use Rattle.cell_base.specs.Screen.{Screen}
use Rattle.screen_log.specs.LogSteps.{LogStep, Logged, Sized, step_of_kept}
use Rattle.escape_framing.specs.Framed.{IsReached}
use Rattle.escape_framing.specs.Cut.{newly_decided}
use Rattle.escape_framing.specs.Held.{Held, held_of}
use Rattle.escape_framing.proofs.Existence.CutLemmas.{is_the_cut}
use Rattle.escape_framing.proofs.PlacedLemmas.{newly_join}
use Rattle.escape_stream.specs.Items.{Item, items, items_of}
use Rattle.escape_stream.specs.StreamActions.{actions_of_dispatch, actions_of}
use Rattle.escape_stream.proofs.SpellLemmas.{pieces_spell}
use Rattle.terminal.specs.Headline.{StandsAt, GoesBy}
use Rattle.terminal.specs.Refusals.{HasNumbersToLook, NeedsNumber}
use Rattle.terminal.specs.Terminal.{Terminal}
use Rattle.terminal_steps.specs.Events as steps
use Rattle.terminal_steps.specs.Events.{IsReady, Had, view_of}
use Rattle.terminal_steps.specs.Memory.{TakesMemory}
use Rattle.terminal_steps.specs.ProfileView.{kept_modes}
use Rattle.terminal_steps.specs.Items.{item_event, item_events, log_after_items, Leads, ParserNeedsMemory, SomeNeedsMemory}
use Rattle.terminal_steps.specs.declared.state.TerminalState.{TerminalState}
use Rattle.xterm_steps.specs.Additions.{IsChangeRefused}
use Rattle.terminal_steps.proofs.SpellLemmas.{call_state, call_held, call_logged, call_events, none_newly}
use Rattle.terminal_table.specs.Changes.{run_change}
use Rattle.terminal_table.specs.History.{History, Piece, Look, Resize, Forget, Event, Act, Looked, Resized, Forgot}
use Rattle.terminal_table.specs.History as table
use Rattle.terminal_table.specs.Logged.{events_logged, logged, log_after, run_logged}
use Rattle.terminal_table.specs.Meaning.{View, event_done, after}
use Rattle.terminal_table.specs.Modes.{Modes}
use Rattle.terminal_table.specs.Runs.{run_changes}
use Rattle.terminal_table.specs.Turns.{IsView, AreEvents}
use Rattle.terminal_table.proofs.JoinLemmas.{with_stream, all_done_with, logged_with, after_joins, logged_joins, PiecesJoin, cut_after, cut_logged, nothing_after}

pub actions_join : PiecesJoin
actions_join stream x y = ap actions_of (newly_join stream x y) ∙ flat_map-append actions_of_dispatch (newly_decided stream x) (newly_decided (stream ++ x) y)

-- ---- events that are those of a history

-- the events lead a view to the state and run of the history, and log the same steps
pub record AreOf (f : List ℕ → ℕ) (view : View) (events : List Event) (history : History) : Type 0 where
  pub state : (fold (event_done f) view events).state ≡ (after f view history).state
  pub run : (fold (event_done f) view events).held ≡ (after f view history).held
  pub logged : events_logged f view events ≡ logged f view history

pub looked : (f : List ℕ → ℕ) (view : View) → AreOf f view (Looked ∷ []) (Look ∷ [])
looked f view = record { state = refl; run = refl; logged = refl }

pub resized : (width height : ℕ) (f : List ℕ → ℕ) (view : View) → AreOf f view (Resized width height ∷ []) (Resize width height ∷ [])
resized width height f view = record { state = refl; run = refl; logged = refl }

pub forgot : (number : ℕ) (f : List ℕ → ℕ) (view : View) → AreOf f view (Forgot number ∷ []) (Forget number ∷ [])
forgot number f view = record { state = refl; run = refl; logged = refl }

pub pieced : (bytes : List ℕ) (f : List ℕ → ℕ) (view : View) → AreOf f view (item_events (items view.stream bytes)) (Piece bytes ∷ [])
pieced bytes f view = record {
  state = call_state newly_join pieces_spell f view bytes;
  run = call_held newly_join pieces_spell f view bytes;
  logged = call_logged newly_join pieces_spell f view bytes;
}

-- ---- a look that is refused memory

-- what is logged for a held run
abbrev ended : Option Modes → (List ℕ → ℕ) → Screen → List ℕ → List LogStep
ended modes f screen held = if length held == 0 then [] else map Logged (run_changes modes f screen held)

-- on a plain terminal its one change has a number
pub refused_look : (modes : Option Modes) (f : List ℕ → ℕ) (screen : Screen) (held : List ℕ) (log : Sized) (failed : Bool) → IsChangeRefused (ended modes f screen held) log.log.number failed
    → ((fold step_of_kept log (ended modes f screen held ++ [])).log.number < 2 ^ 64) ⊎ ((modes ≢ None) × IsChangeRefused (ended modes f screen held) log.log.number true)
refused_look None f screen held log failed refused = inl (by_test (length held == 0))
  where
    by_test : (b : Bool) → (fold step_of_kept log ((if b then [] else Logged (run_change held) ∷ []) ++ [])).log.number < 2 ^ 64
    by_test true = let next = refused.1 in omega (arith, next)
    by_test false = refused.1
refused_look (Some modes) f screen held log failed refused = inr ((λ (e : Some modes ≡ None). absurd cc), (refused.0, refused.1, refl))

-- ---- a terminal by its parts

abbrev pub with_parts : {W : Type 0} → TerminalState W → Held → Terminal W
with_parts s unfinished = record { surface = s.surface; saved = s.saved; replies = s.replies.items; modes = kept_modes s.modes; run = string_bytes s.held; unfinished = unfinished; is_failed = false }

module _ {W : Type 0} (width_of : W → List ℕ → ℕ) where
  abbrev of : Terminal W → List ℕ → ℕ
  of t = width_of t.surface.grid.widths

  -- at a view, the parts of a terminal have the view's state and run
  same_view : (s : TerminalState W) (u : Held) (view : View) → StandsAt (with_parts s u) view → view_of s ≡ with_stream [] view
  same_view s u view st = λ i. record { state = st.state i; stream = []; held = st.run i }

  some_view : (s : TerminalState W) (u : Held) → (reached : IsReached u) → (view : View) × StandsAt (with_parts s u) view
  some_view s u reached = (record { state = (view_of s).state; stream = reached.0; held = (view_of s).held }, record { state = refl; run = refl; unfinished = reached.1 })

  pub stands_somewhere : (s : TerminalState W) (u : Held) (now : Terminal W) → IsReached u → IsReady width_of s → with_parts s u ≡ now → (view : View) × StandsAt now view × IsView (of now) view
  unfolding some_view
  stands_somewhere s u now reached ready same =
      let some = some_view s u reached in
      subst (λ (t : Terminal W). (view : View) × StandsAt t view × IsView (of t) view) same
      (some.0, some.1, record { lawful = ready.lawful; plain = record { utf8 = IsUtf8-string_bytes s.held; printed = ready.plain } })

  pub went : (s r : TerminalState W) (u w : Held) (history : History) (events : View → List Event)
      → IsReached u
      → ((view : View) → AreOf (width_of s.surface.grid.widths) view (events view) history)
      → ((view : View) → u ≡ held_of view.stream → w ≡ held_of (view.stream ++ table.pieces history))
      → ((view : View) → u ≡ held_of view.stream → Had width_of s r (events view))
      → GoesBy width_of (with_parts s u) (with_parts r w) history
  went s r u w history events reached are ends had =
      let some = some_view s u reached in
      record {
        stands = λ view st. record {
          state = ap (λ v. v.state) (shown view st) ∙ (are view).state;
          run = ap (λ v. v.held) (shown view st) ∙ (are view).run;
          unfinished = ends view st.unfinished;
        };
        log = λ view st. (had view st.unfinished).log ∙ ap (fold step_of_kept s.surface.log) (logs view st ∙ (are view).logged);
        widths = (had some.0 some.1.unfinished).widths;
        sound = refl;
      }
    where
      f : List ℕ → ℕ
      f = width_of s.surface.grid.widths

      shown : (view : View) → StandsAt (with_parts s u) view → view_of r ≡ with_stream [] (fold (event_done f) view (events view))
      shown view st = (had view st.unfinished).view ∙ ap (λ v. fold (event_done f) v (events view)) (same_view s u view st) ∙ all_done_with f view [] (events view)

      logs : (view : View) → StandsAt (with_parts s u) view → events_logged f (view_of s) (events view) ≡ events_logged f view (events view)
      logs view st = ap (λ v. events_logged f v (events view)) (same_view s u view st) ∙ logged_with f view [] (events view)

  -- where the events lead past the last number, the history needs a number
  pub past : (s : TerminalState W) (u : Held) (history : History) (events : View → List Event)
      → ((view : View) → AreOf (width_of s.surface.grid.widths) view (events view) history)
      → ((view : View) → u ≡ held_of view.stream → 2 ^ 64 ≤ (steps.final_log width_of s (events view)).log.number)
      → NeedsNumber width_of (with_parts s u) history
  past s u history events are number = λ view st.
      subst (λ (l : Sized). 2 ^ 64 ≤ l.log.number)
      (ap (fold step_of_kept s.surface.log)
      (ap (λ v. events_logged (width_of s.surface.grid.widths) v (events view)) (same_view s u view st) ∙ logged_with (width_of s.surface.grid.widths) view [] (events view) ∙ (are view).logged))
      (number view st.unfinished)

  -- ---- a look

  -- there are numbers for it
  pub look_has : (s : TerminalState W) (u : Held) (now : Terminal W) (failed : Bool) → with_parts s u ≡ now → (steps.final_log width_of s (Looked ∷ [])).log.number < 2 ^ 64 → HasNumbersToLook width_of now failed
  look_has s u now failed same fits =
      subst (λ t. HasNumbersToLook width_of t failed) same
      (λ view st. inl (subst (λ (v : View). (fold step_of_kept s.surface.log (run_logged (width_of s.surface.grid.widths) v ++ [])).log.number < 2 ^ 64) (same_view s u view st) fits))

  -- it is refused memory
  pub look_takes : (s : TerminalState W) (u : Held) (now : Terminal W) (failed : Bool) → with_parts s u ≡ now
      → TakesMemory (width_of s.surface.grid.widths) (view_of s) s.surface.log Looked failed → HasNumbersToLook width_of now true
  look_takes s u now failed same takes =
      subst (λ t. HasNumbersToLook width_of t true) same
      (λ view st. refused_look view.state.modes (width_of s.surface.grid.widths) view.state.screen view.held s.surface.log failed
      (subst (λ (v : View). IsChangeRefused (run_logged (width_of s.surface.grid.widths) v) s.surface.log.log.number failed) (same_view s u view st) takes))

  -- ---- a chunk

  pub events_are : (stream bytes : List ℕ) → AreEvents (item_events (items stream bytes))
  events_are stream bytes = call_events is_the_cut newly_join pieces_spell stream bytes

  -- the unfinished bytes after it
  piece_ends : (u w : Held) (bytes : List ℕ) → ((stream : List ℕ) → u ≡ held_of stream → w ≡ held_of (stream ++ bytes)) → (view : View) → u ≡ held_of view.stream → w ≡ held_of (view.stream ++ table.pieces (Piece bytes ∷ []))
  piece_ends u w bytes ends view e = ends view.stream e ∙ ap (λ xs. held_of (view.stream ++ xs)) (sym (nothing_after bytes))

  pub fed : (s r : TerminalState W) (u w : Held) (now : Terminal W) (bytes : List ℕ) → IsReached u → IsReady width_of s → with_parts s u ≡ now
      → ((stream : List ℕ) → u ≡ held_of stream → Leads width_of s r (items stream bytes))
      → ((stream : List ℕ) → u ≡ held_of stream → w ≡ held_of (stream ++ bytes))
      → GoesBy width_of now (with_parts r w) (Piece bytes ∷ [])
  fed s r u w now bytes reached ready same takes ends =
      subst (λ t. GoesBy width_of t (with_parts r w) (Piece bytes ∷ [])) same
      (went s r u w (Piece bytes ∷ []) (λ view. item_events (items view.stream bytes)) reached (pieced bytes (width_of s.surface.grid.widths)) (piece_ends u w bytes ends)
      (λ view e. takes view.stream e ready (events_are view.stream bytes)))

  pub fed_ready : (s r : TerminalState W) (u : Held) (bytes : List ℕ) → IsReached u → IsReady width_of s
      → ((stream : List ℕ) → u ≡ held_of stream → Leads width_of s r (items stream bytes)) → IsReady width_of r
  fed_ready s r u bytes reached ready takes = (takes reached.0 reached.1 ready (events_are reached.0 bytes)).ready

  pub fed_reached : (u w : Held) (bytes : List ℕ) → IsReached u → ((stream : List ℕ) → u ≡ held_of stream → w ≡ held_of (stream ++ bytes)) → IsReached w
  fed_reached u w bytes reached ends = (reached.0 ++ bytes, ends reached.0 reached.1)

  pub fed_past : (s : TerminalState W) (u : Held) (now : Terminal W) (bytes : List ℕ) → IsReady width_of s → with_parts s u ≡ now
      → ((stream : List ℕ) → u ≡ held_of stream → steps.NeedsNumber width_of s (item_events (items stream bytes))) → NeedsNumber width_of now (Piece bytes ∷ [])
  fed_past s u now bytes ready same numbers =
      subst (λ t. NeedsNumber width_of t (Piece bytes ∷ [])) same
      (past s u (Piece bytes ∷ []) (λ view. item_events (items view.stream bytes)) (pieced bytes (width_of s.surface.grid.widths))
      (λ view e. numbers view.stream e ready (events_are view.stream bytes)))

  -- the memory that an event takes doesn't depend on the view's stream
  taken_with : (f : List ℕ → ℕ) (stream : List ℕ) (view : View) (log : Sized) (event : Event) (failed : Bool) → TakesMemory f (with_stream stream view) log event failed → TakesMemory f view log event failed
  taken_with f stream view log (Act action) failed h = h
  taken_with f stream view log Looked failed h = h
  taken_with f stream view log (Resized width height) failed h = h
  taken_with f stream view log (Forgot number) failed h = h

  fits_at : (f : List ℕ → ℕ) (s view : View) (log : Sized) (items : List Item) → s ≡ with_stream [] view → (log_after_items f s log items).log.number < 2 ^ 64 → (log_after_items f view log items).log.number < 2 ^ 64
  fits_at f s view log items same fits =
      let es = item_events items in
      subst (λ (l : Sized). l.log.number < 2 ^ 64) (ap (λ (v : View). fold step_of_kept log (events_logged f v es)) same ∙ ap (fold step_of_kept log) (logged_with f view [] es)) fits

  early_at : (f : List ℕ → ℕ) (s view : View) (log : Sized) (stream bytes : List ℕ) → s ≡ with_stream [] view → ParserNeedsMemory f s log stream bytes → ParserNeedsMemory f view log stream bytes
  early_at f s view log stream bytes same early = record {
    done = early.done;
    left = early.left;
    whole = early.whole;
    fits = fits_at f s view log (items_of early.done) same early.fits;
    takes = early.takes;
  }

  some_at : (f : List ℕ → ℕ) (s view : View) (log : Sized) (items : List Item) (failed : Bool) → s ≡ with_stream [] view → SomeNeedsMemory f s log items failed → SomeNeedsMemory f view log items failed
  some_at f s view log items failed same some =
      let es = item_events some.done in
      let log_of : List LogStep → Sized = λ steps. fold step_of_kept log steps in
      record {
        done = some.done;
        item = some.item;
        left = some.left;
        whole = some.whole;
        fits = fits_at f s view log some.done same some.fits;
        takes = taken_with f [] (fold (event_done f) view es) (log_of (events_logged f view es)) (item_event some.item) failed
            (subst (λ (steps : List LogStep). TakesMemory f (with_stream [] (fold (event_done f) view es)) (log_of steps) (item_event some.item) failed) (logged_with f view [] es)
            (subst (λ (v : View). TakesMemory f v (log_of (events_logged f (with_stream [] view) es)) (item_event some.item) failed) (all_done_with f view [] es)
            (subst (λ (v : View). TakesMemory f (fold (event_done f) v es) (log_of (events_logged f v es)) (item_event some.item) failed) same some.takes)));
      }

  pub fed_memory : (s : TerminalState W) (u : Held) (now : Terminal W) (bytes : List ℕ) (failed : Bool) → IsReady width_of s → with_parts s u ≡ now
      → ((stream : List ℕ) → u ≡ held_of stream → IsReady width_of s → AreEvents (item_events (items stream bytes))
      → ParserNeedsMemory (width_of s.surface.grid.widths) (view_of s) s.surface.log stream bytes ⊎ SomeNeedsMemory (width_of s.surface.grid.widths) (view_of s) s.surface.log (items stream bytes) failed)
      → (view : View) → StandsAt now view → ParserNeedsMemory (of now) view now.surface.log view.stream bytes ⊎ SomeNeedsMemory (of now) view now.surface.log (items view.stream bytes) failed
  fed_memory s u now bytes failed ready same takes =
      subst (λ (t : Terminal W). (view : View) → StandsAt t view → ParserNeedsMemory (of t) view t.surface.log view.stream bytes ⊎ SomeNeedsMemory (of t) view t.surface.log (items view.stream bytes) failed) same
      (λ view st. in_view view st (takes view.stream st.unfinished ready (events_are view.stream bytes)))
    where
      f : List ℕ → ℕ
      f = width_of s.surface.grid.widths

      in_view : (view : View) → StandsAt (with_parts s u) view → ParserNeedsMemory f (view_of s) s.surface.log view.stream bytes ⊎ SomeNeedsMemory f (view_of s) s.surface.log (items view.stream bytes) failed
          → ParserNeedsMemory f view s.surface.log view.stream bytes ⊎ SomeNeedsMemory f view s.surface.log (items view.stream bytes) failed
      in_view view st (inl early) = inl (early_at f (view_of s) view s.surface.log view.stream bytes (same_view s u view st) early)
      in_view view st (inr some) = inr (some_at f (view_of s) view s.surface.log (items view.stream bytes) failed (same_view s u view st) some)

  pub fed_sound : (s : TerminalState W) (u : Held) (bytes : List ℕ) → IsReached u → IsReady width_of s
      → ((stream : List ℕ) → u ≡ held_of stream → IsReady width_of s → AreEvents (item_events (items stream bytes)) → ⊥) → ⊥
  fed_sound s u bytes reached ready never = never reached.0 reached.1 ready (events_are reached.0 bytes)

  -- ---- histories in turn

  pub log_joins : (f : List ℕ → ℕ) (view : View) (log : Sized) (a b : History) → log_after f view log (a ++ b) ≡ log_after f (after f view a) (log_after f view log a) b
  log_joins f view log a b = ap (fold step_of_kept log) (logged_joins f view a b) ∙ fold-append step_of_kept log (logged f view a) (logged f (after f view a) b)

  pub in_turn : (x y z : Terminal W) (a b : History) → GoesBy width_of x y a → GoesBy width_of y z b → GoesBy width_of x z (a ++ b)
  in_turn x y z a b g h = record {
    stands = λ view st. subst (StandsAt z) (ap (λ w. after (width_of w) (after (of x) view a) b) g.widths ∙ sym (after_joins (of x) view a b)) (h.stands (after (of x) view a) (g.stands view st));
    log = λ view st. h.log (after (of x) view a) (g.stands view st)
        ∙ (λ i. log_after (width_of (g.widths i)) (after (of x) view a) (g.log view st i) b)
        ∙ sym (log_joins (of x) view x.surface.log a b);
    widths = h.widths ∙ g.widths;
    sound = h.sound;
  }

  -- feeding two chunks leads where feeding their bytes joined does
  pub joined : (x z : Terminal W) (a b : List ℕ) → GoesBy width_of x z (Piece a ∷ Piece b ∷ []) → GoesBy width_of x z (Piece (a ++ b) ∷ [])
  joined x z a b g = record {
    stands = λ view st. subst (StandsAt z) (cut_after actions_join (of x) view a b []) (g.stands view st);
    log = λ view st. g.log view st ∙ ap (fold step_of_kept x.surface.log) (cut_logged actions_join (of x) view a b []);
    widths = g.widths;
    sound = g.sound;
  }

  -- ---- an empty chunk

  no_events : (stream : List ℕ) → table.events stream (Piece [] ∷ []) ≡ []
  no_events stream = ap (λ ds. map Act (actions_of ds) ++ []) (none_newly stream)

  view_stays : (f : List ℕ → ℕ) (view : View) → after f view (Piece [] ∷ []) ≡ with_stream (view.stream ++ []) view
  view_stays f view = ap (λ es. with_stream (view.stream ++ []) (fold (event_done f) view es)) (no_events view.stream)

  pub stays : (x : Terminal W) → x.is_failed ≡ false → GoesBy width_of x x (Piece [] ∷ [])
  stays x sound = record {
    stands = λ view st. subst (StandsAt x) (sym (view_stays (of x) view)) (record { state = st.state; run = st.run; unfinished = st.unfinished ∙ ap held_of (sym (nothing_after view.stream)) });
    log = λ view st. ap (λ es. fold step_of_kept x.surface.log (events_logged (of x) view es)) (sym (no_events view.stream));
    widths = refl;
    sound = sound;
  }
