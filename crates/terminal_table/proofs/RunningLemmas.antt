-- Runs: what is logged for one leads to the screen after it, and states stay lawful, under either profile.
use Rattle.std.proofs.Common.{◌≡◌, ℕ, zero, suc, ◌+◌, ◌<◌, Bool, true, false, List, [], ◌∷◌, ◌++◌, fold, length, drop, refl, sym, ap, subst, ◌∙◌, arith, length-append}
use Rattle.std.specs.Prelude.{◌==◌, ◌&&◌, nat_lt, slice_index_or, Option, Some, None, if◌then◌else◌}
use Rattle.std.proofs.lemmas.List.{length-set}
use Rattle.std.proofs.lemmas.List.Sums.{fold-append}
use Rattle.cell_base.specs.Row.{Row, plain_row, set_columns}
use Rattle.cell_base.specs.Cluster.{clusters}
use Rattle.cell_base.specs.Screen.{Screen, IsScreen, carriage_return, cluster_columns, height, line_feed, put, put_run, scrolled}
use Rattle.cell_base.proofs.LawfulScreens.{put_is as put_lawful}
use Rattle.screen_change.specs.ChangeValue.{ChangeValue}
use Rattle.screen_effects.specs.Display.{Display, IsDisplay}
use Rattle.screen_effects.specs.Effect.{effect, replay}
use Rattle.screen_effects.proofs.EffectLaws.{replay_is}
use Rattle.terminal_table.specs.Changes.{run_change}
use Rattle.terminal_table.specs.Functions.{Moves, NextRow, Right}
use Rattle.terminal_table.specs.Modes.{Modes, Region, region_on}
use Rattle.terminal_table.specs.Request.{Request, Table, Xterm, Sets, SetsAlone, Switches, Repeats, Aligns, Replies, Nothing}
use Rattle.terminal_table.specs.RunTurns.{IsAlike, IsRunning}
use Rattle.terminal_table.specs.Runs.{Running, asked, changes_asked, changes_repeated, columns_for, fits, insert_request, is_put_plainly, last_cluster, prepared, put_again, put_next, run_begun, run_changes, run_changes_of, run_done, run_modes, run_screen, run_step, screen_alone, screen_asked, screen_repeated, text_as, text_changes, text_put, with_cluster, wrap_request}
use Rattle.terminal_table.specs.State.{CanBeShown, HasLast, State, IsState}
use Rattle.terminal_table.specs.Steps.{step}
use Rattle.terminal_table.specs.RunText.{IsRunText}
use Rattle.terminal_table.specs.Turns.{Turns}
use Rattle.terminal_table.specs.Xterm.{InsertCharacters, NextLine}
use Rattle.terminal_table.specs.Feeds.{feeds_plainly, next_line_request}
use Rattle.terminal_table.specs.Charsets.{charset_in_use}
use Rattle.terminal_table.proofs.CharsetLemmas.{run_in}
use Rattle.terminal_table.proofs.ClusterLemmas.{AreRunTexts, clusters_run}
use Rattle.terminal_table.proofs.RunLemmas.{no_clusters, no_text, run_turns, text_append}
use Rattle.terminal_table.proofs.ScreenLemmas.{modes_still}
use Rattle.terminal_table.proofs.StateLemmas.{HasSize, display_on, display_on_is, put_is, put_size, step_is, turned_size}
use Rattle.terminal_table.proofs.StreamLemmas.{put_width}
use Rattle.terminal_table.proofs.TurnLemmas.{screen_turns, step_turns}
use Rattle.terminal_table.proofs.XtermLemmas.{pen_stays, xterm_is, xterm_turns}

pub then_turns : (a b c : Display) (s t : Screen) → Turns a b s → Turns b c t → Turns a c t
then_turns a b c s t x y = record { screen = y.screen; shape = y.shape ∙ x.shape; sizes = λ h. y.sizes (x.sizes h) }

-- ---- screens of the same size and pen

alike_after : (a b c : Screen) → IsAlike a b → IsAlike b c → IsAlike a c
alike_after a b c x y = record { wide = y.wide ∙ x.wide; tall = y.tall ∙ x.tall; pen = y.pen ∙ x.pen }

-- a cluster that is put
written_pen : (s : Screen) (next last : Bool) → (if next then carriage_return (if last then scrolled s else record s { row = s.row + 1 }) else s).pen ≡ s.pen
written_pen s false last = refl
written_pen s true false = refl
written_pen s true true = refl

put_pen : (width_of : List ℕ → ℕ) (s : Screen) (cluster : List ℕ) → (put width_of s cluster).pen ≡ s.pen
put_pen width_of s cluster = written_pen s (nat_lt s.width (s.column + length (cluster_columns width_of s cluster))) (s.row + 1 == height s)

puts_pen : (width_of : List ℕ → ℕ) (texts : List (List ℕ)) (s : Screen) → (fold (put width_of) s texts).pen ≡ s.pen
puts_pen width_of [] s = refl
puts_pen width_of (text ∷ texts) s = puts_pen width_of texts (put width_of s text) ∙ put_pen width_of s text

as_many : {A : Type 0} (xs : List A) (x : A) → 0 < length xs → length (drop 1 xs ++ x ∷ []) ≡ length xs
as_many [] x h = absurd (omega arith)
as_many (y ∷ xs) x h = let both = length-append xs (x ∷ []) in omega (arith, both)

written_tall : (s : Screen) (next last : Bool) → 0 < height s → height (if next then carriage_return (if last then scrolled s else record s { row = s.row + 1 }) else s) ≡ height s
written_tall s false last h = refl
written_tall s true false h = refl
written_tall s true true h = as_many s.rows (plain_row s.width) h

put_tall : (width_of : List ℕ → ℕ) (s : Screen) (cluster : List ℕ) → IsScreen s → height (put width_of s cluster) ≡ height s
put_tall width_of s cluster h =
    let inside = h.row_in in
    let columns : Row = cluster_columns width_of s cluster in
    let next : Bool = nat_lt s.width (s.column + length columns) in
    let last : Bool = s.row + 1 == height s in
    let there : Screen = if next then carriage_return (if last then scrolled s else record s { row = s.row + 1 }) else s in
    length-set there.rows there.row (set_columns (slice_index_or there.rows there.row []) there.column columns) ∙ written_tall s next last (omega (arith, inside))

pub put_alike : (width_of : List ℕ → ℕ) (s : Screen) (cluster : List ℕ) → IsScreen s → IsAlike s (put width_of s cluster)
put_alike width_of s cluster h = record { wide = put_width width_of s cluster; tall = put_tall width_of s cluster h; pen = put_pen width_of s cluster }

-- ---- what may be asked for before a cluster leaves the pen

next_row_pen : (s : Screen) → (line_feed (carriage_return s)).pen ≡ s.pen
next_row_pen s = by_test (s.row + 1 == height s)
  where
    by_test : (last : Bool) → (if last then scrolled (carriage_return s) else record (carriage_return s) { row = s.row + 1 }).pen ≡ s.pen
    by_test true = refl
    by_test false = refl

-- the pen after a request
abbrev KeepsPen : Option Request → Screen → Type 0
KeepsPen request s = (screen_asked request s).pen ≡ s.pen

next_line_pen : (region : Region) (s : Screen) → KeepsPen (Some (next_line_request region s)) s
next_line_pen region s = by_test (feeds_plainly region s)
  where
    by_test : (b : Bool) → KeepsPen (Some (if b then Table NextRow else Xterm (NextLine region))) s
    by_test true = next_row_pen s
    by_test false = pen_stays (NextLine region) s

wrap_pen : (modes : Modes) (columns : ℕ) (s : Screen) → KeepsPen (wrap_request modes columns s) s
wrap_pen modes columns s = by_test (fits columns s) modes.autowrap
  where
    by_test : (b wraps : Bool) → KeepsPen (if b then None else if wraps then Some (next_line_request (region_on modes s) s) else Some (Table (Moves (Right 0)))) s
    by_test true wraps = refl
    by_test false true = next_line_pen (region_on modes s) s
    by_test false false = refl

insert_pen : (modes : Modes) (columns : ℕ) (s : Screen) → KeepsPen (insert_request modes columns s) s
insert_pen modes columns s = by_test (modes.insert && fits columns s)
  where
    by_test : (b : Bool) → KeepsPen (if b then Some (Xterm (InsertCharacters columns)) else None) s
    by_test true = pen_stays (InsertCharacters columns) s
    by_test false = refl

-- ---- a run under xterm

module _ (width_of : List ℕ → ℕ) where
  pub alone_is : (state : State) → IsState width_of state → IsState width_of (screen_alone state.screen)
  alone_is state h = record { lawful = h.lawful; whole = h.whole; narrow = h.narrow; sound = h.sound; other = tt; last = tt }

  -- what is asked for on a screen
  asked_turns : (request : Option Request) (s : Screen) (d : Display) → IsState width_of (screen_alone s) → IsDisplay d → d.screen ≡ s → Turns d (replay width_of d (changes_asked request s)) (screen_asked request s)
  asked_turns None s d h g e = screen_turns d d.screen s e
  asked_turns (Some (Table function)) s d h g e = step_turns width_of function (screen_alone s) d h g e
  asked_turns (Some (Xterm function)) s d h g e = xterm_turns width_of function (screen_alone s) d h g e
  asked_turns (Some (Sets setting function)) s d h g e = screen_turns d d.screen s e
  asked_turns (Some (SetsAlone setting)) s d h g e = screen_turns d d.screen s e
  asked_turns (Some (Switches function)) s d h g e = screen_turns d d.screen s e
  asked_turns (Some (Repeats count)) s d h g e = screen_turns d d.screen s e
  asked_turns (Some Aligns) s d h g e = screen_turns d d.screen s e
  asked_turns (Some (Replies text)) s d h g e = screen_turns d d.screen s e
  asked_turns (Some Nothing) s d h g e = screen_turns d d.screen s e

  asked_is : (request : Option Request) (s : Screen) → IsState width_of (screen_alone s) → IsState width_of (screen_alone (screen_asked request s))
  asked_is None s h = h
  asked_is (Some (Table function)) s h = alone_is (step function (screen_alone s)) (step_is width_of function (screen_alone s) h)
  asked_is (Some (Xterm function)) s h = xterm_is width_of function (screen_alone s) h
  asked_is (Some (Sets setting function)) s h = h
  asked_is (Some (SetsAlone setting)) s h = h
  asked_is (Some (Switches function)) s h = h
  asked_is (Some (Repeats count)) s h = h
  asked_is (Some Aligns) s h = h
  asked_is (Some (Replies text)) s h = h
  asked_is (Some Nothing) s h = h

  asked_size : (request : Option Request) (s : Screen) → IsState width_of (screen_alone s) → HasSize (screen_asked request s) s
  asked_size request s h =
      let on = display_on_is width_of (screen_alone s) h in
      turned_size width_of (changes_asked request s) s (screen_asked request s) on (asked_turns request s (display_on s) h on refl).screen

  -- a display that shows the screen before a run
  module _ (d : Display) (before : Screen) where
    -- more changes, to another screen
    more : (run : Running) (cs : List ChangeValue) (next : Screen) → IsRunning width_of d before run → IsState width_of (screen_alone next) → IsAlike run.led next
        → Turns (replay width_of d run.changes) (replay width_of (replay width_of d run.changes) cs) next
        → IsRunning width_of d before (record { changes = run.changes ++ cs; led = next; text = []; screen = next })
    more run cs next h is alike turns =
        let here : Display = replay width_of d run.changes in
        let joined : replay width_of d (run.changes ++ cs) ≡ replay width_of here cs = fold-append (effect width_of) d run.changes cs in
        let both = alike_after before run.led next h.led alike in
        record {
          turns = subst (λ (x : Display). Turns d x next) (sym joined) (then_turns d here (replay width_of here cs) run.led next h.turns turns);
          shown = subst IsDisplay (sym joined) (replay_is width_of cs here h.shown);
          state = is;
          led = both;
          text = no_text;
          lawful = is.lawful;
          screen = both;
        }

    pub text_put_runs : (run : Running) → IsRunning width_of d before run → IsRunning width_of d before (text_put width_of run)
    text_put_runs run h =
        let size = put_size width_of run.text run.led h.text h.state in
        more run (text_changes run.text) (put_run width_of run.led run.text) h (put_is width_of run.text run.led h.text h.state)
        (record { wide = size.wide; tall = size.tall; pen = puts_pen width_of (clusters run.text) run.led }) (turn run.text h.text)
      where
        here : Display
        here = replay width_of d run.changes

        turn : (text : List ℕ) → IsRunText text → Turns here (replay width_of here (text_changes text)) (put_run width_of run.led text)
        turn [] t = record { screen = h.turns.screen ∙ sym (ap (fold (put width_of) run.led) no_clusters); shape = refl; sizes = λ x. x }
        turn (byte ∷ bytes) t =
            subst (λ (s : Screen). Turns here (effect width_of here (run_change (byte ∷ bytes))) (put_run width_of s (byte ∷ bytes))) h.turns.screen
            (run_turns width_of (byte ∷ bytes) here t.printed)

    asked_runs : (request : Option Request) (run : Running) → KeepsPen request run.led → IsRunning width_of d before run → IsRunning width_of d before (asked request run)
    asked_runs request run pen h =
        let here : Display = replay width_of d run.changes in
        let size = asked_size request run.led h.state in
        more run (changes_asked request run.led) (screen_asked request run.led) h (asked_is request run.led h.state)
        (record { wide = size.wide; tall = size.tall; pen = pen }) (asked_turns request run.led here h.state h.shown h.turns.screen)

    pub wrapped_runs : (modes : Modes) (columns : ℕ) (run : Running) → IsRunning width_of d before run → IsRunning width_of d before (asked (wrap_request modes columns run.led) run)
    wrapped_runs modes columns run = asked_runs (wrap_request modes columns run.led) run (wrap_pen modes columns run.led)

    pub inserted_runs : (modes : Modes) (columns : ℕ) (run : Running) → IsRunning width_of d before run → IsRunning width_of d before (asked (insert_request modes columns run.led) run)
    inserted_runs modes columns run = asked_runs (insert_request modes columns run.led) run (insert_pen modes columns run.led)

    pub prepared_runs : (modes : Modes) (columns : ℕ) (run : Running) → IsRunning width_of d before run → IsRunning width_of d before (prepared modes columns run)
    prepared_runs modes columns run h = inserted_runs modes columns (asked (wrap_request modes columns run.led) run) (wrapped_runs modes columns run h)

    pub cluster_runs : (run : Running) (cluster : List ℕ) → IsRunning width_of d before run → IsRunText cluster → IsRunning width_of d before (with_cluster width_of run cluster)
    cluster_runs run cluster h t = record {
      turns = h.turns;
      shown = h.shown;
      state = h.state;
      led = h.led;
      text = text_append run.text cluster h.text t;
      lawful = put_lawful width_of run.screen cluster h.lawful;
      screen = alike_after before run.screen (put width_of run.screen cluster) h.screen (put_alike width_of run.screen cluster h.lawful);
    }

    either_runs : (b : Bool) (x y : Running) → IsRunning width_of d before x → IsRunning width_of d before y → IsRunning width_of d before (if b then x else y)
    either_runs true x y h k = h
    either_runs false x y h k = k

    pub next_runs : (modes : Modes) (run : Running) (cluster : List ℕ) → IsRunning width_of d before run → IsRunText cluster → IsRunning width_of d before (put_next modes width_of run cluster)
    next_runs modes run cluster h t =
        let columns = columns_for width_of run.screen cluster in
        let ended : Running = text_put width_of run in
        let ready : Running = prepared modes columns ended in
        let is : IsRunning width_of d before ready = prepared_runs modes columns ended (text_put_runs run h) in
        either_runs (is_put_plainly modes columns run.screen) (with_cluster width_of run cluster) (if fits columns ready.led then with_cluster width_of ready cluster else ready)
        (cluster_runs run cluster h t)
        (either_runs (fits columns ready.led) (with_cluster width_of ready cluster) ready (cluster_runs ready cluster is t) is)

    pub all_run : (modes : Modes) (texts : List (List ℕ)) (run : Running) → AreRunTexts texts → IsRunning width_of d before run → IsRunning width_of d before (fold (put_next modes width_of) run texts)
    all_run modes [] run t h = h
    all_run modes (text ∷ texts) run t h = all_run modes texts (put_next modes width_of run text) t.1 (next_runs modes run text h t.0)

    pub begun_runs : IsState width_of (screen_alone before) → IsDisplay d → d.screen ≡ before → IsRunning width_of d before (run_begun before)
    begun_runs h g e = record {
      turns = record { screen = e; shape = refl; sizes = λ x. x };
      shown = g;
      state = h;
      led = record { wide = refl; tall = refl; pen = refl };
      text = no_text;
      lawful = h.lawful;
      screen = record { wide = refl; tall = refl; pen = refl };
    }

    pub done_runs : (modes : Modes) (text : List ℕ) → IsRunText text → IsState width_of (screen_alone before) → IsDisplay d → d.screen ≡ before → IsRunning width_of d before (run_done modes width_of before text)
    done_runs modes text t h g e = text_put_runs (fold (put_next modes width_of) (run_begun before) (clusters text)) (all_run modes (clusters text) (run_begun before) (clusters_run text t) (begun_runs h g e))

  pub run_step_turns : (text : List ℕ) (state : State) (d : Display) → IsRunText text → IsState width_of state → IsDisplay d → d.screen ≡ state.screen → Turns d (replay width_of d (run_changes_of width_of text state)) (run_step width_of text state).screen
  run_step_turns text state d t h g e = by_modes state.modes
    where
      by_modes : (modes : Option Modes) → Turns d (replay width_of d (run_changes modes width_of state.screen text)) (run_screen modes width_of state.screen text)
      by_modes None = subst (λ (s : Screen). Turns d (effect width_of d (run_change text)) (put_run width_of s text)) e (run_turns width_of text d t.printed)
      by_modes (Some modes) = (done_runs d state.screen modes (text_as modes text) (run_in (charset_in_use modes.charsets) text t) (alone_is state h) g e).turns

  pub run_is : (text : List ℕ) (state : State) → IsRunText text → IsState width_of state → IsState width_of (run_step width_of text state)
  run_is text state t h =
      let parts = by_modes state.modes in
      let wide = parts.1 in
      let tall = parts.2 in
      let inside = h.lawful.row_in in
      let is = parts.0 in
      record {
        lawful = is.lawful;
        whole = is.whole;
        narrow = h.narrow;
        sound = is.sound;
        other = run_can state.modes (modes_still width_of state.screen (run_step width_of text state).screen state.modes wide tall (omega (arith, inside, tall)) h.other);
        last = run_last state.modes;
      }
    where
      run_can : (modes : Option Modes) → CanBeShown width_of (run_step width_of text state).screen modes → CanBeShown width_of (run_step width_of text state).screen (run_modes text modes)
      run_can None c = tt
      run_can (Some modes) c = c

      run_last : (modes : Option Modes) → HasLast (run_modes text modes)
      run_last None = tt
      run_last (Some modes) = run_in (charset_in_use modes.charsets) text t

      alone : IsState width_of (screen_alone state.screen)
      alone = alone_is state h

      by_modes : (modes : Option Modes) → let next = run_screen modes width_of state.screen text in IsState width_of (screen_alone next) × (next.width ≡ state.screen.width) × (height next ≡ height state.screen)
      by_modes None = let size = put_size width_of text state.screen t alone in (put_is width_of text state.screen t alone, size.wide, size.tall)
      by_modes (Some modes) = let is = done_runs (display_on state.screen) state.screen modes (text_as modes text) (run_in (charset_in_use modes.charsets) text t) alone (display_on_is width_of state h) refl in (is.state, is.led.wide, is.led.tall)

  -- ---- a cluster that is repeated

  last_run : (texts : List (List ℕ)) (cluster : List ℕ) → IsRunText cluster → AreRunTexts texts → IsRunText (fold (λ _ next. next) cluster texts)
  last_run [] cluster h t = h
  last_run (text ∷ texts) cluster h t = last_run texts text t.0 t.1

  pub last_runs : (modes : Modes) → HasLast (Some modes) → IsRunText (last_cluster modes.last)
  last_runs modes h = last_run (clusters modes.last) [] no_text (clusters_run modes.last h)

  -- one of them
  again_runs : (modes : Modes) (s : Screen) (d : Display) → HasLast (Some modes) → IsState width_of (screen_alone s) → IsDisplay d → d.screen ≡ s → IsRunning width_of d s (put_again modes width_of s)
  again_runs modes s d l h g e = done_runs d s modes (last_cluster modes.last) (last_runs modes l) h g e

  pub repeated_turns : (modes : Modes) (count : ℕ) (s : Screen) (d : Display) → HasLast (Some modes) → IsState width_of (screen_alone s) → IsDisplay d → d.screen ≡ s
      → Turns d (replay width_of d (changes_repeated modes width_of count s)) (screen_repeated modes width_of count s)
  repeated_turns modes zero s d l h g e = screen_turns d d.screen s e
  repeated_turns modes (suc count) s d l h g e =
      let one = again_runs modes s d l h g e in
      let put = put_again modes width_of s in
      let here : Display = replay width_of d put.changes in
      let there = screen_repeated modes width_of count put.led in
      let rest = repeated_turns modes count put.led here l one.state one.shown one.turns.screen in
      subst (λ (x : Display). Turns d x there) (sym (fold-append (effect width_of) d put.changes (changes_repeated modes width_of count put.led)))
      (then_turns d here (replay width_of here (changes_repeated modes width_of count put.led)) put.led there one.turns rest)

  -- the screen after them
  pub repeated_is : (modes : Modes) (count : ℕ) (s : Screen) → HasLast (Some modes) → IsState width_of (screen_alone s) → IsState width_of (screen_alone (screen_repeated modes width_of count s)) × HasSize (screen_repeated modes width_of count s) s
  repeated_is modes zero s l h = (h, record { wide = refl; tall = refl })
  repeated_is modes (suc count) s l h =
      let one = again_runs modes s (display_on s) l h (display_on_is width_of (screen_alone s) h) refl in
      let rest = repeated_is modes count (put_again modes width_of s).led l one.state in
      (rest.0, record { wide = rest.1.wide ∙ one.led.wide; tall = rest.1.tall ∙ one.led.tall })
