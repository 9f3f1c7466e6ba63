-- Runs: the changes that are logged for one have encodings, and the screen after it is spelled, under either profile; and
-- so it is where the last cluster of a run is repeated.
use Rattle.std.proofs.Common.{◌≡◌, ℕ, zero, suc, Bool, true, false, List, [], ◌∷◌, ◌++◌, fold, refl, inl, subst}
use Rattle.std.specs.Prelude.{◌&&◌, Option, Some, None, if◌then◌else◌}
use Rattle.cell_base.specs.Cluster.{clusters}
use Rattle.cell_base.specs.Screen.{Screen, height, put_run}
use Rattle.cell_base.proofs.Fields.{all_joined}
use Rattle.screen_change.specs.ChangeValue.{ChangeValue, Text}
use Rattle.screen_effects.specs.Display.{Display, IsDisplay}
use Rattle.terminal_table.specs.Changes.{run_change}
use Rattle.terminal_table.specs.Charsets.{Charset, charset_in_use}
use Rattle.terminal_table.specs.Functions as table
use Rattle.terminal_table.specs.Modes.{Modes, region_on}
use Rattle.terminal_table.specs.Led.{led}
use Rattle.terminal_table.specs.Request.{Request, Table, Xterm, Sets, SetsAlone, Switches, Repeats, Aligns, Replies, Nothing}
use Rattle.terminal_table.specs.RunTurns.{IsRunning}
use Rattle.terminal_table.specs.Runs.{Running, asked, changes_asked, changes_repeated, columns_for, fits, insert_request, is_put_plainly, last_cluster, prepared, put_again, put_next, run_begun, run_changes, run_changes_of, run_done, run_screen, run_step, screen_alone, screen_asked, screen_repeated, text_as, text_changes, text_put, with_cluster, wrap_request}
use Rattle.terminal_table.specs.State.{HasLast, State, IsState}
use Rattle.terminal_table.specs.RunText.{IsRunText}
use Rattle.terminal_table.specs.Xterm as own
use Rattle.terminal_table.specs.Xterm.{xterm_screen}
use Rattle.terminal_table.specs.Feeds.{next_line_request}
use Rattle.terminal_table.proofs.CharsetLemmas.{run_in}
use Rattle.terminal_table.proofs.RunLemmas.{run_turns}
use Rattle.terminal_table.proofs.RunningLemmas.{alone_is, begun_runs, done_runs, last_runs, next_runs, text_put_runs, wrapped_runs}
use Rattle.terminal_table.proofs.StateLemmas.{HasSize}
use Rattle.terminal_table.proofs.XtermLemmas.{xterm_follows}
use Rattle.terminal_render.specs.Spelling.{IsSpelledRun, IsSpelledText, IsSpelledScreen, IsSpelledState, HaveEncodings}
use Rattle.terminal_render.proofs.AskedLemmas.{IsSpelledAsked, maybe, next_asked}
use Rattle.terminal_render.proofs.ChangeLemmas.{is_encoded}
use Rattle.terminal_render.proofs.DisplayLemmas.{effect_spelled}
use Rattle.terminal_render.proofs.RequestLemmas.{changes_have, display_on, display_on_is, moved_has, step_spelled}
use Rattle.terminal_render.proofs.TextLemmas.{AreSpelledRuns, run_nil, spelled_append, spelled_clusters, spelled_in, spelled_nil}
use Rattle.terminal_render.proofs.XtermLemmas.{xterm_has, xterm_spelled}

-- ---- what may be asked for before a cluster is spelled

wrap_asked : (modes : Modes) (columns : ℕ) (s : Screen) → IsSpelledAsked (wrap_request modes columns s)
wrap_asked modes columns s = by_test (fits columns s) modes.autowrap
  where
    by_test : (b wraps : Bool) → IsSpelledAsked (if b then None else if wraps then Some (next_line_request (region_on modes s) s) else Some (Table (table.Moves (table.Right 0))))
    by_test true wraps = tt
    by_test false true = next_asked (region_on modes s) s
    by_test false false = tt

insert_asked : (modes : Modes) (columns : ℕ) (s : Screen) → IsSpelledAsked (insert_request modes columns s)
insert_asked modes columns s = maybe (modes.insert && fits columns s) (Xterm (own.InsertCharacters columns)) tt

-- ---- what is asked for on a screen

module _ (width_of : List ℕ → ℕ) where
  pub xterm_logged : (function : own.XtermFunction) (state : State) → IsState width_of state → IsSpelledScreen state.screen
      → HaveEncodings state.screen.width (height state.screen) (led state.screen (xterm_screen function state.screen))
  xterm_logged function state h p =
      let new : Screen = xterm_screen function state.screen in
      let follows = xterm_follows width_of function state h in
      moved_has new state.screen (led state.screen new) (record { wide = follows.wide; tall = follows.tall }) (xterm_has width_of function state h p)

  alone_spelled : (s : Screen) → IsSpelledScreen s → IsSpelledState (screen_alone s)
  alone_spelled s p = record { screen = p; saved = tt; modes = tt }

  screen_asked_spelled : (request : Option Request) (s : Screen) → IsSpelledAsked request → IsState width_of (screen_alone s) → IsSpelledScreen s → IsSpelledScreen (screen_asked request s)
  screen_asked_spelled None s f h p = p
  screen_asked_spelled (Some (Table function)) s f h p = (step_spelled width_of function (screen_alone s) h f (alone_spelled s p)).screen
  screen_asked_spelled (Some (Xterm function)) s f h p = xterm_spelled width_of function (screen_alone s) h p
  screen_asked_spelled (Some (Sets setting function)) s f h p = p
  screen_asked_spelled (Some (SetsAlone setting)) s f h p = p
  screen_asked_spelled (Some (Switches function)) s f h p = p
  screen_asked_spelled (Some (Repeats count)) s f h p = p
  screen_asked_spelled (Some Aligns) s f h p = p
  screen_asked_spelled (Some (Replies text)) s f h p = p
  screen_asked_spelled (Some Nothing) s f h p = p

  changes_asked_have : (request : Option Request) (s : Screen) → IsSpelledAsked request → IsState width_of (screen_alone s) → IsSpelledScreen s → HaveEncodings s.width (height s) (changes_asked request s)
  changes_asked_have None s f h p = tt
  changes_asked_have (Some (Table function)) s f h p = changes_have function (screen_alone s) h.lawful.wide_enough f (alone_spelled s p)
  changes_asked_have (Some (Xterm function)) s f h p = xterm_logged function (screen_alone s) h p
  changes_asked_have (Some (Sets setting function)) s f h p = tt
  changes_asked_have (Some (SetsAlone setting)) s f h p = tt
  changes_asked_have (Some (Switches function)) s f h p = tt
  changes_asked_have (Some (Repeats count)) s f h p = tt
  changes_asked_have (Some Aligns) s f h p = tt
  changes_asked_have (Some (Replies text)) s f h p = tt
  changes_asked_have (Some Nothing) s f h p = tt

-- ---- a text that is put

pub put_spelled : (width_of : List ℕ → ℕ) (text : List ℕ) (s : Screen) → IsState width_of (screen_alone s) → IsRunText text → IsSpelledText text → IsSpelledScreen s → IsSpelledScreen (put_run width_of s text)
put_spelled width_of text s h n t p =
    let d = display_on_is s h.lawful h.whole in
    subst IsSpelledScreen (run_turns width_of text (display_on s) n.printed).screen (effect_spelled width_of (display_on s) (run_change text) d t p)

text_has : (width tall : ℕ) (text : List ℕ) → IsRunText text → IsSpelledText text → HaveEncodings width tall (run_change text ∷ [])
text_has width tall text n t = (is_encoded width tall (Text text) t tt (inl n.printed), tt)

-- ---- a run under xterm

module _ (width_of : List ℕ → ℕ) (d : Display) (before : Screen) where
  abbrev IsOn : Running → Type 0
  IsOn run = IsRunning width_of d before run

  pub record IsSpelledRunning (run : Running) : Type 0 where
    pub changes : HaveEncodings before.width (height before) run.changes
    pub led : IsSpelledScreen run.led
    pub text : IsSpelledText run.text

  -- more changes, which have encodings on the screen so far
  more : (run : Running) (cs : List ChangeValue) (next : Screen) → IsOn run → IsSpelledRunning run → HaveEncodings run.led.width (height run.led) cs → IsSpelledScreen next
      → IsSpelledRunning (record { changes = run.changes ++ cs; led = next; text = []; screen = next })
  more run cs next h p has spelled = record {
    changes = all_joined _ run.changes cs p.changes (moved_has run.led before cs (record { wide = h.led.wide; tall = h.led.tall }) has);
    led = spelled;
    text = spelled_nil;
  }

  text_put_spelled : (run : Running) → IsOn run → IsSpelledRunning run → IsSpelledRunning (text_put width_of run)
  text_put_spelled run h p = more run (text_changes run.text) (put_run width_of run.led run.text) h p (has run.text h.text p.text) (put_spelled width_of run.text run.led h.state h.text p.text p.led)
    where
      has : (text : List ℕ) → IsRunText text → IsSpelledText text → HaveEncodings run.led.width (height run.led) (text_changes text)
      has [] n t = tt
      has (byte ∷ bytes) n t = text_has run.led.width (height run.led) (byte ∷ bytes) n t

  asked_spelled : (request : Option Request) (run : Running) → IsSpelledAsked request → IsOn run → IsSpelledRunning run → IsSpelledRunning (asked request run)
  asked_spelled request run f h p =
      more run (changes_asked request run.led) (screen_asked request run.led) h p (changes_asked_have width_of request run.led f h.state p.led) (screen_asked_spelled width_of request run.led f h.state p.led)

  prepared_spelled : (modes : Modes) (columns : ℕ) (run : Running) → IsOn run → IsSpelledRunning run → IsSpelledRunning (prepared modes columns run)
  prepared_spelled modes columns run h p =
      let wrapped : Running = asked (wrap_request modes columns run.led) run in
      asked_spelled (insert_request modes columns wrapped.led) wrapped (insert_asked modes columns wrapped.led) (wrapped_runs width_of d before modes columns run h)
      (asked_spelled (wrap_request modes columns run.led) run (wrap_asked modes columns run.led) h p)

  cluster_spelled : (run : Running) (cluster : List ℕ) → IsSpelledRunning run → IsSpelledText cluster → IsSpelledRunning (with_cluster width_of run cluster)
  cluster_spelled run cluster p t = record { changes = p.changes; led = p.led; text = spelled_append run.text cluster p.text t }

  either_spelled : (b : Bool) (x y : Running) → IsSpelledRunning x → IsSpelledRunning y → IsSpelledRunning (if b then x else y)
  either_spelled true x y p q = p
  either_spelled false x y p q = q

  next_spelled : (modes : Modes) (run : Running) (cluster : List ℕ) → IsOn run → IsSpelledRunning run → IsSpelledText cluster → IsSpelledRunning (put_next modes width_of run cluster)
  next_spelled modes run cluster h p t =
      let columns = columns_for width_of run.screen cluster in
      let ended : Running = text_put width_of run in
      let ready : Running = prepared modes columns ended in
      let q = prepared_spelled modes columns ended (text_put_runs width_of d before run h) (text_put_spelled run h p) in
      either_spelled (is_put_plainly modes columns run.screen) (with_cluster width_of run cluster) (if fits columns ready.led then with_cluster width_of ready cluster else ready)
      (cluster_spelled run cluster p t)
      (either_spelled (fits columns ready.led) (with_cluster width_of ready cluster) ready (cluster_spelled ready cluster q t) q)

  all_spelled : (modes : Modes) (texts : List (List ℕ)) (run : Running) → AreSpelledRuns texts → IsOn run → IsSpelledRunning run → IsOn (fold (put_next modes width_of) run texts) × IsSpelledRunning (fold (put_next modes width_of) run texts)
  all_spelled modes [] run t h p = (h, p)
  all_spelled modes (text ∷ texts) run t h p =
      let n : IsRunText text = record { utf8 = t.0.spelled.utf8; printed = t.0.printed } in
      all_spelled modes texts (put_next modes width_of run text) t.1 (next_runs width_of d before modes run text h n) (next_spelled modes run text h p t.0.spelled)

  pub done_spelled : (modes : Modes) (text : List ℕ) → IsRunText text → IsSpelledText text → IsState width_of (screen_alone before) → IsSpelledScreen before → IsDisplay d → d.screen ≡ before → IsSpelledRunning (run_done modes width_of before text)
  done_spelled modes text n t h p g e =
      let begun : IsSpelledRunning (run_begun before) = record { changes = tt; led = p; text = spelled_nil } in
      let all = all_spelled modes (clusters text) (run_begun before) (spelled_clusters text (record { spelled = t; printed = n.printed })) (begun_runs width_of d before h g e) begun in
      text_put_spelled (fold (put_next modes width_of) (run_begun before) (clusters text)) all.0 all.1

-- ---- a run under either profile

module _ (width_of : List ℕ → ℕ) (text : List ℕ) (state : State) (h : IsState width_of state) (n : IsRunText text) (t : IsSpelledText text) (p : IsSpelledScreen state.screen) where
  under : (modes : Modes) → IsSpelledRunning width_of (display_on state.screen) state.screen (run_done modes width_of state.screen (text_as modes text))
  under modes = let set : Charset = charset_in_use modes.charsets in done_spelled width_of (display_on state.screen) state.screen modes (text_as modes text) (run_in set text n) (spelled_in set text n t) (alone_is width_of state h) p (display_on_is state.screen h.lawful h.whole) refl

  pub run_spelled : IsSpelledScreen (run_step width_of text state).screen
  run_spelled = by_modes state.modes
    where
      by_modes : (modes : Option Modes) → IsSpelledScreen (run_screen modes width_of state.screen text)
      by_modes None = put_spelled width_of text state.screen (alone_is width_of state h) n t p
      by_modes (Some modes) = (under modes).led

  pub run_has : HaveEncodings state.screen.width (height state.screen) (run_changes_of width_of text state)
  run_has = by_modes state.modes
    where
      by_modes : (modes : Option Modes) → HaveEncodings state.screen.width (height state.screen) (run_changes modes width_of state.screen text)
      by_modes None = text_has state.screen.width (height state.screen) text n t
      by_modes (Some modes) = (under modes).changes

-- ---- a cluster that is repeated

last_spelled : (texts : List (List ℕ)) (cluster : List ℕ) → IsSpelledRun cluster → AreSpelledRuns texts → IsSpelledRun (fold (λ _ next. next) cluster texts)
last_spelled [] cluster t all = t
last_spelled (text ∷ texts) cluster t all = last_spelled texts text all.0 all.1

module _ (width_of : List ℕ → ℕ) (modes : Modes) (l : HasLast (Some modes)) (t : IsSpelledText modes.last) where
  cluster_run : IsRunText (last_cluster modes.last)
  cluster_run = last_runs width_of modes l

  again_spelled : IsSpelledRun (last_cluster modes.last)
  again_spelled = last_spelled (clusters modes.last) [] run_nil (spelled_clusters modes.last (record { spelled = t; printed = l.printed }))

  -- the changes have encodings, and the screen after them is spelled
  pub repeated_spelled : (count : ℕ) (s : Screen) → IsState width_of (screen_alone s) → IsSpelledScreen s
      → HaveEncodings s.width (height s) (changes_repeated modes width_of count s) × IsSpelledScreen (screen_repeated modes width_of count s)
  repeated_spelled zero s h p = (tt, p)
  repeated_spelled (suc count) s h p =
      let on = display_on_is s h.lawful h.whole in
      let put : Running = put_again modes width_of s in
      let one = done_spelled width_of (display_on s) s modes (last_cluster modes.last) cluster_run again_spelled.spelled h p on refl in
      let runs = done_runs width_of (display_on s) s modes (last_cluster modes.last) cluster_run h on refl in
      let rest = repeated_spelled count put.led runs.state one.led in
      let size : HasSize put.led s = record { wide = runs.led.wide; tall = runs.led.tall } in
      (all_joined _ put.changes (changes_repeated modes width_of count put.led) one.changes (moved_has put.led s (changes_repeated modes width_of count put.led) size rest.0), rest.1)
