-- Runs under xterm on a surface.
use Rattle.std.proofs.Common.{◌≡◌, ℕ, ◌+◌, ◌<◌, ◌≤◌, ◌^◌, Bool, true, false, String, Global, List, [], ◌∷◌, ◌++◌, length, map, fold, refl, sym, ap, subst, ◌∙◌, arith, length-append}
use Rattle.std.specs.Prelude.{◌-◌, ◌==◌, ◌&&◌, ⊤, Option, Result, Ok, Err, IfOk, IsErrOf}
use Rattle.std.proofs.lemmas.List.{map-append}
use Rattle.std.proofs.lemmas.List.Sums.{fold-append}
use Rattle.std.proofs.lemmas.Str.{IsUtf8-string_bytes}
use Rattle.std.specs.String.{string_bytes}
use Rattle.cell_base.specs.Cluster.{clusters}
use Rattle.cell_base.specs.Screen.{Screen, put}
use Rattle.cell_surface.specs.Surface.{Surface, number_of, shown_by}
use Rattle.cell_surface.specs.declared.error.SurfaceError.{SurfaceError}
use Rattle.cell_surface.specs.declared.error.SurfaceError.TheVariants.{Failed, Memory, Number}
use Rattle.screen_change.specs.ChangeValue.{ChangeValue}
use Rattle.screen_effects.specs.Display.{Display}
use Rattle.screen_effects.specs.Effect.{effect, replay}
use Rattle.screen_log.specs.LogSteps.{Logged, step_of_kept}
use Rattle.terminal_table.specs.Charsets.{Charset, text_in}
use Rattle.terminal_table.specs.Modes.{Modes}
use Rattle.terminal_table.specs.Request.{Request}
use Rattle.terminal_table.specs.RunTurns.{IsRunning}
use Rattle.terminal_table.specs.Runs.{Running, asked, changes_asked, insert_request, prepared, put_next, run_begun, run_done, text_changes, text_put, with_cluster, wrap_request}
use Rattle.terminal_table.specs.RunText.{IsRunText}
use Rattle.terminal_table.proofs.CharsetLemmas.{run_in, some_in}
use Rattle.terminal_table.proofs.ClusterLemmas.{AreRunTexts, clusters_run}
use Rattle.terminal_table.proofs.RunningLemmas.{begun_runs, cluster_runs, inserted_runs, text_put_runs, wrapped_runs}
use Rattle.terminal_steps.specs.RunView.{CanBePut, GoesOn, IsAt, IsFrame, RunsOn}
use Rattle.terminal_steps.specs.declared.runs.Frame.{Frame}
use Rattle.terminal_steps.specs.declared.runs.Run.{Run}
use Rattle.terminal_steps.proofs.FrameLemmas.{frame_still}
use Rattle.terminal_steps.proofs.NumberLemmas.{logged_number}
use Rattle.terminal_steps.proofs.WholeRunLemmas.{all_grow, put_grows, run_some, some_of}
use Rattle.xterm_steps.specs.Additions.{Adds, AddsAll, AddsWith, CopiesAndAdds}

-- ---- changes that follow others

module _ {W : Type 0} (width_of : W → List ℕ → ℕ) where
  pub then_adds : (a b c : Surface W) (xs ys : List ChangeValue) → AddsAll width_of a b xs → AddsAll width_of b c ys → AddsAll width_of a c (xs ++ ys)
  then_adds a b c xs ys x y = record {
    shown = y.shown ∙ (λ i. replay (width_of (x.widths i)) (x.shown i) ys) ∙ sym (fold-append (effect (width_of a.grid.widths)) (shown_by a) xs ys);
    widths = y.widths ∙ x.widths;
    log = y.log ∙ ap (λ l. fold step_of_kept l (map Logged ys)) x.log ∙ sym (fold-append step_of_kept a.log (map Logged xs) (map Logged ys)) ∙ ap (fold step_of_kept a.log) (sym (map-append Logged xs ys));
    stays = y.stays;
  }

  -- a surface shows the screen to which the changes of a run lead; nothing is known of the rest
  pub record Led (before now : Surface W) (running : Running) : Type 0 where
    pub added : AddsAll width_of before now running.changes
    pub going : IsRunning (width_of before.grid.widths) (shown_by before) (shown_by before).screen running
    pub fits : number_of before < 2 ^ 64 → number_of now < 2 ^ 64

  pub shows : (before now : Surface W) (running : Running) → Led before now running → (shown_by now).screen ≡ running.led
  shows before now running l = ap (λ (d : Display). d.screen) l.added.shown ∙ l.going.turns.screen

  pub number_is : (before now : Surface W) (changes : List ChangeValue) → AddsAll width_of before now changes → number_of now ≡ number_of before + length changes
  number_is before now changes a = ap (λ l. l.log.number) a.log ∙ logged_number changes before.log

  -- more of the run was done, or is refused
  pub record Goes (before : Surface W) (result : Result ⊤ SurfaceError) (now : Surface W) (running : Running) : Type 0 where
    pub goes : IfOk result (λ _. Led before now running)
    pub failed : IsErrOf result Failed → ⊥
    pub numbers : IsErrOf result Number → 2 ^ 64 ≤ number_of before + length running.changes

  step : (takes_more : Bool) (before now next : Surface W) (result : Result ⊤ SurfaceError) (running : Running) (changes : List ChangeValue) (after : Running) → after.changes ≡ running.changes ++ changes
      → Led before now running → IsRunning (width_of before.grid.widths) (shown_by before) (shown_by before).screen after → AddsWith takes_more width_of now changes result next → Goes before result next after
  step takes_more before now next (Ok x) running changes after e l r a = record {
    goes = record {
      added = subst (AddsAll width_of before next) (sym e) (then_adds before now next running.changes changes l.added a.added);
      going = r;
      fits = λ h. a.fits (l.fits h);
    };
    failed = λ f. cc;
    numbers = λ f. cc;
  }
  step takes_more before now next (Err error) running changes after e l r a = record {
    goes = tt;
    failed = λ f. let stays = l.added.stays in let failed = a.failed f in cc;
    numbers = λ f.
        let past = (a.numbers f).1 in
        let number = number_is before now running.changes l.added in
        let all = ap length e ∙ length-append running.changes changes in
        omega (arith, past, number, all);
  }

  -- the clusters so far become a change
  pub text_goes : (before now next : Surface W) (result : Result ⊤ SurfaceError) (running : Running) → Led before now running → Adds width_of now (text_changes running.text) result next
      → Goes before result next (text_put (width_of before.grid.widths) running)
  text_goes before now next result running l =
      step false before now next result running (text_changes running.text) (text_put (width_of before.grid.widths) running) refl l (text_put_runs (width_of before.grid.widths) (shown_by before) (shown_by before).screen running l.going)

  -- what is asked for is done
  asked_goes : (request : Screen → Option Request) (before now next : Surface W) (result : Result ⊤ SurfaceError) (running : Running) → Led before now running
      → IsRunning (width_of before.grid.widths) (shown_by before) (shown_by before).screen (asked (request running.led) running)
      → CopiesAndAdds width_of now (changes_asked (request (shown_by now).screen) (shown_by now).screen) result next
      → Goes before result next (asked (request running.led) running)
  asked_goes request before now next result running l r a =
      step true before now next result running (changes_asked (request running.led) running.led) (asked (request running.led) running) refl l r
      (subst (λ (s : Screen). CopiesAndAdds width_of now (changes_asked (request s) s) result next) (shows before now running l) a)

  pub wrap_goes : (modes : Modes) (columns : ℕ) (before now next : Surface W) (result : Result ⊤ SurfaceError) (running : Running) → Led before now running
      → CopiesAndAdds width_of now (changes_asked (wrap_request modes columns (shown_by now).screen) (shown_by now).screen) result next
      → Goes before result next (asked (wrap_request modes columns running.led) running)
  wrap_goes modes columns before now next result running l =
      asked_goes (wrap_request modes columns) before now next result running l (wrapped_runs (width_of before.grid.widths) (shown_by before) (shown_by before).screen modes columns running l.going)

  pub insert_goes : (modes : Modes) (columns : ℕ) (before now next : Surface W) (result : Result ⊤ SurfaceError) (running : Running) → Led before now running
      → CopiesAndAdds width_of now (changes_asked (insert_request modes columns (shown_by now).screen) (shown_by now).screen) result next
      → Goes before result next (asked (insert_request modes columns running.led) running)
  insert_goes modes columns before now next result running l =
      asked_goes (insert_request modes columns) before now next result running l (inserted_runs (width_of before.grid.widths) (shown_by before) (shown_by before).screen modes columns running l.going)

  -- a refusal before more of the run
  pub stops : (before now next : Surface W) (e : SurfaceError) (running after : Running) (run : Run) → Goes before (Err e) now running → length running.changes ≤ length after.changes → GoesOn width_of before (Err e) next run after
  stops before now next e running after run g more = record {
    goes = tt;
    failed = g.failed;
    numbers = λ f. let past = g.numbers f in omega (arith, past, more);
  }

  -- ---- what is asked for before a cluster

  pub led_by : (before now : Surface W) (run : Run) (running : Running) → RunsOn width_of before now run running → Led before now running
  led_by before now run running on = record { added = on.added; going = on.going; fits = on.fits }

  pub ended : (before now next : Surface W) (run : Run) (running : Running) (result : Result ⊤ SurfaceError) → RunsOn width_of before now run running → Adds width_of now (text_changes (string_bytes run.text)) result next
      → Goes before result next (text_put (width_of before.grid.widths) running)
  ended before now next run running result on adds =
      text_goes before now next result running (led_by before now run running on) (subst (λ (bytes : List ℕ). Adds width_of now (text_changes bytes) result next) on.text adds)

  -- it is done: nothing is put plainly yet
  pub ready_on : (before now : Surface W) (run : Run) (modes : Modes) (columns : ℕ) (running : Running) → Led before now (prepared modes columns running) → string_bytes run.text ≡ [] → run.column ≡ (shown_by now).screen.column → run.row ≡ (shown_by now).screen.row
      → RunsOn width_of before now run (prepared modes columns running)
  ready_on before now run modes columns running l none column row =
      let ready : Running = prepared modes columns running in
      let same = shows before now ready l in
      record {
        added = l.added;
        going = l.going;
        text = none;
        at = record { column = column ∙ ap (λ (s : Screen). s.column) same; row = row ∙ ap (λ (s : Screen). s.row) same };
        fits = l.fits;
      }

  -- ---- the next cluster

  -- a cluster joins those that are put plainly
  pub pushed_on : (before now : Surface W) (run more : Run) (running : Running) (cluster : List ℕ) → RunsOn width_of before now run running → IsRunText cluster → string_bytes more.text ≡ string_bytes run.text ++ cluster → IsAt more (put (width_of before.grid.widths) running.screen cluster)
      → RunsOn width_of before now more (with_cluster (width_of before.grid.widths) running cluster)
  pushed_on before now run more running cluster on t text at = record {
    added = on.added;
    going = cluster_runs (width_of before.grid.widths) (shown_by before) (shown_by before).screen running cluster on.going t;
    text = text ∙ ap (λ (bytes : List ℕ). bytes ++ cluster) on.text;
    at = at;
    fits = on.fits;
  }

  pub all_well : (before now : Surface W) (run : Run) (running : Running) → RunsOn width_of before now run running → GoesOn width_of before (Ok tt) now run running
  all_well before now run running on = record { goes = on; failed = λ f. cc; numbers = λ f. cc }

  -- a refusal before more of the run
  pub stops_on : (before now next : Surface W) (e : SurfaceError) (running after : Running) (run more : Run) → GoesOn width_of before (Err e) now run running → length running.changes ≤ length after.changes → GoesOn width_of before (Err e) next more after
  stops_on before now next e running after run more g longer = record {
    goes = tt;
    failed = g.failed;
    numbers = λ f. let past = g.numbers f in omega (arith, past, longer);
  }

  pub memory_stops : (before now : Surface W) (run : Run) (running : Running) (result : Result ⊤ SurfaceError) → result ≡ Err Memory → GoesOn width_of before result now run running
  memory_stops before now run running result e = subst (λ (r : Result ⊤ SurfaceError). GoesOn width_of before r now run running) (sym e) (record { goes = tt; failed = λ f. cc; numbers = λ f. cc })

  -- the columns of a cluster, and whether it is put plainly, as a frame has them
  pub still_on : (modes : Modes) (before now : Surface W) (run : Run) (running : Running) (frame : Frame) → IsFrame modes (shown_by before).screen frame → RunsOn width_of before now run running → IsFrame modes running.screen frame
  still_on modes before now run running frame f on = frame_still modes (shown_by before).screen running.screen frame on.going.screen f

  -- ---- cluster by cluster

  -- the clusters that are left lead from where the run is to where all lead from its beginning
  pub record IsMidway (modes : Modes) (before now : Surface W) (run : Run) (text left : List ℕ) : Type 0 where
    pub running : Running
    pub on : RunsOn width_of before now run running
    pub leads : fold (put_next modes (width_of before.grid.widths)) running (clusters left) ≡ fold (put_next modes (width_of before.grid.widths)) (run_begun (shown_by before).screen) (clusters text)
    pub rest : AreRunTexts (clusters left)

  pub midway_begun : (modes : Modes) (before now : Surface W) (run : Run) (text : List ℕ) → before.is_failed ≡ false → now ≡ before → CanBePut width_of before text → string_bytes run.text ≡ [] → IsAt run (shown_by before).screen → IsMidway modes before now run text text
  midway_begun modes before now run text stays same can none at = record {
    running = run_begun (shown_by before).screen;
    on = record {
      added = record {
        shown = ap (λ (s : Surface W). shown_by s) same;
        widths = ap (λ (s : Surface W). s.grid.widths) same;
        log = ap (λ (s : Surface W). s.log) same;
        stays = ap (λ (s : Surface W). s.is_failed) same ∙ stays;
      };
      going = begun_runs (width_of before.grid.widths) (shown_by before) (shown_by before).screen can.state can.shown refl;
      text = none;
      at = at;
      fits = λ h. subst (λ (s : Surface W). number_of s < 2 ^ 64) (sym same) h;
    };
    leads = refl;
    rest = clusters_run text can.printed;
  }

  -- where a cluster is cut off
  leads_past : (modes : Modes) (before : Surface W) (running : Running) (left cluster after : List ℕ) → clusters left ≡ cluster ∷ clusters after
      → fold (put_next modes (width_of before.grid.widths)) running (clusters left) ≡ fold (put_next modes (width_of before.grid.widths)) (put_next modes (width_of before.grid.widths) running cluster) (clusters after)
  leads_past modes before running left cluster after e = ap (fold (put_next modes (width_of before.grid.widths)) running) e

  pub midway_next : (modes : Modes) (before now next : Surface W) (run more : Run) (text left cluster after : List ℕ) (m : IsMidway modes before now run text left) → clusters left ≡ cluster ∷ clusters after
      → RunsOn width_of before next more (put_next modes (width_of before.grid.widths) m.running cluster) → IsMidway modes before next more text after
  midway_next modes before now next run more text left cluster after m e on = record {
    running = put_next modes (width_of before.grid.widths) m.running cluster;
    on = on;
    leads = sym (leads_past modes before m.running left cluster after e) ∙ m.leads;
    rest = (subst AreRunTexts e m.rest).1;
  }

  -- where it is refused, so is the run
  pub midway_stops : (modes : Modes) (before now next : Surface W) (run more : Run) (text left cluster after : List ℕ) (e : SurfaceError) → CanBePut width_of before text → 0 < length text
      → (m : IsMidway modes before now run text left) → clusters left ≡ cluster ∷ clusters after
      → GoesOn width_of before (Err e) next more (put_next modes (width_of before.grid.widths) m.running cluster)
      → AddsWith true width_of before (run_done modes (width_of before.grid.widths) (shown_by before).screen text).changes (Err e) next
  midway_stops modes before now next run more text left cluster after e can some m cut goes = record {
    added = tt;
    failed = λ f. absurd (goes.failed f);
    numbers = λ f.
        let there : Running = put_next modes of m.running cluster in
        let all : Running = fold (put_next modes of) (run_begun (shown_by before).screen) (clusters text) in
        let past = goes.numbers f in
        let more = all_grow of modes (clusters after) there in
        let last = put_grows of all in
        let same = ap (λ (r : Running). length r.changes) (sym (leads_past modes before m.running left cluster after cut) ∙ m.leads) in
        (run_some of (shown_by before) (shown_by before).screen modes text can.printed some can.state can.shown refl, omega (arith, past, more, last, same));
    memory = λ f e. cc;
    fits = tt;
  }
    where
      of : List ℕ → ℕ
      of = width_of before.grid.widths

  -- at the end the clusters so far become a change
  pub midway_ends : (modes : Modes) (before now next : Surface W) (run : Run) (text left : List ℕ) (result : Result ⊤ SurfaceError) → CanBePut width_of before text → 0 < length text → IsMidway modes before now run text left → clusters left ≡ []
      → Adds width_of now (text_changes (string_bytes run.text)) result next
      → AddsWith true width_of before (run_done modes (width_of before.grid.widths) (shown_by before).screen text).changes result next
  midway_ends modes before now next run text left result can some m none adds =
      let of : List ℕ → ℕ = width_of before.grid.widths in
      let last : m.running ≡ fold (put_next modes of) (run_begun (shown_by before).screen) (clusters text) = ap (fold (put_next modes of) m.running) (sym none) ∙ m.leads in
      let goes : Goes before result next (text_put of m.running) =
      text_goes before now next result m.running (record { added = m.on.added; going = m.on.going; fits = m.on.fits }) (subst (λ (bytes : List ℕ). Adds width_of now (text_changes bytes) result next) m.on.text adds) in
      whole result (run_some of (shown_by before) (shown_by before).screen modes text can.printed some can.state can.shown refl)
      (subst (λ (r : Running). Goes before result next (text_put of r)) last goes)
    where
      whole : (result : Result ⊤ SurfaceError) → 0 < length (run_done modes (width_of before.grid.widths) (shown_by before).screen text).changes
          → Goes before result next (run_done modes (width_of before.grid.widths) (shown_by before).screen text)
          → AddsWith true width_of before (run_done modes (width_of before.grid.widths) (shown_by before).screen text).changes result next
      whole (Ok x) some g = record { added = g.goes.added; failed = λ f. cc; numbers = λ f. cc; memory = λ f e. cc; fits = g.goes.fits }
      whole (Err e) some g = record { added = tt; failed = λ f. absurd (g.failed f); numbers = λ f. (some, g.numbers f); memory = λ f e. cc; fits = tt }

  -- ---- the characters of a set

  -- a run that can be put can be put as a set has it
  pub can_put_in : (set : Charset) (before : Surface W) (text : List ℕ) → CanBePut width_of before text → CanBePut width_of before (text_in set text)
  can_put_in set before text can = record { state = can.state; shown = can.shown; printed = run_in set text can.printed }

  -- a call that takes no memory but for its changes is one that may take more
  pub with_more : (before after : Surface W) (changes : List ChangeValue) (result : Result ⊤ SurfaceError) → Adds width_of before changes result after → AddsWith true width_of before changes result after
  with_more before after changes result a = record { added = a.added; failed = a.failed; numbers = a.numbers; memory = λ e more. cc; fits = a.fits }

-- the text of a run has a byte as a set has it
pub mapped_text : (set : Charset) (text : String Global) (bytes : List ℕ) → bytes ≡ text_in set (string_bytes text) → (string_bytes text ≡ [] → ⊥) → bytes ≡ [] → ⊥
mapped_text set text bytes e some none =
    let more = some_in set (string_bytes text) (IsUtf8-string_bytes text) (some_of (string_bytes text) some) in
    let size = ap length (sym e ∙ none) in
    absurd (omega (arith, more, size))
