-- Why actions are refused memory.
use Rattle.std.proofs.Common.{◌≡◌, ℕ, ◌<◌, ◌^◌, Bool, true, false, List, [], ◌∷◌, ◌++◌, length, map, fold, inl, inr, refl, sym, ap, subst, ◌∙◌, arith}
use Rattle.std.specs.Prelude.{◌==◌, ◌⊎◌, Option, Some, None, option_map, if◌then◌else◌}
use Rattle.std.specs.List.{AllByRecursion}
use Rattle.std.proofs.lemmas.List.{map-append}
use Rattle.cell_surface.specs.declared.error.SurfaceError.{SurfaceError}
use Rattle.cell_surface.specs.declared.error.SurfaceError.TheVariants as refusal
use Rattle.screen_log.specs.LogSteps.{LogStep, Logged, Sized, step_of_kept}
use Rattle.escape_stream.specs.Items.{Item, Text, Single, item_of, items, items_of}
use Rattle.escape_stream.specs.Pieces.{Piece}
use Rattle.escape_stream.specs.PiecesView.{BytesTakeMemory, PerformsUpToMemory}
use Rattle.escape_stream.specs.Performing.{StopsAt, HaltsAt}
use Rattle.escape_stream.specs.StreamAction.{StreamAction}
use Rattle.escape_stream.specs.declared.perform.Halted.{Halted}
use Rattle.escape_stream.specs.declared.perform.Halted.TheVariants as halted
use Rattle.escape_stream.proofs.StepLemmas.{takes_some}
use Rattle.terminal_table.specs.History.{Act}
use Rattle.terminal_table.specs.Logged.{event_logged, events_logged}
use Rattle.terminal_table.specs.Meaning.{View, event_done}
use Rattle.terminal_table.specs.Modes.{Modes, with_last}
use Rattle.terminal_table.specs.Request.{Request}
use Rattle.terminal_table.specs.Requests.{AsksForNothing, request_of}
use Rattle.terminal_table.specs.Runs.{run_changes_of}
use Rattle.terminal_table.specs.Turns.{AreEvents}
use Rattle.terminal_table.proofs.ModesLemmas.{settled_modes}
use Rattle.terminal_table.proofs.OtherLemmas.{asked_settled, other_logged, other_view}
use Rattle.terminal_steps.specs.Events.{view_of, IsReady}
use Rattle.terminal_steps.specs.Memory.{TakesMemory, TakesOwnMemory, number_settled}
use Rattle.terminal_steps.specs.Refusals.{of_halted}
use Rattle.terminal_steps.specs.Items.{AsksNothing, item_event, item_events, DoesItem, RefusesItem, SomeNeedsMemory, ParserNeedsMemory}
use Rattle.terminal_steps.specs.declared.error.TerminalError.TheVariants.{Memory}
use Rattle.terminal_steps.specs.declared.state.TerminalState.{TerminalState}
use Rattle.terminal_steps.proofs.NumberLemmas.{stopped_had}
use Rattle.terminal_steps.proofs.TakeLemmas.{are_prefix, leads}

-- ---- items that ask for nothing

-- a view with some modes or none, but for the run before, which holds no run
record IsQuiet (modes : Option Modes) (v : View) : Type 0 where
  run : v.held ≡ []
  last : List ℕ
  same : v.state.modes ≡ option_map (with_last last) modes

-- another run before
again : (text last : List ℕ) (modes : Option Modes) → option_map (with_last text) (option_map (with_last last) modes) ≡ option_map (with_last text) modes
again text last None = refl
again text last (Some modes) = refl

quiet_same : (modes : Option Modes) → (last : List ℕ) × (modes ≡ option_map (with_last last) modes)
quiet_same None = ([], refl)
quiet_same (Some modes) = (modes.last, refl)

-- what is asked of such a view
asked : (modes : Option Modes) (v : View) (action : StreamAction) → IsQuiet modes v → AsksForNothing modes action → AsksForNothing v.state.modes action
asked modes v action q e text screen = ap (λ (m : Option Modes). request_of (option_map (with_last text) m) screen action) q.same ∙ ap (λ (m : Option Modes). request_of m screen action) (again text q.last modes) ∙ e text screen

quiet_next : (f : List ℕ → ℕ) (modes : Option Modes) (v : View) (action : StreamAction) → AsksNothing modes (Single action) → IsQuiet modes v → IsQuiet modes (event_done f v (Act action))
quiet_next f modes v action asks q =
    let settled = settled_modes f v in
    subst (IsQuiet modes) (sym (other_view f v action asks.0 (asked modes v action q asks.1)))
    (record { run = refl; last = []; same = ap (option_map (with_last [])) settled.1 ∙ again [] settled.0 v.state.modes ∙ ap (option_map (with_last [])) q.same ∙ again [] q.last modes })

quiet_rest : (f : List ℕ → ℕ) (modes : Option Modes) (v : View) (done left : List Item) → AllByRecursion (AsksNothing modes) (done ++ left) → IsQuiet modes v
    → IsQuiet modes (fold (event_done f) v (item_events done)) × AllByRecursion (AsksNothing modes) left
quiet_rest f modes v [] left all q = (q, all)
quiet_rest f modes v (Text text ∷ done) left all q = absurd all.0
quiet_rest f modes v (Single action ∷ done) left all q = quiet_rest f modes (event_done f v (Act action)) done left all.1 (quiet_next f modes v action all.0 q)

quiet_item : (f : List ℕ → ℕ) (modes : Option Modes) (v : View) (log : Sized) (item : Item) (failed : Bool) → AsksNothing modes item → IsQuiet modes v → TakesMemory f v log (item_event item) failed → ⊥
quiet_item f modes v log (Text text) failed asks q takes = asks
quiet_item f modes v log (Single action) failed asks q (inl prints) = let clash : true ≡ false = sym prints ∙ asks.0 in cc
quiet_item f modes v log (Single action) failed asks q (inr (inl own)) = subst (λ (x : Option Request). TakesOwnMemory x (number_settled f v log)) (asked_settled f v action (asked modes v action q asks.1)) own
quiet_item f modes v log (Single action) failed asks q (inr (inr refused)) =
    let logged : event_logged f v (Act action) ≡ []
    = other_logged f v action asks.0 (asked modes v action q asks.1) ∙ (λ i. if length (q.run i) == 0 then [] else map Logged (run_changes_of f (q.run i) v.state)) in
    let some : 0 < length {A = LogStep} [] = subst (λ (steps : List LogStep). 0 < length steps) logged refused.0 in
    absurd (omega (arith, some))

pub quiet_items : (f : List ℕ → ℕ) (v : View) (log : Sized) (items : List Item) (failed : Bool) → v.held ≡ [] → AllByRecursion (AsksNothing v.state.modes) items → SomeNeedsMemory f v log items failed → ⊥
quiet_items f v log items failed none all some =
    let modes : Option Modes = v.state.modes in
    let rest = quiet_rest f modes v some.done (some.item ∷ some.left) (subst (AllByRecursion (AsksNothing modes)) some.whole all) (record { run = none; last = (quiet_same modes).0; same = (quiet_same modes).1 }) in
    quiet_item f modes (fold (event_done f) v (item_events some.done)) (fold step_of_kept log (events_logged f v (item_events some.done))) some.item failed rest.1.0 rest.0 some.takes

-- where the parser is refused memory, the bytes take some
pub bytes_take : (f : List ℕ → ℕ) (view : View) (log : Sized) (stream bytes : List ℕ) → ParserNeedsMemory f view log stream bytes → BytesTakeMemory stream bytes
bytes_take f view log stream bytes n = takes_some stream bytes n.done n.left n.whole n.takes

module _ {W : Type 0} (width_of : W → List ℕ → ℕ) where
  abbrev of : TerminalState W → List ℕ → ℕ
  of t = width_of t.surface.grid.widths

  -- ---- the causes of a call's errors

  stopped_memory : (t last : TerminalState W) (items : List Item) → StopsAt (DoesItem width_of) (RefusesItem width_of) t items refusal.Memory last
      → IsReady width_of t → AreEvents (item_events items) → SomeNeedsMemory (of t) (view_of t) t.surface.log items last.surface.is_failed
  stopped_memory t last items s ready events =
      let had = stopped_had width_of t s.before s.done s.left s.item items s.whole s.performed ready events in
      record {
        done = s.done;
        item = s.item;
        left = s.left;
        whole = s.whole;
        fits = subst (λ (l : Sized). l.log.number < 2 ^ 64) had.log had.ready.fits;
        takes = subst (λ (T : Type 0). T) (λ i. TakesMemory (width_of (had.widths i)) (had.view i) (had.log i) (item_event s.item) last.surface.is_failed) (s.refused had.ready);
      }

  -- the parser is refused some
  early_memory : (t last : TerminalState W) (stream bytes : List ℕ) → PerformsUpToMemory (DoesItem width_of) t stream bytes last
      → IsReady width_of t → AreEvents (item_events (items stream bytes)) → ParserNeedsMemory (of t) (view_of t) t.surface.log stream bytes
  early_memory t last stream bytes p ready events =
      let all : item_events (items stream bytes) ≡ item_events (items_of p.done) ++ item_events (items_of p.left)
      = ap (λ (ps : List Piece). item_events (items_of ps)) p.whole ∙ ap item_events (map-append item_of p.done p.left) ∙ map-append item_event (items_of p.done) (items_of p.left) in
      let had = leads width_of t last (items_of p.done) p.performed ready (are_prefix (item_events (items_of p.done)) (item_events (items_of p.left)) (subst AreEvents all events)) in
      record {
        done = p.done;
        left = p.left;
        whole = p.whole;
        fits = subst (λ (l : Sized). l.log.number < 2 ^ 64) had.log had.ready.fits;
        takes = p.takes;
      }

  pub halted_memory : (t last : TerminalState W) (stream bytes : List ℕ) (h : Halted SurfaceError) → of_halted h ≡ Memory
      → (h ≡ halted.Memory → PerformsUpToMemory (DoesItem width_of) t stream bytes last)
      → HaltsAt (DoesItem width_of) (RefusesItem width_of) t (items stream bytes) h last → IsReady width_of t → AreEvents (item_events (items stream bytes))
      → ParserNeedsMemory (of t) (view_of t) t.surface.log stream bytes ⊎ SomeNeedsMemory (of t) (view_of t) t.surface.log (items stream bytes) last.surface.is_failed
  halted_memory t last stream bytes halted.Failed e m s ready events = cc
  halted_memory t last stream bytes halted.Memory e m s ready events = inl (early_memory t last stream bytes (m refl) ready events)
  halted_memory t last stream bytes (halted.Refused refusal.Failed) e m s ready events = cc
  halted_memory t last stream bytes (halted.Refused refusal.Number) e m s ready events = cc
  halted_memory t last stream bytes (halted.Refused refusal.Memory) e m s ready events = inr (stopped_memory t last (items stream bytes) s ready events)
