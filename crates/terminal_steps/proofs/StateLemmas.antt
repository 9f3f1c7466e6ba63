-- The end of a run, and the action after it.
use Rattle.std.proofs.Common.{◌≡◌, ℕ, ◌<◌, ◌^◌, Bool, true, false, String, Global, List, [], ◌∷◌, ◌++◌, length, map, fold, refl, sym, ap, subst, ◌∙◌, arith}
use Rattle.std.specs.Prelude.{◌==◌, ⊤, Option, Some, None, Result, Ok, Err, IfOk, OnOk, if◌then◌else◌}
use Rattle.std.specs.String.{string_bytes}
use Rattle.std.proofs.lemmas.List.{length-map}
use Rattle.std.proofs.lemmas.List.Sums.{fold-append}
use Rattle.std.proofs.lemmas.Str.{IsUtf8-string_bytes}
use Rattle.screen_change.specs.ChangeValue.{ChangeValue}
use Rattle.cell_surface.specs.Surface.{Surface, number_of, shown_by}
use Rattle.cell_surface.specs.declared.error.SurfaceError.{SurfaceError}
use Rattle.screen_log.specs.LogSteps.{LogStep, Logged, step_of_kept}
use Rattle.escape_stream.specs.StreamAction.{StreamAction, is_print, printed}
use Rattle.screen_effects.specs.Display.{IsDisplay}
use Rattle.screen_effects.proofs.EffectLaws.{replay_is}
use Rattle.terminal_table.specs.Requests.{acted, acted_changes}
use Rattle.terminal_table.specs.Charsets.{Charset, charset_in_use, text_in}
use Rattle.terminal_table.specs.Modes.{Modes, with_last}
use Rattle.terminal_table.specs.Runs.{run_changes, run_changes_of, run_modes, run_step, text_as}
use Rattle.terminal_table.specs.History.{Act, Looked}
use Rattle.terminal_table.specs.Meaning.{View, settled}
use Rattle.terminal_table.specs.Logged.{run_logged}
use Rattle.terminal_table.specs.State.{State, IsState}
use Rattle.terminal_table.specs.RunText.{IsPrinted, IsRunText}
use Rattle.terminal_table.proofs.CharsetLemmas.{run_in, some_in}
use Rattle.terminal_table.proofs.RequestLemmas.{actions_are_logged, actions_keep_states}
use Rattle.terminal_table.proofs.RunningLemmas.{alone_is, run_is, run_step_turns}
use Rattle.terminal_table.proofs.ListLemmas.{append_nil}
use Rattle.xterm_steps.specs.Additions.{AddsAll, AddsWith}
use Rattle.terminal_steps.specs.Events.{view_of, Does, IsReady, Had}
use Rattle.terminal_steps.specs.ProfileView.{kept_modes, modes_in}
use Rattle.terminal_steps.specs.RunView.{CanBePut, PutsRun}
use Rattle.terminal_steps.specs.declared.profile.Modes as code
use Rattle.terminal_steps.specs.declared.state.TerminalState.{TerminalState}
use Rattle.terminal_steps.proofs.WholeRunLemmas.{run_some, some_byte}

module _ {W : Type 0} (width_of : W → List ℕ → ℕ) where
  abbrev of : TerminalState W → List ℕ → ℕ
  of t = width_of t.surface.grid.widths

  -- the state of a terminal is lawful by its widths where it is so by the widths of the one before it
  pub lawful_after : (t r : TerminalState W) (state : State) → r.surface.grid.widths ≡ t.surface.grid.widths → (view_of r).state ≡ state → IsState (of t) state → IsState (of r) (view_of r).state
  lawful_after t r state widths same h = subst (λ (w : W). IsState (width_of w) (view_of r).state) (sym widths) (subst (IsState (of t)) (sym same) h)

  -- the run was added as a change, and nothing is held after it
  pub settled_had : (t r : TerminalState W) (s : Surface W) → (length (string_bytes t.held) == 0) ≡ false
      → r.surface ≡ s → string_bytes r.held ≡ [] → r.saved ≡ t.saved → r.replies.items ≡ t.replies.items → kept_modes r.modes ≡ run_modes (string_bytes t.held) (kept_modes t.modes)
      → AddsAll width_of t.surface s (run_changes_of (of t) (string_bytes t.held) (view_of t).state) → s.log.log.number < 2 ^ 64 → IsReady width_of t → Had width_of t r (Looked ∷ [])
  settled_had t r s e k n v q m a f h = record {
    view = (λ i. record { state = states i; stream = []; held = n i }) ∙ sym (ap ended e);
    log = ap (λ x. x.log) k ∙ a.log ∙ ap (fold step_of_kept t.surface.log) (sym (append_nil (map Logged all))) ∙ sym (ap (λ b. fold step_of_kept t.surface.log (logged b)) e);
    widths = ap (λ x. x.grid.widths) k ∙ a.widths;
    shape = ap (λ x. (shown_by x).shape) k ∙ ap (λ d. d.shape) a.shown ∙ (run_step_turns (of t) text (view_of t).state (shown_by t.surface) run h.lawful h.shown refl).shape;
    ready = record {
      stays = ap (λ x. x.is_failed) k ∙ a.stays;
      shown = subst (λ x. IsDisplay (shown_by x)) (sym k) (subst IsDisplay (sym a.shown) (replay_is (of t) all (shown_by t.surface) h.shown));
      lawful = lawful_after t r (run_step (of t) text (view_of t).state) (ap (λ x. x.grid.widths) k ∙ a.widths) states (run_is (of t) text (view_of t).state run h.lawful);
      fits = subst (λ (x : Surface W). x.log.log.number < 2 ^ 64) (sym k) f;
      plain = subst IsPrinted (sym n) refl;
    };
  }
    where
      text : List ℕ
      text = string_bytes t.held

      all : List ChangeValue
      all = run_changes_of (of t) text (view_of t).state

      run : IsRunText text
      run = record { utf8 = IsUtf8-string_bytes t.held; printed = h.plain }

      screens : (shown_by r.surface).screen ≡ (run_step (of t) text (view_of t).state).screen
      screens = ap (λ x. (shown_by x).screen) k ∙ ap (λ d. d.screen) a.shown ∙ (run_step_turns (of t) text (view_of t).state (shown_by t.surface) run h.lawful h.shown refl).screen

      states : (view_of r).state ≡ run_step (of t) text (view_of t).state
      states = λ i. record { screen = screens i; saved = v i; replies = q i; modes = m i }

      ended : Bool → View
      ended b = record { state = if b then (view_of t).state else run_step (of t) text (view_of t).state; stream = []; held = [] }

      logged : Bool → List LogStep
      logged b = (if b then [] else map Logged all) ++ []

  -- on a ready terminal the held run can be put
  pub can_put : (t : TerminalState W) → IsReady width_of t → CanBePut width_of t.surface (string_bytes t.held)
  can_put t ready = record { state = alone_is (of t) (view_of t).state ready.lawful; shown = ready.shown; printed = record { utf8 = IsUtf8-string_bytes t.held; printed = ready.plain } }

  -- a held run logs something
  pub run_logs : (t : TerminalState W) → IsReady width_of t → (length (string_bytes t.held) == 0) ≡ false → 0 < length (run_logged (of t) (view_of t))
  run_logs t ready e =
      subst (λ (steps : List LogStep). 0 < length steps) (sym (ap (λ (b : Bool). if b then [] else map Logged (run_changes_of (of t) (string_bytes t.held) (view_of t).state)) e))
      (let all = length-map (run_changes_of (of t) (string_bytes t.held) (view_of t).state) Logged in let some = by_modes (kept_modes t.modes) in omega (arith, all, some))
    where
      by_modes : (modes : Option Modes) → 0 < length (run_changes modes (of t) (shown_by t.surface).screen (string_bytes t.held))
      by_modes None = omega arith
      by_modes (Some modes) = let can = can_put t ready in let set : Charset = charset_in_use modes.charsets in run_some (of t) (shown_by t.surface) (shown_by t.surface).screen modes (text_in set (string_bytes t.held)) (run_in set (string_bytes t.held) can.printed) (some_in set (string_bytes t.held) can.printed.utf8 (some_byte (string_bytes t.held) e)) can.state can.shown refl

  -- under xterm the held run is put
  pub xterm_adds : (t : TerminalState W) (before after : Surface W) (text : String Global) (modes : code.Modes) (result : Result ⊤ SurfaceError) → before ≡ t.surface → text ≡ t.held → t.modes ≡ Some modes → PutsRun width_of (modes_in modes) before (string_bytes text) result after
      → IsReady width_of t → AddsWith true width_of t.surface (run_changes_of (of t) (string_bytes t.held) (view_of t).state) result after
  xterm_adds t before after text modes result same held is puts ready =
      subst (λ (kept : Option Modes). AddsWith true width_of t.surface (run_changes kept (of t) (shown_by t.surface).screen (string_bytes t.held)) result after) (sym (ap kept_modes is))
      (subst (λ (s : Surface W). PutsRun width_of (modes_in modes) s (string_bytes t.held) result after) same (subst (λ (x : String Global). PutsRun width_of (modes_in modes) before (string_bytes x) result after) held puts) (can_put t ready))

  -- it is kept as the run before; a plain terminal keeps nothing
  pub plain_kept : (t : TerminalState W) (result : Result ⊤ SurfaceError) → t.modes ≡ None → IfOk result (λ _. kept_modes t.modes ≡ run_modes (string_bytes t.held) (kept_modes t.modes))
  plain_kept t (Ok x) e = subst (λ (m : Option code.Modes). kept_modes m ≡ run_modes (string_bytes t.held) (kept_modes m)) (sym e) refl
  plain_kept t (Err error) e = tt

  pub xterm_kept : (t : TerminalState W) (text : String Global) (modes next : code.Modes) (result : Result ⊤ SurfaceError) → text ≡ t.held → t.modes ≡ Some modes
      → OnOk result (modes_in next ≡ with_last (text_as (modes_in modes) (string_bytes text)) (modes_in modes))
      → IfOk result (λ _. Some (modes_in next) ≡ run_modes (string_bytes t.held) (kept_modes t.modes))
  xterm_kept t text modes next (Ok x) held is last =
      ap Some (subst (λ (b : String Global). modes_in next ≡ with_last (text_as (modes_in modes) (string_bytes b)) (modes_in modes)) held last)
      ∙ subst (λ (m : Option code.Modes). run_modes (string_bytes t.held) (Some (modes_in modes)) ≡ run_modes (string_bytes t.held) (kept_modes m)) (sym is) refl
  xterm_kept t text modes next (Err error) held is last = tt

  -- the run was put, or refused
  pub settled_on : (t r : TerminalState W) (result : Result ⊤ SurfaceError) → (length (string_bytes t.held) == 0) ≡ false → string_bytes r.held ≡ [] → r.saved ≡ t.saved → r.replies.items ≡ t.replies.items → IfOk result (λ _. kept_modes r.modes ≡ run_modes (string_bytes t.held) (kept_modes t.modes))
      → (IsReady width_of t → IfOk result (λ _. AddsAll width_of t.surface r.surface (run_changes_of (of t) (string_bytes t.held) (view_of t).state)))
      → (IsReady width_of t → IfOk result (λ _. number_of t.surface < 2 ^ 64 → number_of r.surface < 2 ^ 64)) → OnOk result (Does width_of t r (Looked ∷ []))
  settled_on t r (Ok x) e n v q m added fits = λ ready events. settled_had t r r.surface e refl n v q m (added ready) (fits ready ready.fits) ready
  settled_on t r (Err error) e n v q m added fits = tt

  -- after a run that has ended an action was applied
  pub act_had : (t u : TerminalState W) (s : Surface W) (action : StreamAction) (r : TerminalState W) → is_print action ≡ false
      → r.surface ≡ s → string_bytes r.held ≡ string_bytes u.held
      → Had width_of t u (Looked ∷ [])
      → AddsAll width_of u.surface s (acted_changes (of u) action (view_of u).state)
      → r.saved ≡ (acted (of u) action (view_of u).state).saved
      → r.replies.items ≡ (acted (of u) action (view_of u).state).replies → kept_modes r.modes ≡ (acted (of u) action (view_of u).state).modes → s.log.log.number < 2 ^ 64
      → Had width_of t r (Act action ∷ [])
  act_had t u s action r p e k h a v q m f = record {
    view = (λ i. record { state = states i; stream = []; held = k i }) ∙ ap {B = View} (λ (f : List ℕ → ℕ). record (view_of u) { state = acted f action (view_of u).state }) alike ∙ ap {B = View} (λ (x : View). record x { state = acted (of t) action x.state }) h.view ∙ sym (ap done p);
    log = ap (λ x. x.log) e ∙ a.log ∙ ap (λ (f : List ℕ → ℕ). fold step_of_kept u.surface.log (map Logged (acted_changes f action (view_of u).state))) alike ∙ ap (λ l. fold step_of_kept l (map Logged there)) h.log
        ∙ sym (fold-append step_of_kept t.surface.log (run_logged (of t) (view_of t) ++ []) (map Logged there))
        ∙ ap (λ xs. fold step_of_kept t.surface.log xs) (ap (λ xs. xs ++ map Logged there) (append_nil (run_logged (of t) (view_of t))) ∙ ap (λ x. run_logged (of t) (view_of t) ++ map Logged (acted_changes (of t) action x.state)) h.view ∙ sym (append_nil (run_logged (of t) (view_of t) ++ map Logged (acted_changes (of t) action (settled (of t) (view_of t)).state))) ∙ sym (ap logged p));
    widths = ap (λ x. x.grid.widths) e ∙ a.widths ∙ h.widths;
    shape = ap (λ x. (shown_by x).shape) e ∙ ap (λ d. d.shape) a.shown ∙ (actions_are_logged (of u) action (view_of u).state (shown_by u.surface) h.ready.lawful h.ready.shown refl).shape ∙ h.shape;
    ready = record {
      stays = ap (λ x. x.is_failed) e ∙ a.stays;
      shown = subst (λ x. IsDisplay (shown_by x)) (sym e) (subst IsDisplay (sym a.shown) (replay_is (of u) changes (shown_by u.surface) h.ready.shown));
      lawful = lawful_after u r (acted (of u) action (view_of u).state) (ap (λ x. x.grid.widths) e ∙ a.widths) states (actions_keep_states (of u) action (view_of u).state h.ready.lawful);
      fits = subst (λ (x : Surface W). x.log.log.number < 2 ^ 64) (sym e) f;
      plain = subst IsPrinted (sym k) h.ready.plain;
    };
  }
    where
      -- by the widths of the first terminal
      alike : of u ≡ of t
      alike = ap width_of h.widths

      changes : List ChangeValue
      changes = acted_changes (of u) action (view_of u).state

      there : List ChangeValue
      there = acted_changes (of t) action (view_of u).state

      screens : (shown_by r.surface).screen ≡ (acted (of u) action (view_of u).state).screen
      screens = ap (λ x. (shown_by x).screen) e ∙ ap (λ d. d.screen) a.shown ∙ (actions_are_logged (of u) action (view_of u).state (shown_by u.surface) h.ready.lawful h.ready.shown refl).screen

      states : (view_of r).state ≡ acted (of u) action (view_of u).state
      states = λ i. record { screen = screens i; saved = v i; replies = q i; modes = m i }

      done : Bool → View
      done b = if b then record (view_of t) { held = (view_of t).held ++ printed action } else record (settled (of t) (view_of t)) { state = acted (of t) action (settled (of t) (view_of t)).state }

      logged : Bool → List LogStep
      logged b = (if b then [] else run_logged (of t) (view_of t) ++ map Logged (acted_changes (of t) action (settled (of t) (view_of t)).state)) ++ []
