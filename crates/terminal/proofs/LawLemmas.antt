-- Histories of terminals: the states and logs to which they lead.
use Rattle.std.proofs.Common.{◌≡◌, ℕ, List, [], ◌∷◌, ◌++◌, length, fold, map, inl, inr, sym, ap, subst, ◌∙◌}
use Rattle.std.specs.List.{AllByRecursion}
use Rattle.std.specs.Prelude.{◌==◌, ◌⊎◌, Option, if◌then◌else◌}
use Rattle.screen_log.specs.LogSteps.{Logged, step_of_kept}
use Rattle.escape_framing.specs.Held.{held_of}
use Rattle.escape_stream.specs.Items.{items}
use Rattle.escape_stream.specs.PiecesView.{BytesTakeMemory}
use Rattle.escape_stream.specs.StreamAction.{StreamAction}
use Rattle.escape_stream.specs.StreamWritable.{IsWritable}
use Rattle.terminal.specs.Headline.{StandsAt, GoesBy}
use Rattle.terminal.specs.Refusals.{NeedsMemory}
use Rattle.terminal.specs.Terminal.{Terminal, IsIdle, IsAlike, state_in}
use Rattle.terminal.proofs.GoLemmas.{in_turn, joined}
use Rattle.terminal_steps.specs.Items.{AsksNothing, ParserNeedsMemory, SomeNeedsMemory}
use Rattle.terminal_steps.proofs.MemoryLemmas.{bytes_take, quiet_items}
use Rattle.terminal_table.specs.Alone as alone
use Rattle.terminal_table.specs.Alone.{row_done, row_logged}
use Rattle.terminal_table.specs.History.{History, Look, Piece}
use Rattle.terminal_table.specs.Logged.{logged}
use Rattle.terminal_table.specs.Meaning.{View, after}
use Rattle.terminal_table.specs.Modes.{Modes}
use Rattle.terminal_table.specs.State.{State}
use Rattle.terminal_table.specs.Runs.{run_changes_of, run_step}
use Rattle.terminal_table.proofs.JoinLemmas.{nothing_after}

module _ {W : Type 0} (width_of : W → List ℕ → ℕ) where
  pub pieces_in_turn : (first between last : Terminal W) (x y : List ℕ) → GoesBy width_of first between (Piece x ∷ []) → GoesBy width_of between last (Piece y ∷ []) → GoesBy width_of first last (Piece (x ++ y) ∷ [])
  pieces_in_turn first between last x y g h = joined width_of first last x y (in_turn width_of first between last (Piece x ∷ []) (Piece y ∷ []) g h)

  pub alike : (before one other : Terminal W) (history : History) (view : View) → StandsAt before view → GoesBy width_of before one history → GoesBy width_of before other history → IsAlike one other
  alike before one other history view st g h = record {
    state = (g.stands view st).state ∙ sym (h.stands view st).state;
    run = (g.stands view st).run ∙ sym (h.stands view st).run;
    unfinished = (g.stands view st).unfinished ∙ sym (h.stands view st).unfinished;
    log = g.log view st ∙ sym (h.log view st);
  }

  -- a look where no run is held changes nothing
  pub look_again : (before now : Terminal W) (view : View) → StandsAt before view → before.run ≡ [] → GoesBy width_of before now (Look ∷ []) → IsAlike now before
  look_again before now view st none g =
      let there = g.stands view st in
      let held : view.held ≡ [] = sym st.run ∙ none in
      record {
        state = there.state ∙ ap (λ (text : List ℕ). if length text == 0 then view.state else run_step (width_of before.surface.grid.widths) text view.state) held ∙ sym st.state;
        run = there.run ∙ sym none;
        unfinished = there.unfinished ∙ ap held_of (nothing_after view.stream) ∙ sym st.unfinished;
        log = g.log view st ∙ ap (λ (text : List ℕ). fold step_of_kept before.surface.log ((if length text == 0 then [] else map Logged (run_changes_of (width_of before.surface.grid.widths) text view.state)) ++ [])) held;
      }

  -- a view at which an idle terminal stands is idle
  pub idle_view : (t : Terminal W) (view : View) → IsIdle t → StandsAt t view → alone.IsIdle view
  idle_view t view idle st = record { run = sym st.run ∙ idle.run; stream = sym st.unfinished ∙ idle.unfinished }

  abbrev of : Terminal W → List ℕ → ℕ
  of t = width_of t.surface.grid.widths

  pub alone_state : ((f : List ℕ → ℕ) (view : View) (action : StreamAction) → alone.IsIdle view → IsWritable (action ∷ []) → (after f view (alone.alone action)).state ≡ row_done f action view.state)
      → (before now : Terminal W) (view : View) (action : StreamAction) → IsIdle before → StandsAt before view → IsWritable (action ∷ []) → GoesBy width_of before now (alone.alone action) → state_in now ≡ row_done (of before) action (state_in before)
  alone_state law before now view action idle st w g =
      (g.stands view st).state ∙ law (of before) view action (idle_view before view idle st) w ∙ ap (row_done (of before) action) (sym st.state)

  pub alone_log : ((f : List ℕ → ℕ) (view : View) (action : StreamAction) → alone.IsIdle view → IsWritable (action ∷ []) → logged f view (alone.alone action) ≡ row_logged f action view.state)
      → (before now : Terminal W) (view : View) (action : StreamAction) → IsIdle before → StandsAt before view → IsWritable (action ∷ []) → GoesBy width_of before now (alone.alone action)
      → now.surface.log ≡ fold step_of_kept before.surface.log (row_logged (of before) action (state_in before))
  alone_log law before now view action idle st w g =
      g.log view st ∙ ap (fold step_of_kept before.surface.log) (law (of before) view action (idle_view before view idle st) w ∙ ap (row_logged (of before) action) (sym st.state))

  pub alone_idle : ((f : List ℕ → ℕ) (view : View) (action : StreamAction) → alone.IsIdle view → IsWritable (action ∷ []) → alone.IsIdle (after f view (alone.alone action)))
      → (before now : Terminal W) (view : View) (action : StreamAction) → IsIdle before → StandsAt before view → IsWritable (action ∷ []) → GoesBy width_of before now (alone.alone action) → IsIdle now
  alone_idle law before now view action idle st w g =
      let later = law (of before) view action (idle_view before view idle st) w in
      record { run = (g.stands view st).run ∙ later.run; unfinished = (g.stands view st).unfinished ∙ later.stream }

  pub asks_nothing : (before now : Terminal W) (view : View) (bytes : List ℕ) → StandsAt before view → before.run ≡ []
      → AllByRecursion (AsksNothing before.modes) (items view.stream bytes) → NeedsMemory width_of before bytes now → BytesTakeMemory view.stream bytes
  asks_nothing before now view bytes st none all needs = taken (needs view st)
    where
      taken : ParserNeedsMemory (width_of before.surface.grid.widths) view before.surface.log view.stream bytes ⊎ SomeNeedsMemory (width_of before.surface.grid.widths) view before.surface.log (items view.stream bytes) now.surface.is_failed
          → BytesTakeMemory view.stream bytes
      taken (inl taking) = bytes_take (width_of before.surface.grid.widths) view before.surface.log view.stream bytes taking
      taken (inr some) = absurd (quiet_items (width_of before.surface.grid.widths) view before.surface.log (items view.stream bytes) now.surface.is_failed (sym st.run ∙ none)
          (subst (λ (modes : Option Modes). AllByRecursion (AsksNothing modes) (items view.stream bytes)) (ap (λ (s : State). s.modes) st.state) all) some)
