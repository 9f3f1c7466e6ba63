-- What a parser hands out, one after another.
use Rattle.std.proofs.Common.{ℕ, List, [], ◌∷◌, ◌++◌, fold, refl, sym, ap, subst, ◌∙◌}
use Rattle.std.specs.List.{FoldsTo}
use Rattle.std.proofs.lemmas.List.Sums.{fold-append}
use Rattle.screen_log.specs.LogSteps.{step_of_kept}
use Rattle.escape_stream.specs.Items.{Item}
use Rattle.terminal_table.specs.History.{Event}
use Rattle.terminal_table.specs.Meaning.{event_done}
use Rattle.terminal_table.specs.Logged.{events_logged}
use Rattle.terminal_table.specs.Turns.{AreEvents}
use Rattle.terminal_table.proofs.JoinLemmas.{events_logged-append}
use Rattle.terminal_steps.specs.Events.{view_of, Had, IsReady}
use Rattle.terminal_steps.specs.Items.{item_event, item_events, DoesItem, Leads}
use Rattle.terminal_steps.specs.declared.state.TerminalState.{TerminalState}

pub are_prefix : (xs ys : List Event) → AreEvents (xs ++ ys) → AreEvents xs
are_prefix [] ys h = tt
are_prefix (x ∷ xs) ys h = (h.0, are_prefix xs ys h.1)

pub are_after : (xs ys : List Event) → AreEvents (xs ++ ys) → AreEvents ys
are_after [] ys h = h
are_after (x ∷ xs) ys h = are_after xs ys h.1

module _ {W : Type 0} (width_of : W → List ℕ → ℕ) where
  abbrev of : TerminalState W → List ℕ → ℕ
  of t = width_of t.surface.grid.widths

  had_then : (a b c : TerminalState W) (es fs : List Event) → Had width_of a b es → Had width_of b c fs → Had width_of a c (es ++ fs)
  had_then a b c es fs h k = record {
    view = k.view ∙ (λ i. fold (event_done (width_of (h.widths i))) (h.view i) fs) ∙ sym (fold-append (event_done (of a)) (view_of a) es fs);
    log = k.log ∙ (λ i. fold step_of_kept (h.log i) (events_logged (width_of (h.widths i)) (h.view i) fs))
        ∙ sym (fold-append step_of_kept a.surface.log (events_logged (of a) (view_of a) es) (events_logged (of a) (fold (event_done (of a)) (view_of a) es) fs))
        ∙ ap (λ xs. fold step_of_kept a.surface.log xs) (sym (events_logged-append (of a) (view_of a) es fs));
    widths = k.widths ∙ h.widths;
    shape = k.shape ∙ h.shape;
    ready = k.ready;
  }

  had_none : (t : TerminalState W) → IsReady width_of t → Had width_of t t []
  had_none t ready = record { view = refl; log = refl; widths = refl; shape = refl; ready = ready }

  pub leads : (t last : TerminalState W) (items : List Item) → FoldsTo (DoesItem width_of) t items last → Leads width_of t last items
  leads t last [] s = λ ready events. subst (λ u. Had width_of t u []) s (had_none t ready)
  leads t last (x ∷ xs) s = λ ready events.
      let h = s.1 ready (events.0, tt) in
      had_then t s.0 last (item_event x ∷ []) (item_events xs) h (leads s.0 last xs s.2 h.ready events.1)
