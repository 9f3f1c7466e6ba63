-- Steps that are played one by one.
use Rattle.std.proofs.Common.{◌≡◌, ℕ, ◌+◌, ◌<◌, ◌≤◌, ◌^◌, false, List, [], ◌∷◌, ◌++◌, length, drop, get_or, refl, sym, ap, subst, ◌∙◌, append_assoc}
use Rattle.std.proofs.lemmas.List.{drop_more, at_drop_more}
use Rattle.screen_log.specs.Log.{most_due, new_log}
use Rattle.screen_log.specs.LogSteps.{Sized}
use Rattle.terminal.specs.Played.{played, history_of, AreStepSizes}
use Rattle.terminal.specs.declared.steps.Step.{Step}
use Rattle.terminal.specs.declared.steps.Step.TheVariants as code
use Rattle.terminal.specs.Headline.{StandsAt, GoesBy}
use Rattle.terminal.specs.Refusals.{NeedsNumber}
use Rattle.terminal.specs.Terminal.{Terminal}
use Rattle.terminal.proofs.GoLemmas.{log_joins}
use Rattle.terminal_steps.proofs.NumberLemmas.{past_after}
use Rattle.terminal_table.specs.History as history
use Rattle.terminal_table.specs.History.{History}
use Rattle.terminal_table.specs.Logged.{logged, log_after, log_of}
use Rattle.terminal_table.specs.Meaning.{new_view, after, meaning}
use Rattle.terminal_table.proofs.JoinLemmas.{after_joins}

-- of the steps `all` those before `left` were played on a new terminal
pub record IsPlayed {W : Type 0} (width_of : W → List ℕ → ℕ) (widths : W) (width height : ℕ) (all left : History) (t : Terminal W) : Type 0 where
  pub done : History
  pub whole : all ≡ done ++ left
  pub stands : StandsAt t (meaning (width_of widths) width height done)
  pub log : t.surface.log ≡ log_of (width_of widths) width height done
  pub same : t.surface.grid.widths ≡ widths
  pub sound : t.is_failed ≡ false

module _ {W : Type 0} (width_of : W → List ℕ → ℕ) (w : W) (width height : ℕ) where
  abbrev f : List ℕ → ℕ
  f = width_of w

  abbrev first : Sized
  first = record { most = most_due width height; log = new_log }

  pub played_first : (all : History) (t : Terminal W) → StandsAt t (new_view width height) → t.surface.log ≡ first → t.surface.grid.widths ≡ w → t.is_failed ≡ false → IsPlayed width_of w width height all all t
  played_first all t st log widths sound = record { done = []; whole = refl; stands = st; log = log; same = widths; sound = sound }

  pub played_next : (all left : History) (x : history.Step) (t u : Terminal W) → IsPlayed width_of w width height all (x ∷ left) t → GoesBy width_of t u (x ∷ []) → IsPlayed width_of w width height all left u
  played_next all left x t u p g = record {
    done = p.done ++ x ∷ [];
    whole = p.whole ∙ sym (append_assoc p.done (x ∷ []) left);
    stands = subst (StandsAt u) (ap (λ v. after (width_of v) (meaning f width height p.done) (x ∷ [])) p.same ∙ sym (after_joins f (new_view width height) p.done (x ∷ []))) (g.stands (meaning f width height p.done) p.stands);
    log = g.log (meaning f width height p.done) p.stands
        ∙ (λ i. log_after (width_of (p.same i)) (meaning f width height p.done) (p.log i) (x ∷ []))
        ∙ sym (log_joins width_of f (new_view width height) first p.done (x ∷ []));
    same = g.widths ∙ p.same;
    sound = g.sound;
  }

  pub played_all : (all : History) (t : Terminal W) → IsPlayed width_of w width height all [] t → StandsAt t (meaning f width height all) × (t.surface.log ≡ log_of f width height all)
  played_all all t p = (subst (λ h. StandsAt t (meaning f width height h)) same p.stands, p.log ∙ ap (log_of f width height) same)
    where
      nothing_left : (h : History) → h ++ [] ≡ h
      nothing_left [] = refl
      nothing_left (x ∷ h) = ap (λ xs. x ∷ xs) (nothing_left h)

      same : p.done ≡ all
      same = sym (p.whole ∙ nothing_left p.done)

  pub played_past : (all left : History) (x : history.Step) (t : Terminal W) → IsPlayed width_of w width height all (x ∷ left) t → NeedsNumber width_of t (x ∷ []) → 2 ^ 64 ≤ (log_of f width height all).log.number
  played_past all left x t p n =
      subst (λ (l : Sized). 2 ^ 64 ≤ l.log.number) (ap (log_of f width height) (sym whole))
      (subst (λ (l : Sized). 2 ^ 64 ≤ l.log.number) (sym (log_joins width_of f (new_view width height) first (p.done ++ x ∷ []) left))
      (past_after (log_of f width height (p.done ++ x ∷ [])) (logged f (meaning f width height (p.done ++ x ∷ [])) left) so_far))
    where
      whole : all ≡ (p.done ++ x ∷ []) ++ left
      whole = p.whole ∙ sym (append_assoc p.done (x ∷ []) left)

      so_far : 2 ^ 64 ≤ (log_of f width height (p.done ++ x ∷ [])).log.number
      so_far = subst (λ (l : Sized). 2 ^ 64 ≤ l.log.number)
          ((λ i. log_after (width_of (p.same i)) (meaning f width height p.done) (p.log i) (x ∷ [])) ∙ sym (log_joins width_of f (new_view width height) first p.done (x ∷ [])))
          (n (meaning f width height p.done) p.stands)

  -- ---- the steps of a slice

  pub step_played : (steps : List Step) (i : ℕ) (d : Step) (t u : Terminal W) → i < length steps → IsPlayed width_of w width height (history_of steps) (history_of (drop i steps)) t
      → GoesBy width_of t u (played (get_or steps i d) ∷ []) → IsPlayed width_of w width height (history_of steps) (history_of (drop (i + 1) steps)) u
  step_played steps i d t u h p g =
      played_next (history_of steps) (history_of (drop (i + 1) steps)) (played (get_or steps i d)) t u
      (subst (λ l. IsPlayed width_of w width height (history_of steps) l t) (at_drop_more history_of steps i d h) p) g

  pub step_past : (steps : List Step) (i : ℕ) (d : Step) (t : Terminal W) → i < length steps → IsPlayed width_of w width height (history_of steps) (history_of (drop i steps)) t
      → NeedsNumber width_of t (played (get_or steps i d) ∷ []) → 2 ^ 64 ≤ (log_of f width height (history_of steps)).log.number
  step_past steps i d t h p n =
      played_past (history_of steps) (history_of (drop (i + 1) steps)) (played (get_or steps i d)) t
      (subst (λ l. IsPlayed width_of w width height (history_of steps) l t) (at_drop_more history_of steps i d h) p) n

sizes_after : (step : Step) (steps : List Step) → AreStepSizes (step ∷ steps) → AreStepSizes steps
sizes_after (code.Feed bytes) steps h = h
sizes_after code.Settle steps h = h
sizes_after (code.Resize width height) steps h = h.1

pub sizes_left : (steps : List Step) (i : ℕ) (d : Step) → i < length steps → AreStepSizes (drop i steps) → AreStepSizes (drop (i + 1) steps)
sizes_left steps i d h s = sizes_after (get_or steps i d) (drop (i + 1) steps) (subst AreStepSizes (drop_more steps i d h) s)
