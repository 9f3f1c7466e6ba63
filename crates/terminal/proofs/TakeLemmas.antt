-- Replies that are taken change nothing else of a terminal.
use Rattle.std.proofs.Common.{◌≡◌, ℕ, false, List, [], ◌∷◌, ◌++◌, fold, refl, sym, ap, subst, ◌∙◌, append-nil, append_assoc}
use Rattle.screen_log.specs.LogSteps.{step_of_kept}
use Rattle.escape_framing.specs.Held.{held_of}
use Rattle.terminal.specs.Calls.{Call, Goes, Takes, GoesThrough, history_in, taken_in, with_taken}
use Rattle.terminal.specs.Headline.{StandsAt, GoesBy}
use Rattle.terminal.specs.Terminal.{Terminal, state_in}
use Rattle.terminal.proofs.GoLemmas.{in_turn}
use Rattle.terminal_table.specs.History.{History}
use Rattle.terminal_table.specs.Logged.{logged}
use Rattle.terminal_table.specs.Meaning.{View, after}
use Rattle.terminal_table.specs.Replies as view
use Rattle.terminal_table.specs.State.{State}
use Rattle.terminal_table.proofs.JoinLemmas.{nothing_after}
use Rattle.terminal_table.proofs.ReplyLemmas.{after_with, logged_with_taken}

module _ {W : Type 0} (width_of : W → List ℕ → ℕ) where
  abbrev of : Terminal W → List ℕ → ℕ
  of t = width_of t.surface.grid.widths

  -- a view with the terminal's own state, without the replies that were taken
  abbrev own : Terminal W → View → View
  own t v = record v { state = state_in t }

  own_view : (taken : List ℕ) (t : Terminal W) (v : View) → StandsAt (with_taken taken t) v → v ≡ view.with_taken taken (own t v)
  own_view taken t v st = λ i. record v { state = sym st.state i }

  pub goes_with : (taken : List ℕ) (now next : Terminal W) (more : History) → GoesBy width_of now next more → GoesBy width_of (with_taken taken now) (with_taken taken next) more
  goes_with taken now next more g = record {
    stands = λ v st.
        let there = g.stands (own now v) (record { state = refl; run = st.run; unfinished = st.unfinished }) in
        subst (StandsAt (with_taken taken next)) (sym (ap (λ x. after (of now) x more) (own_view taken now v st) ∙ after_with (of now) taken (own now v) more))
        (record { state = ap (λ (s : State). record s { replies = taken ++ s.replies }) there.state; run = there.run; unfinished = there.unfinished });
    log = λ v st.
        g.log (own now v) (record { state = refl; run = st.run; unfinished = st.unfinished })
        ∙ ap (fold step_of_kept now.surface.log) (sym (logged_with_taken (of now) taken (own now v) more) ∙ ap (λ x. logged (of now) x more) (sym (own_view taken now v st)));
    widths = g.widths;
    sound = g.sound;
  }

  stays : (t : Terminal W) → t.is_failed ≡ false → GoesBy width_of t t []
  stays t sound = record {
    stands = λ v st. record { state = st.state; run = st.run; unfinished = st.unfinished ∙ ap held_of (sym (nothing_after v.stream)) };
    log = λ v st. refl;
    widths = refl;
    sound = sound;
  }

  pub taken_together : (before now : Terminal W) (calls : List Call) → before.is_failed ≡ false → GoesThrough width_of before calls now → GoesBy width_of before (with_taken (taken_in calls) now) (history_in calls)
  taken_together before now [] sound same = subst (λ t. GoesBy width_of before t []) (sym same) (stays before sound)
  taken_together before now (Goes history ∷ calls) sound way =
      in_turn width_of before way.0 (with_taken (taken_in calls) now) history (history_in calls) way.1 (taken_together way.0 now calls way.1.sound way.2)
  taken_together before now (Takes replies ∷ calls) sound way =
      let rest = taken_together (record before { replies = [] }) now calls sound way.1 in
      let whole : replies ++ [] ≡ before.replies = append-nil replies ∙ way.0 in
      subst (λ (all : List ℕ). GoesBy width_of before (record now { replies = all }) (history_in calls)) (sym (append_assoc replies (taken_in calls) now.replies))
      (subst (λ (all : List ℕ). GoesBy width_of (record before { replies = all }) (record now { replies = replies ++ (taken_in calls ++ now.replies) }) (history_in calls)) whole
      (goes_with replies (record before { replies = [] }) (with_taken (taken_in calls) now) (history_in calls) rest))
