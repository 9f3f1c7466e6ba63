-- Replies that are taken from the terminal of a session change nothing else.
use Rattle.std.proofs.Common.{◌≡◌, ℕ, zero, suc, List, [], ◌∷◌, fold, refl, ap, ◌∙◌}
use Rattle.screen_log.specs.LogSteps.{step_of_kept}
use Rattle.terminal_viewers.specs.Sessions.{Answer, Update, Patch, Chain, Viewer, Turn, Goes, Answers, Forgets, answered, answering, lagging, readings, session, turned, with_taken}
use Rattle.terminal_table.specs.History.{History, Look}
use Rattle.terminal_table.specs.Replies as view
use Rattle.terminal_table.proofs.ReplyLemmas.{after_with, logged_with_taken}
use Rattle.terminal_viewers.specs.Updates.{Standing, standing_after}

abbrev with_prefix : List ℕ → Standing → Standing
with_prefix taken s = record s { view = view.with_taken taken s.view }

module _ (width_of : List ℕ → ℕ) (taken : List ℕ) where
  standing_with : (s : Standing) (history : History) → standing_after width_of (with_prefix taken s) history ≡ with_prefix taken (standing_after width_of s history)
  standing_with s history = λ i. record {
    view = after_with width_of taken s.view history i;
    log = fold step_of_kept s.log (logged_with_taken width_of taken s.view history i);
  }

  answered_with : (answer : Answer) (viewer : Viewer) (one : Standing) → answered width_of answer viewer (with_prefix taken one) ≡ answered width_of answer viewer one
  answered_with Update viewer one = refl
  answered_with Patch viewer one = refl

  readings_with : (answer : Answer) (viewer : Viewer) (one : Standing) → readings width_of answer viewer (with_prefix taken one) ≡ readings width_of answer viewer one
  readings_with Update viewer one = refl
  readings_with Patch viewer one = refl

  answering_with : (answer : Answer) (at : ℕ) (one : Standing) (viewers : List Viewer) → answering width_of answer at (with_prefix taken one) viewers ≡ with_taken taken (answering width_of answer at one viewers)
  answering_with answer at one [] = refl
  answering_with answer zero one (viewer ∷ viewers) =
      ap (λ (looked : Standing). record { terminal = looked; viewers = answered width_of answer viewer looked ∷ lagging (readings width_of answer viewer looked) viewers }) (standing_with one (Look ∷ []))
      ∙ (λ i. record {
        terminal = with_prefix taken (standing_after width_of one (Look ∷ []));
        viewers = answered_with answer viewer (standing_after width_of one (Look ∷ [])) i ∷ lagging (readings_with answer viewer (standing_after width_of one (Look ∷ [])) i) viewers;
      })
  answering_with answer (suc at) one (viewer ∷ viewers) = refl

  turned_with : (chain : Chain) (turn : Turn) → turned width_of (with_taken taken chain) turn ≡ with_taken taken (turned width_of chain turn)
  turned_with chain (Goes step) = ap (λ (s : Standing). record { terminal = s; viewers = lagging (step ∷ []) chain.viewers }) (standing_with chain.terminal (step ∷ []))
  turned_with chain (Answers at answer) = answering_with answer at chain.terminal chain.viewers
  turned_with chain (Forgets at number) = refl

  pub session_with : (chain : Chain) (turns : List Turn) → session width_of (with_taken taken chain) turns ≡ with_taken taken (session width_of chain turns)
  session_with chain [] = refl
  session_with chain (turn ∷ turns) = ap (λ (c : Chain). session width_of c turns) (turned_with chain turn) ∙ session_with (turned width_of chain turn) turns
