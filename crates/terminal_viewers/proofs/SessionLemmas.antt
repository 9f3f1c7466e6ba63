-- Sessions: each turn keeps a chain, so that each answer is shown, and in a round each viewer shows the terminal.
use Rattle.std.proofs.Common.{◌≡◌, ℕ, zero, suc, ◌+◌, ◌<◌, ◌^◌, List, [], ◌∷◌, ◌++◌, length, take, replicate, refl, sym, ap, subst, ◌∙◌, arith}
use Rattle.std.specs.Prelude.{All, None}
use Rattle.std.proofs.lemmas.List.{length-replicate}
use Rattle.std.proofs.lemmas.List.Elements.{All-head, All-nil, All-tail}
use Rattle.std.proofs.lemmas.List.Sums.{fold-append}
use Rattle.std.proofs.Math.Numerals.{add-one}
use Rattle.cell_base.specs.Row.{plain_row, space}
use Rattle.cell_base.specs.Screen.{height}
use Rattle.escape_framing.specs.Held.{hand_out, held_of, nothing_held}
use Rattle.terminal_viewers.specs.Reading.{PatchesAreShown, PatchesLeaveIdle}
use Rattle.terminal_viewers.specs.Sessions.{Answer, Answers, Chain, Forgets, Goes, Turn, Viewer, answered, answering, lagging, forgetting, new_chain, new_viewer, readings, round, session, steps_of, turned}
use Rattle.terminal_viewers.specs.Showing.{AllShow, AnswersAreShown, CanAnswer, IsShown, IsTurn, RoundsAreShown, TerminalsGoTheirWay, ViewersStay}
use Rattle.terminal_viewers.proofs.ChainLemmas.{IsChain, answering_shows, forgetting_keeps, goes_on, next_shows}
use Rattle.terminal_viewers.proofs.HistoryLemmas.{nothing_after, standings_join}
use Rattle.terminal_render.proofs.ViewLemmas.{new_spelled}
use Rattle.terminal_table.proofs.PrintLemmas.{AllCut}
use Rattle.terminal_table.proofs.RunLemmas.{no_text}
use Rattle.terminal_table.proofs.StateLemmas.{new_is}
use Rattle.terminal_table.specs.History.{Forget, History, Look}
use Rattle.terminal_viewers.specs.Updates.{Standing, new_standing, standing_after}
use Rattle.terminal_viewers.specs.Viewers.{UpdatesAreShown, UpdatesLeaveIdle}

-- ---- new viewers

module _ (width_of : List ℕ → ℕ) where
  new_height : (width tall : ℕ) → height (new_standing width tall).view.state.screen ≡ tall
  new_height width tall = length-replicate tall (plain_row width)

  new_can_answer : (width tall : ℕ) → width_of space ≡ 1 → 0 < width → width < 2 ^ 32 → 0 < tall → tall < 2 ^ 32 → CanAnswer width_of (new_standing width tall)
  new_can_answer width tall narrow w wide t small = record {
    lawful = record { lawful = new_is width_of None width tall tt narrow w t; plain = no_text };
    wide = wide;
    tall = subst (λ n. n < 2 ^ 32) (sym (new_height width tall)) small;
    spelled = new_spelled width tall;
    encodings = tt;
    counted = omega arith;
  }

  nothing_unfinished : held_of [] ≡ nothing_held
  unfolding hand_out
  nothing_unfinished = refl

  -- viewers of the size of the one that answers them
  new_viewers : (count : ℕ) (one : Standing) (width tall : ℕ) → CanAnswer width_of one → one.view.state.screen.width ≡ width → height one.view.state.screen ≡ tall → CanAnswer width_of (new_standing width tall)
      → IsChain width_of one (replicate count (new_viewer width tall))
  new_viewers zero one width tall can w t own = can
  new_viewers (suc count) one width tall can w t own = (
    can,
    record {
      idle = record { run = refl; stream = nothing_unfinished };
      plain = refl;
      shows = record { wide = sym w; tall = new_height width tall ∙ sym t; leads = tt };
      reached = omega arith;
      steps = tt;
    },
    new_viewers count (new_standing width tall) width tall own refl (new_height width tall) own,
  )

  new_chain_is : (terminal : Standing) (count : ℕ) → CanAnswer width_of terminal → IsChain width_of terminal (new_chain terminal count).viewers
  new_chain_is terminal count can =
      let screen = terminal.view.state.screen in
      let row = can.lawful.lawful.lawful.row_in in
      new_viewers count terminal screen.width (height screen) can refl refl (new_can_answer screen.width (height screen) can.lawful.lawful.narrow can.lawful.lawful.lawful.wide_enough can.wide (omega arith) can.tall)

-- ---- turns

module _ (cut : AllCut) (shown : UpdatesAreShown) (idles : UpdatesLeaveIdle) (patched : PatchesAreShown) (patch_idles : PatchesLeaveIdle) where
  module _ (width_of : List ℕ → ℕ) where
    turn_keeps : (chain : Chain) (turn : Turn) → IsTurn turn → IsChain width_of chain.terminal chain.viewers → IsChain width_of (turned width_of chain turn).terminal (turned width_of chain turn).viewers
    turn_keeps chain (Goes step) h c = goes_on cut width_of (step ∷ []) chain.terminal chain.viewers (h, tt) c
    turn_keeps chain (Forgets at number) h c = forgetting_keeps cut width_of number at chain.terminal chain.viewers c
    turn_keeps chain (Answers at answer) h c = (answering_shows cut width_of shown idles patched patch_idles answer at chain.terminal chain.viewers c).stays

    session_keeps : (turns : List Turn) (chain : Chain) → All IsTurn turns → IsChain width_of chain.terminal chain.viewers → IsChain width_of (session width_of chain turns).terminal (session width_of chain turns).viewers
    session_keeps [] chain h c = c
    session_keeps (turn ∷ turns) chain h c = session_keeps turns (turned width_of chain turn) (All-tail IsTurn turn turns h) (turn_keeps chain turn (All-head IsTurn turn turns h) c)

    -- where the first `at` viewers show the terminal's screen, the viewers that a round answers after them do as well
    round_shows : (answers : List Answer) (at : ℕ) (chain : Chain) → IsChain width_of chain.terminal chain.viewers → AllShow chain.terminal.view.state.screen (take at chain.viewers)
        → let last = session width_of chain (round at answers) in AllShow last.terminal.view.state.screen (take (at + length answers) last.viewers)
    round_shows [] at chain c h =
        let same : at ≡ at + 0 = omega arith in
        subst (λ n. AllShow chain.terminal.view.state.screen (take n chain.viewers)) same h
    round_shows (answer ∷ answers) at chain c h =
        let next = turned width_of chain (Answers at answer) in
        let last = session width_of next (round (at + 1) answers) in
        let shows = subst (λ n. AllShow next.terminal.view.state.screen (take n next.viewers)) (sym (add-one at)) (next_shows cut width_of shown idles patched patch_idles answer at chain.terminal chain.viewers c h) in
        let same : (at + 1) + length answers ≡ at + suc (length answers) = omega arith in
        subst (λ n. AllShow last.terminal.view.state.screen (take n last.viewers)) same (round_shows answers (at + 1) next (turn_keeps chain (Answers at answer) tt c) shows)

  -- ---- sessions

  pub answers_are_shown : AnswersAreShown
  answers_are_shown width_of terminal count turns at answer can h =
      let chain = session width_of (new_chain terminal count) turns in
      let stays = session_keeps width_of turns (new_chain terminal count) h (new_chain_is width_of terminal count can) in
      subst (λ (c : Chain). IsShown at c.terminal c.viewers) (sym (fold-append (turned width_of) (new_chain terminal count) turns (Answers at answer ∷ [])))
      (answering_shows cut width_of shown idles patched patch_idles answer at chain.terminal chain.viewers stays).shown

  pub rounds_are_shown : RoundsAreShown
  rounds_are_shown width_of terminal count turns answers can h =
      let chain = session width_of (new_chain terminal count) turns in
      let stays = session_keeps width_of turns (new_chain terminal count) h (new_chain_is width_of terminal count can) in
      let last = session width_of chain (round 0 answers) in
      let same : 0 + length answers ≡ length answers = omega arith in
      subst (λ (c : Chain). AllShow c.terminal.view.state.screen (take (length answers) c.viewers)) (sym (fold-append (turned width_of) (new_chain terminal count) turns (round 0 answers)))
      (subst (λ n. AllShow last.terminal.view.state.screen (take n last.viewers)) same
      (round_shows width_of answers 0 chain stays (All-nil (λ viewer. viewer.standing.view.state.screen ≡ chain.terminal.view.state.screen))))

-- ---- the terminal, and how many viewers there are

module _ (width_of : List ℕ → ℕ) where
  way : (turns : List Turn) (one : Standing) (viewer : Viewer) (viewers : List Viewer) → (session width_of (record { terminal = one; viewers = viewer ∷ viewers }) turns).terminal ≡ standing_after width_of one (steps_of turns)
  way [] one viewer viewers = sym (nothing_after width_of one)
  way (Goes step ∷ turns) one viewer viewers =
      way turns (standing_after width_of one (step ∷ [])) (record viewer { since = viewer.since ++ step ∷ [] }) viewers ∙ standings_join width_of one (step ∷ []) (steps_of turns)
  way (Answers zero answer ∷ turns) one viewer viewers =
      let looked = standing_after width_of one (Look ∷ []) in
      way turns looked (answered width_of answer viewer looked) (lagging (readings width_of answer viewer looked) viewers) ∙ standings_join width_of one (Look ∷ []) (steps_of turns)
  way (Answers (suc at) answer ∷ turns) one viewer viewers =
      let remaining = answering width_of answer at viewer.standing viewers in
      way turns one (record viewer { standing = remaining.terminal }) remaining.viewers
  way (Forgets zero number ∷ turns) one viewer viewers = way turns one (record viewer { standing = standing_after width_of viewer.standing (Forget number ∷ []) }) (lagging (Forget number ∷ []) viewers)
  way (Forgets (suc at) number ∷ turns) one viewer viewers = way turns one viewer (forgetting width_of number at viewers)

  after_count : (history : History) (viewers : List Viewer) → length (lagging history viewers) ≡ length viewers
  after_count history [] = refl
  after_count history (viewer ∷ viewers) = refl

  answering_count : (answer : Answer) (at : ℕ) (one : Standing) (viewers : List Viewer) → length (answering width_of answer at one viewers).viewers ≡ length viewers
  answering_count answer at one [] = refl
  answering_count answer zero one (viewer ∷ viewers) = ap suc (after_count (readings width_of answer viewer (standing_after width_of one (Look ∷ []))) viewers)
  answering_count answer (suc at) one (viewer ∷ viewers) = ap suc (answering_count answer at viewer.standing viewers)

  forgetting_count : (number at : ℕ) (viewers : List Viewer) → length (forgetting width_of number at viewers) ≡ length viewers
  forgetting_count number at [] = refl
  forgetting_count number zero (viewer ∷ viewers) = ap suc (after_count (Forget number ∷ []) viewers)
  forgetting_count number (suc at) (viewer ∷ viewers) = ap suc (forgetting_count number at viewers)

  turn_count : (chain : Chain) (turn : Turn) → length (turned width_of chain turn).viewers ≡ length chain.viewers
  turn_count chain (Goes step) = after_count (step ∷ []) chain.viewers
  turn_count chain (Answers at answer) = answering_count answer at chain.terminal chain.viewers
  turn_count chain (Forgets at number) = forgetting_count number at chain.viewers

  session_count : (turns : List Turn) (chain : Chain) → length (session width_of chain turns).viewers ≡ length chain.viewers
  session_count [] chain = refl
  session_count (turn ∷ turns) chain = session_count turns (turned width_of chain turn) ∙ turn_count chain turn

pub terminals_go : TerminalsGoTheirWay
terminals_go width_of terminal count turns =
    let viewer = new_viewer terminal.view.state.screen.width (height terminal.view.state.screen) in
    way width_of turns terminal viewer (replicate count viewer)

pub viewers_stay : ViewersStay
viewers_stay width_of terminal count turns =
    let viewer = new_viewer terminal.view.state.screen.width (height terminal.view.state.screen) in
    session_count width_of turns (new_chain terminal count) ∙ length-replicate count viewer
