-- A terminal that can answer viewers still can after any history; a waiting viewer rests after the sizes of a history, and after a look.
use Rattle.std.proofs.Common.{◌≡◌, ℕ, ◌-◌, ◌<◌, ◌^◌, List, [], ◌∷◌, ◌++◌, length, take, map, replicate, fold, refl, sym, ap, subst, ◌∙◌, arith, append-nil, length-append, length-take}
use Rattle.std.specs.Prelude.{⊤, None, option_map}
use Rattle.std.proofs.lemmas.List.{length-replicate}
use Rattle.std.proofs.lemmas.List.Sums.{fold-append}
use Rattle.cell_base.specs.Row.{plain_row}
use Rattle.cell_base.specs.Screen.{Screen, height}
use Rattle.escape_framing.specs.Held.{held_of, nothing_held}
use Rattle.screen_effects.specs.Resize.{resized_row, resized_screen}
use Rattle.terminal_viewers.specs.Sessions.{sizes}
use Rattle.terminal_viewers.specs.Showing.{CanAnswer, IsStep}
use Rattle.terminal_render.proofs.LogLemmas.{history_keeps}
use Rattle.terminal_render.proofs.StreamLemmas.{history_spelled}
use Rattle.terminal_render.proofs.RequestLemmas.{display_on_is}
use Rattle.terminal_table.specs.Alone.{IsIdle}
use Rattle.terminal_table.specs.History.{History, Piece, Look, Resize, Forget, pieces, events}
use Rattle.screen_log.specs.LogSteps.{step_of_kept}
use Rattle.terminal_table.specs.Logged.{log_after, logged}
use Rattle.terminal_table.specs.Meaning.{View, settled, event_done, after}
use Rattle.terminal_table.specs.State.{State}
use Rattle.terminal_table.specs.Turns.{AreSizes}
use Rattle.terminal_table.proofs.EventLemmas.{after_is}
use Rattle.terminal_table.proofs.JoinLemmas.{after_joins, logged_joins}
use Rattle.terminal_table.specs.Modes.{resized_modes}
use Rattle.terminal_table.proofs.ModesLemmas.{plain_terminals_stay}
use Rattle.terminal_table.proofs.PrintLemmas.{AllCut}
use Rattle.terminal_viewers.specs.Updates.{Standing, standing_after}
use Rattle.terminal_viewers.specs.Viewers.{repeated}
use Rattle.terminal_viewers.proofs.DueLemmas.{steps_reach}
use Rattle.terminal_viewers.proofs.ShowLemmas.{history_shows}

-- ---- the sizes of a history

-- each width and height is from 1 to 2^32 - 1
abbrev pub AreSteps : History → Type 0
AreSteps [] = ⊤
AreSteps (step ∷ history) = IsStep step × AreSteps history

pub steps-append : (first second : History) → AreSteps first → AreSteps second → AreSteps (first ++ second)
steps-append [] second h k = k
steps-append (step ∷ first) second h k = (h.0, steps-append first second h.1 k)

pub steps_are_sizes : (history : History) → AreSteps history → AreSizes history
steps_are_sizes [] h = tt
steps_are_sizes (Piece bytes ∷ history) h = steps_are_sizes history h.1
steps_are_sizes (Look ∷ history) h = steps_are_sizes history h.1
steps_are_sizes (Resize width tall ∷ history) h = (h.0.columns.0, h.0.rows.0, steps_are_sizes history h.1)
steps_are_sizes (Forget number ∷ history) h = steps_are_sizes history h.1

pub sizes_are_steps : (history : History) → AreSteps history → AreSteps (sizes history)
sizes_are_steps [] h = tt
sizes_are_steps (Piece bytes ∷ history) h = sizes_are_steps history h.1
sizes_are_steps (Look ∷ history) h = sizes_are_steps history h.1
sizes_are_steps (Resize width tall ∷ history) h = (h.0, sizes_are_steps history h.1)
sizes_are_steps (Forget number ∷ history) h = sizes_are_steps history h.1

no_pieces : (history : History) → pieces (sizes history) ≡ []
no_pieces [] = refl
no_pieces (Piece bytes ∷ history) = no_pieces history
no_pieces (Look ∷ history) = no_pieces history
no_pieces (Resize width tall ∷ history) = no_pieces history
no_pieces (Forget number ∷ history) = no_pieces history

-- ---- screens that repeat the sizes

pub repeated-append : (first second : History) (screen : Screen) → repeated (first ++ second) screen ≡ repeated second (repeated first screen)
repeated-append [] second screen = refl
repeated-append (Piece bytes ∷ first) second screen = repeated-append first second screen
repeated-append (Look ∷ first) second screen = repeated-append first second screen
repeated-append (Resize width tall ∷ first) second screen = repeated-append first second (resized_screen width tall screen)
repeated-append (Forget number ∷ first) second screen = repeated-append first second screen

-- a screen of less than 2^32 columns and rows
record IsSmall (screen : Screen) : Type 0 where
  wide : screen.width < 2 ^ 32
  tall : height screen < 2 ^ 32

resized_height : (width tall : ℕ) (screen : Screen) → height (resized_screen width tall screen) ≡ tall
resized_height width tall screen =
    let all = map (resized_row width) screen.rows in
    let prefix = length-take tall all in
    let more = length-replicate (tall - length all) (plain_row width) in
    let both = length-append (take tall all) (replicate (tall - length all) (plain_row width)) in
    omega arith

repeated_small : (history : History) (screen : Screen) → AreSteps history → IsSmall screen → IsSmall (repeated history screen)
repeated_small [] screen h k = k
repeated_small (Piece bytes ∷ history) screen h k = repeated_small history screen h.1 k
repeated_small (Look ∷ history) screen h k = repeated_small history screen h.1 k
repeated_small (Resize width tall ∷ history) screen h k =
    repeated_small history (resized_screen width tall screen) h.1 (record { wide = h.0.columns.1; tall = subst (λ n. n < 2 ^ 32) (sym (resized_height width tall screen)) h.0.rows.1 })
repeated_small (Forget number ∷ history) screen h k = repeated_small history screen h.1 k

-- ---- one that answers goes on

module _ (cut : AllCut) (width_of : List ℕ → ℕ) where
  -- its size is the one that the history gives it
  after_small : (s : Standing) (history : History) → CanAnswer width_of s → AreSteps history → IsSmall (after width_of s.view history).state.screen
  after_small s history can h =
      let screen = s.view.state.screen in
      let shows = history_shows width_of cut screen 0 s.view s.log history can.lawful (steps_are_sizes history h) (display_on_is screen can.lawful.lawful.lawful can.lawful.lawful.whole) can.counted (omega arith)
      (record { wide = refl; tall = refl; leads = tt }) in
      let small = repeated_small history screen h (record { wide = can.wide; tall = can.tall }) in
      record { wide = subst (λ n. n < 2 ^ 32) shows.wide small.wide; tall = subst (λ n. n < 2 ^ 32) shows.tall small.tall }

  pub can_answer_after : (s : Standing) (history : History) → CanAnswer width_of s → AreSteps history → CanAnswer width_of (standing_after width_of s history)
  can_answer_after s history can h =
      let are = steps_are_sizes history h in
      let small = after_small s history can h in
      record {
        lawful = after_is cut width_of s.view history can.lawful are;
        wide = small.wide;
        tall = small.tall;
        spelled = history_spelled cut width_of s.view history can.lawful are can.spelled;
        encodings = history_keeps cut width_of s.view history s.log can.lawful are can.spelled can.encodings;
        counted = (steps_reach 0 (logged width_of s.view history) s.log (record { counted = can.counted; reached = omega arith })).counted;
      }

-- ---- a viewer that waits

-- the later view is a plain terminal's, has this screen, and nothing is unfinished there
pub record Rests (later : View) (screen : Screen) : Type 0 where
  pub screen_is : later.state.screen ≡ screen
  pub idle : IsIdle later
  pub plain : later.state.modes ≡ None

module _ (width_of : List ℕ → ℕ) where
  -- a view that holds nothing
  abbrev waiting : State → List ℕ → View
  waiting state stream = record { state = state; stream = stream; held = [] }

  sizes_done : (history : History) (stream : List ℕ) (state : State) (read : List ℕ) → state.modes ≡ None
      → fold (event_done width_of) (waiting state read) (events stream (sizes history)) ≡ waiting (record state { screen = repeated history state.screen }) read
  sizes_done [] stream state read e = refl
  sizes_done (Piece bytes ∷ history) stream state read e = sizes_done history stream state read e
  sizes_done (Look ∷ history) stream state read e = sizes_done history stream state read e
  sizes_done (Resize width tall ∷ history) stream state read e =
      let next : State = record state { screen = resized_screen width tall state.screen } in
      let same : option_map (resized_modes width tall) state.modes ≡ state.modes = ap (option_map (resized_modes width tall)) e ∙ sym e in
      (λ i. fold (event_done width_of) (waiting (record next { modes = same i }) read) (events stream (sizes history))) ∙ sizes_done history stream next read e
  sizes_done (Forget number ∷ history) stream state read e = sizes_done history stream state read e

  -- it takes on the sizes of a history, and nothing else happens
  pub rests_after_sizes : (history : History) (v : View) → IsIdle v → v.state.modes ≡ None → Rests (after width_of v (sizes history)) (repeated history v.state.screen)
  rests_after_sizes history v idle plain =
      let done : fold (event_done width_of) v (events v.stream (sizes history)) ≡ waiting (record v.state { screen = repeated history v.state.screen }) v.stream =
      ap (λ (held : List ℕ). fold (event_done width_of) (record v { held = held }) (events v.stream (sizes history))) idle.run ∙ sizes_done history v.stream v.state v.stream plain in
      record {
        screen_is = ap (λ (x : View). x.state.screen) done;
        idle = record {
          run = ap (λ (x : View). x.held) done;
          stream = subst (λ stream. held_of stream ≡ nothing_held) (sym (ap (λ bytes. v.stream ++ bytes) (no_pieces history) ∙ append-nil v.stream)) idle.stream;
        };
        plain = plain_terminals_stay width_of v (sizes history) plain;
      }

  -- a look changes nothing of a viewer at rest
  pub rests_after_look : (v : View) → IsIdle v → v.state.modes ≡ None → Rests (after width_of v (Look ∷ [])) v.state.screen
  rests_after_look v idle plain = record {
    screen_is = ap (λ (held : List ℕ). (settled width_of (record v { held = held })).state.screen) idle.run;
    idle = record { run = refl; stream = subst (λ stream. held_of stream ≡ nothing_held) (sym (append-nil v.stream)) idle.stream };
    plain = plain_terminals_stay width_of v (Look ∷ []) plain;
  }

  -- nor does forgetting
  pub rests_after_forgetting : (number : ℕ) (v : View) → IsIdle v → v.state.modes ≡ None → Rests (after width_of v (Forget number ∷ [])) v.state.screen
  rests_after_forgetting number v idle plain = record {
    screen_is = refl;
    idle = record { run = idle.run; stream = subst (λ stream. held_of stream ≡ nothing_held) (sym (append-nil v.stream)) idle.stream };
    plain = plain;
  }

-- ---- one history after another

module _ (width_of : List ℕ → ℕ) where
  pub nothing_after : (s : Standing) → standing_after width_of s [] ≡ s
  nothing_after s = λ i. record s { view = record s.view { stream = append-nil s.view.stream i } }

  pub standings_join : (s : Standing) (first second : History) → standing_after width_of (standing_after width_of s first) second ≡ standing_after width_of s (first ++ second)
  standings_join s first second =
      let next : View = after width_of s.view first in
      let log : log_after width_of next (log_after width_of s.view s.log first) second ≡ log_after width_of s.view s.log (first ++ second) =
      sym (ap (fold step_of_kept s.log) (logged_joins width_of s.view first second) ∙ fold-append step_of_kept s.log (logged width_of s.view first) (logged width_of next second)) in
      λ i. record { view = sym (after_joins width_of s.view first second) i; log = log i }
