-- Chains stay chains as they go on and as their viewers are answered; after an answer a viewer shows the screen of the one that answered it.
use Rattle.std.proofs.Common.{◌≡◌, ℕ, zero, suc, ◌≤◌, List, [], ◌∷◌, ◌++◌, take, refl, sym, ap, subst, ◌∙◌, arith}
use Rattle.std.specs.Prelude.{None}
use Rattle.std.proofs.lemmas.List.Elements.{All-cons, All-head, All-nil, All-tail}
use Rattle.cell_base.specs.Screen.{Screen}
use Rattle.screen_effects.specs.Display.{IsDisplay}
use Rattle.terminal_viewers.specs.Reading.{CanReadPatch, PatchesAreShown, PatchesLeaveIdle}
use Rattle.terminal_render.specs.Effects.{IsReady}
use Rattle.terminal_viewers.specs.Sessions.{Answer, Update, Patch, Chain, Viewer, answer_bytes, answered, answering, lagging, forgetting, readings, sizes}
use Rattle.terminal_viewers.specs.Showing.{AllShow, CanAnswer, IsShown}
use Rattle.terminal_viewers.proofs.HistoryLemmas.{AreSteps, Rests, can_answer_after, repeated-append, rests_after_forgetting, rests_after_look, rests_after_sizes, sizes_are_steps, steps-append, steps_are_sizes}
use Rattle.terminal_render.proofs.RequestLemmas.{display_on_is}
use Rattle.terminal_table.specs.Alone.{IsIdle}
use Rattle.terminal_table.specs.History.{History, Piece, Look, Forget}
use Rattle.terminal_table.specs.Logged.{logged}
use Rattle.terminal_table.specs.Meaning.{View, after}
use Rattle.terminal_table.specs.State.{State}
use Rattle.terminal_table.proofs.JoinLemmas.{after_joins}
use Rattle.terminal_table.proofs.ModesLemmas.{plain_terminals_stay}
use Rattle.terminal_table.proofs.PrintLemmas.{AllCut}
use Rattle.terminal_viewers.specs.Shows.{Shows}
use Rattle.terminal_viewers.specs.Update.{display_on}
use Rattle.terminal_viewers.specs.Updates.{Standing, standing_after}
use Rattle.terminal_viewers.specs.Viewers.{CanRead, UpdatesAreShown, UpdatesLeaveIdle, repeated}
use Rattle.terminal_viewers.proofs.DueLemmas.{steps_reach}
use Rattle.terminal_viewers.proofs.ShowLemmas.{history_shows, shows_itself}

-- ---- the invariant of chains

-- A waiting viewer, which is a plain terminal: once it has taken on the sizes since the last answer, it shows at its number the screen of the one that answers it.
pub record Follows (width_of : List ℕ → ℕ) (one : Standing) (viewer : Viewer) : Type 0 where
  pub idle : IsIdle viewer.standing.view
  pub plain : viewer.standing.view.state.modes ≡ None
  pub shows : Shows width_of (repeated viewer.since viewer.standing.view.state.screen) viewer.number one.view.state.screen one.log
  pub reached : viewer.number ≤ one.log.log.number
  pub steps : AreSteps viewer.since

-- each can answer the next one, which follows it
abbrev pub IsChain : (List ℕ → ℕ) → Standing → List Viewer → Type 0
IsChain width_of one [] = CanAnswer width_of one
IsChain width_of one (viewer ∷ viewers) = CanAnswer width_of one × Follows width_of one viewer × IsChain width_of viewer.standing viewers

pub can_answer : (width_of : List ℕ → ℕ) (one : Standing) (viewers : List Viewer) → IsChain width_of one viewers → CanAnswer width_of one
can_answer width_of one [] h = h
can_answer width_of one (viewer ∷ viewers) h = h.0

-- after an answer a chain is still one, and the viewer shows the one that answered it
pub record IsAnswered (width_of : List ℕ → ℕ) (at : ℕ) (chain : Chain) : Type 0 where
  pub stays : IsChain width_of chain.terminal chain.viewers
  pub shown : IsShown at chain.terminal chain.viewers

abbrev HasScreen : Screen → Viewer → Type 0
HasScreen screen viewer = viewer.standing.view.state.screen ≡ screen

module _ (cut : AllCut) (width_of : List ℕ → ℕ) where
  -- ---- a chain goes on

  -- the standing of a viewer once it has taken on the sizes since the last answer
  abbrev repeating : Viewer → Standing
  repeating viewer = standing_after width_of viewer.standing (sizes viewer.since)

  repeating_rests : (one : Standing) (viewer : Viewer) → Follows width_of one viewer → Rests (repeating viewer).view (repeated viewer.since viewer.standing.view.state.screen)
  repeating_rests one viewer f = rests_after_sizes width_of viewer.since viewer.standing.view f.idle f.plain

  repeating_answers : (one : Standing) (viewer : Viewer) → CanAnswer width_of viewer.standing → Follows width_of one viewer → CanAnswer width_of (repeating viewer)
  repeating_answers one viewer can f = can_answer_after cut width_of viewer.standing (sizes viewer.since) can (sizes_are_steps viewer.since f.steps)

  shows_after : (one : Standing) (viewer : Viewer) (history : History) → CanAnswer width_of one → CanAnswer width_of viewer.standing → Follows width_of one viewer → AreSteps history
      → Shows width_of (repeated history (repeated viewer.since viewer.standing.view.state.screen)) viewer.number (standing_after width_of one history).view.state.screen (standing_after width_of one history).log
  shows_after one viewer history can own f h =
      let shown = repeated viewer.since viewer.standing.view.state.screen in
      let answers = (repeating_answers one viewer own f).lawful.lawful in
      let display = subst (λ (x : Screen). IsDisplay (display_on x)) (repeating_rests one viewer f).screen_is (display_on_is (repeating viewer).view.state.screen answers.lawful answers.whole) in
      history_shows width_of cut shown viewer.number one.view one.log history can.lawful (steps_are_sizes history h) display can.counted f.reached f.shows

  reached_after : (number : ℕ) (one : Standing) (history : History) → CanAnswer width_of one → number ≤ one.log.log.number → number ≤ (standing_after width_of one history).log.log.number
  reached_after number one history can h = (steps_reach number (logged width_of one.view history) one.log (record { counted = can.counted; reached = h })).reached

  follows_after : (one : Standing) (viewer : Viewer) (history : History) → CanAnswer width_of one → CanAnswer width_of viewer.standing → Follows width_of one viewer → AreSteps history
      → Follows width_of (standing_after width_of one history) (record viewer { since = viewer.since ++ history })
  follows_after one viewer history can own f h =
      let next = standing_after width_of one history in
      record {
        idle = f.idle;
        plain = f.plain;
        shows = subst (λ (x : Screen). Shows width_of x viewer.number next.view.state.screen next.log) (sym (repeated-append viewer.since history viewer.standing.view.state.screen)) (shows_after one viewer history can own f h);
        reached = reached_after viewer.number one history can f.reached;
        steps = steps-append viewer.since history f.steps h;
      }

  pub goes_on : (history : History) (one : Standing) (viewers : List Viewer) → AreSteps history → IsChain width_of one viewers → IsChain width_of (standing_after width_of one history) (lagging history viewers)
  goes_on history one [] h c = can_answer_after cut width_of one history c h
  goes_on history one (viewer ∷ viewers) h c =
      (can_answer_after cut width_of one history c.0 h, follows_after one viewer history c.0 (can_answer width_of viewer.standing viewers c.2) c.1 h, c.2)

  -- after the one that answers takes a look, its viewer still follows it
  follows_looked : (one : Standing) (viewer : Viewer) → CanAnswer width_of one → CanAnswer width_of viewer.standing → Follows width_of one viewer → Follows width_of (standing_after width_of one (Look ∷ [])) viewer
  follows_looked one viewer can own f = record {
    idle = f.idle;
    plain = f.plain;
    shows = shows_after one viewer (Look ∷ []) can own f (tt, tt);
    reached = reached_after viewer.number one (Look ∷ []) can f.reached;
    steps = f.steps;
  }

  -- a viewer that forgets changes leaves a chain a chain
  pub forgetting_keeps : (number at : ℕ) (one : Standing) (viewers : List Viewer) → IsChain width_of one viewers → IsChain width_of one (forgetting width_of number at viewers)
  forgetting_keeps number at one [] c = c
  forgetting_keeps number zero one (viewer ∷ viewers) c = (
    c.0,
    record { idle = (rests_after_forgetting width_of number viewer.standing.view c.1.idle c.1.plain).idle; plain = c.1.plain; shows = c.1.shows; reached = c.1.reached; steps = c.1.steps },
    goes_on (Forget number ∷ []) viewer.standing viewers (tt, tt) c.2,
  )
  forgetting_keeps number (suc at) one (viewer ∷ viewers) c = (c.0, c.1, forgetting_keeps number at viewer.standing viewers c.2)

  -- ---- an answer is read

  module _ (shown : UpdatesAreShown) (idles : UpdatesLeaveIdle) (patched : PatchesAreShown) (patch_idles : PatchesLeaveIdle) where
    ready : (viewer : Standing) → CanAnswer width_of viewer → IsIdle viewer.view → viewer.view.state.modes ≡ None → IsReady viewer.view
    ready viewer own idle plain = record { lawful = own.lawful.lawful.lawful; whole = own.lawful.lawful.whole; width = own.wide; height = own.tall; run = idle.run; plain = plain }

    has_read : (answer : Answer) (viewer one : Standing) (number : ℕ) → CanAnswer width_of viewer → IsIdle viewer.view → viewer.view.state.modes ≡ None → CanAnswer width_of one → Shows width_of viewer.view.state.screen number one.view.state.screen one.log
        → Rests (after width_of viewer.view (Piece (answer_bytes answer viewer number one) ∷ [])) one.view.state.screen
    has_read Update viewer one number own idle plain can shows =
        let reads : CanRead width_of viewer.view one.view.state.screen one.log number = record {
          narrow = can.lawful.lawful.narrow;
          ready = ready viewer own idle plain;
          idle = idle;
          display = display_on_is one.view.state.screen can.lawful.lawful.lawful can.lawful.lawful.whole;
          sound = can.lawful.lawful.sound;
          spelled = can.spelled.state.screen;
          encodings = can.encodings;
          shows = shows;
        } in
        record {
          screen_is = ap (λ (x : State). x.screen) (shown width_of viewer.view one.view.state.screen one.log number reads);
          idle = idles width_of viewer.view one.view.state.screen one.log number reads;
          plain = plain_terminals_stay width_of viewer.view (Piece (answer_bytes Update viewer number one) ∷ []) plain;
        }
    has_read Patch viewer one number own idle plain can shows =
        let reads : CanReadPatch width_of viewer.view one.view.state.screen = record {
          narrow = can.lawful.lawful.narrow;
          ready = ready viewer own idle plain;
          idle = idle;
          display = display_on_is one.view.state.screen can.lawful.lawful.lawful can.lawful.lawful.whole;
          sound = can.lawful.lawful.sound;
          spelled = can.spelled.state.screen;
          wide = shows.wide;
          tall = shows.tall;
        } in
        record {
          screen_is = ap (λ (x : State). x.screen) (patched width_of viewer.view one.view.state.screen reads);
          idle = patch_idles width_of viewer.view one.view.state.screen reads;
          plain = plain_terminals_stay width_of viewer.view (Piece (answer_bytes Patch viewer number one) ∷ []) plain;
        }

    -- after the sizes since the last answer
    answer_rests : (answer : Answer) (one : Standing) (viewer : Viewer) → CanAnswer width_of one → CanAnswer width_of viewer.standing → Follows width_of one viewer
        → Rests (answered width_of answer viewer one).standing.view one.view.state.screen
    answer_rests answer one viewer can own f =
        let reader = repeating viewer in
        let rests = repeating_rests one viewer f in
        subst (λ (v : View). Rests v one.view.state.screen) (sym (after_joins width_of viewer.standing.view (sizes viewer.since) (Piece (answer_bytes answer reader viewer.number one) ∷ [])))
        (has_read answer reader one viewer.number (repeating_answers one viewer own f) rests.idle rests.plain can
        (subst (λ (x : Screen). Shows width_of x viewer.number one.view.state.screen one.log) (sym rests.screen_is) f.shows))

    answered_follows : (answer : Answer) (one : Standing) (viewer : Viewer) → CanAnswer width_of one → CanAnswer width_of viewer.standing → Follows width_of one viewer → Follows width_of one (answered width_of answer viewer one)
    answered_follows answer one viewer can own f =
        let rests = answer_rests answer one viewer can own f in
        record {
          idle = rests.idle;
          plain = rests.plain;
          shows = subst (λ (x : Screen). Shows width_of x one.log.log.number one.view.state.screen one.log) (sym rests.screen_is) (shows_itself width_of one.view.state.screen one.log can.counted);
          reached = omega arith;
          steps = tt;
        }

    -- ---- a viewer of a chain is answered

    -- the one that answers is looked at at most, so that it rests if it is a viewer
    answering_rests : (answer : Answer) (at : ℕ) (one : Standing) (viewers : List Viewer) → IsIdle one.view → one.view.state.modes ≡ None → Rests (answering width_of answer at one viewers).terminal.view one.view.state.screen
    answering_rests answer at one [] idle plain = record { screen_is = refl; idle = idle; plain = plain }
    answering_rests answer zero one (viewer ∷ viewers) idle plain = rests_after_look width_of one.view idle plain
    answering_rests answer (suc at) one (viewer ∷ viewers) idle plain = record { screen_is = refl; idle = idle; plain = plain }

    -- the first viewer
    first_answered : (answer : Answer) (one : Standing) (viewer : Viewer) (viewers : List Viewer) → CanAnswer width_of one → Follows width_of one viewer → IsChain width_of viewer.standing viewers
        → IsChain width_of one (answered width_of answer viewer one ∷ lagging (readings width_of answer viewer one) viewers)
    first_answered answer one viewer viewers can f c =
        let own = can_answer width_of viewer.standing viewers c in
        let history = readings width_of answer viewer one in
        let steps = steps-append (sizes viewer.since) (Piece (answer_bytes answer (repeating viewer) viewer.number one) ∷ []) (sizes_are_steps viewer.since f.steps) (tt, tt) in
        (can, answered_follows answer one viewer can own f, goes_on history viewer.standing viewers steps c)

    pub answering_shows : (answer : Answer) (at : ℕ) (one : Standing) (viewers : List Viewer) → IsChain width_of one viewers → IsAnswered width_of at (answering width_of answer at one viewers)
    answering_shows answer at one [] c = record { stays = c; shown = tt }
    answering_shows answer zero one (viewer ∷ viewers) c =
        let looked = standing_after width_of one (Look ∷ []) in
        let own = can_answer width_of viewer.standing viewers c.2 in
        let can = can_answer_after cut width_of one (Look ∷ []) c.0 (tt, tt) in
        let follows = follows_looked one viewer c.0 own c.1 in
        record { stays = first_answered answer looked viewer viewers can follows c.2; shown = (answer_rests answer looked viewer can own follows).screen_is }
    answering_shows answer (suc at) one (viewer ∷ viewers) c =
        let remaining = answering_shows answer at viewer.standing viewers c.2 in
        let rests = answering_rests answer at viewer.standing viewers c.1.idle c.1.plain in
        record {
          stays = (
            c.0,
            record {
              idle = rests.idle;
              plain = rests.plain;
              shows = subst (λ (x : Screen). Shows width_of (repeated viewer.since x) viewer.number one.view.state.screen one.log) (sym rests.screen_is) c.1.shows;
              reached = c.1.reached;
              steps = c.1.steps;
            },
            remaining.stays,
          );
          shown = remaining.shown;
        }

    -- ---- the first viewers of a chain show its terminal, and the next one is answered

    pub next_shows : (answer : Answer) (at : ℕ) (one : Standing) (viewers : List Viewer) → IsChain width_of one viewers → AllShow one.view.state.screen (take at viewers)
        → let chain = answering width_of answer at one viewers in AllShow chain.terminal.view.state.screen (take (suc at) chain.viewers)
    next_shows answer at one [] c h = All-nil (HasScreen one.view.state.screen)
    next_shows answer zero one (viewer ∷ viewers) c h =
        let looked = standing_after width_of one (Look ∷ []) in
        All-cons (HasScreen looked.view.state.screen) (answered width_of answer viewer looked) [] (answering_shows answer zero one (viewer ∷ viewers) c).shown (All-nil (HasScreen looked.view.state.screen))
    next_shows answer (suc at) one (viewer ∷ viewers) c h =
        let remaining = answering width_of answer at viewer.standing viewers in
        let same = All-head (HasScreen one.view.state.screen) viewer (take at viewers) h in
        let prefix = subst (λ (x : Screen). AllShow x (take at viewers)) (sym same) (All-tail (HasScreen one.view.state.screen) viewer (take at viewers) h) in
        let rests = (answering_rests answer at viewer.standing viewers c.1.idle c.1.plain).screen_is ∙ same in
        All-cons (HasScreen one.view.state.screen) (record viewer { standing = remaining.terminal }) (take (suc at) remaining.viewers) rests
        (subst (λ (x : Screen). AllShow x (take (suc at) remaining.viewers)) rests (next_shows answer at viewer.standing viewers c.2 prefix))
