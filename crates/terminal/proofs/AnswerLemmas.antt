-- A terminal that forgets changes and drops replies that nobody reads answers as one that keeps all.
use Rattle.std.proofs.Common.{◌≡◌, ℕ, ◌<◌, ◌≤◌, ◌^◌, ◌⊎◌, inl, inr, Bool, true, false, List, [], ◌∷◌, ◌++◌, length, map, fold, refl, sym, ap, subst, ◌∙◌, arith, Option}
use Rattle.std.specs.Prelude.{◌==◌, if◌then◌else◌}
use Rattle.std.specs.Io.KnownBytes.{Appends}
use Rattle.cell_base.specs.Screen.{Screen, height}
use Rattle.cell_surface.specs.Surface.{number_of}
use Rattle.screen_log.specs.LogSteps.{Logged, Sized, step_of_kept}
use Rattle.escape_framing.specs.Dispatch.{Dispatch}
use Rattle.escape_stream.specs.StreamActions.{actions_of}
use Rattle.terminal.specs.Fed.{AnswersAt}
use Rattle.terminal.specs.Written.{IsAt, IsCounted, Lightens, UpdateWritten, looked, lightened, update_at}
use Rattle.terminal.specs.Shown.{AppendsPrefix}
use Rattle.terminal.specs.Headline.{StandsAt, GoesBy}
use Rattle.terminal.specs.Refusals.{FeedTakesMemory, HasNumbersToLook, LookTakesMemory, NeedsMemory, NeedsNumber}
use Rattle.terminal.specs.Terminal.{Terminal, state_in}
use Rattle.terminal.proofs.GoLemmas.{actions_join, stays}
use Rattle.terminal.proofs.MemoryLemmas.{feed_alike, look_alike}
use Rattle.terminal_render.specs.Lists.{all_rendered}
use Rattle.terminal_steps.proofs.NumberLemmas.{fold_number}
use Rattle.terminal_steps.proofs.SpellLemmas.{none_newly}
use Rattle.terminal_table.specs.History.{History, Piece, Look, Forget, Act, Looked}
use Rattle.terminal_table.specs.Logged.{events_logged, logged, log_after}
use Rattle.terminal_table.specs.Meaning.{after}
use Rattle.terminal_table.specs.Runs.{run_changes_of}
use Rattle.terminal_viewers.specs.Update.{bytes_of, painted_anew, update_of}
use Rattle.terminal_viewers.specs.Updates.{Standing, standing_after}
use Rattle.terminal_viewers.specs.Viewers.{AnswersAs, AreFed}
use Rattle.terminal_viewers.proofs.KeptLemmas.{answers_itself, answers_after, answers_with_replies, answers_after_forget, answers_alike}
use Rattle.terminal_viewers.proofs.ChunkLemmas.{standings_join, standings_cut}

-- ---- standings

-- feeding one chunk after another is feeding both joined
pub chunks_join : (f : List ℕ → ℕ) (s : Standing) (x y : List ℕ) → standing_after f (standing_after f s (Piece x ∷ [])) (Piece y ∷ []) ≡ standing_after f s (Piece (x ++ y) ∷ [])
chunks_join f s x y = sym (standings_join f s (Piece x ∷ []) (Piece y ∷ [])) ∙ standings_cut actions_join f s x y []

pub number_rises : (f : List ℕ → ℕ) (s : Standing) (h : History) → s.log.log.number ≤ (standing_after f s h).log.log.number
number_rises f s h = fold_number (logged f s.view h) s.log

-- a viewer at number 0, to which nothing is due, or at the number `from`, has equal updates from both standings
pub update_alike : (from number : ℕ) (kept whole : Standing) → (number ≡ 0) ⊎ (from ≡ number) → AnswersAs from kept whole → update_at kept number ≡ update_at whole number
update_alike from number kept whole (inl e) h =
    subst (λ n. update_at kept n ≡ update_at whole n) (sym e)
    (ap (λ (screen : Screen). bytes_of (all_rendered (painted_anew screen) screen.width (height screen))) h.views.screen)
update_alike from number kept whole (inr e) h = answers_alike from kept whole h number (omega (arith, e))

-- ---- terminals

module _ {W : Type 0} (width_of : W → List ℕ → ℕ) (w : W) where
  abbrev f : List ℕ → ℕ
  f = width_of w

  -- the standing of a terminal after a history
  pub goes_at : (t u : Terminal W) (s : Standing) (h : History) → t.surface.grid.widths ≡ w → IsAt t s → GoesBy width_of t u h → IsAt u (standing_after f s h)
  goes_at t u s h e at g = record {
    stands = subst (λ x. StandsAt u (after (width_of x) s.view h)) e (g.stands s.view at.stands);
    log = g.log s.view at.stands ∙ (λ i. log_after (width_of (e i)) s.view (at.log i) h);
  }

  -- the standing of a terminal that has forgotten changes, and dropped its replies
  pub lightened_at : (t v : Terminal W) (s : Standing) (number : ℕ) → t.surface.grid.widths ≡ w → IsAt t s → Lightens width_of t v number → IsAt v (lightened f number s)
  lightened_at t v s number e at l =
      let there = goes_at t l.forgotten s (Forget number ∷ []) e at l.goes in
      subst (λ (x : Terminal W). IsAt x (lightened f number s)) (sym l.dropped) (record {
        stands = record { state = λ i. record (there.stands.state i) { replies = [] }; run = there.stands.run; unfinished = there.stands.unfinished };
        log = there.log;
      })

  -- the update after a look is that of the standing after the look
  update_there : (t u : Terminal W) (s : Standing) (number : ℕ) → t.surface.grid.widths ≡ w → IsAt t s → GoesBy width_of t u (Look ∷ []) → update_of (state_in u).screen u.surface.log number ≡ update_at (looked f s) number
  update_there t u s number e at g = let there = goes_at t u s (Look ∷ []) e at g in λ i. update_of (there.stands.state i).screen (there.log i) number

  pub written_is : (t u v : Terminal W) (s : Standing) (number next : ℕ) (bytes : List ℕ) (old new : Option (List ℕ)) → t.surface.grid.widths ≡ w → IsAt t s → GoesBy width_of t u (Look ∷ [])
      → bytes ≡ update_of (state_in u).screen u.surface.log number → next ≡ number_of u.surface → Appends old new bytes → Lightens width_of u v next → UpdateWritten f s number next v old new
  written_is t u v s number next bytes old new e at g b n a l =
      let there = goes_at t u s (Look ∷ []) e at g in
      record {
        appends = subst (Appends old new) (b ∙ update_there t u s number e at g) a;
        next_is = n ∙ ap (λ (x : Sized). x.log.number) there.log;
        at = lightened_at u v (looked f s) next (g.widths ∙ e) there l;
      }

  pub some_is : (t u : Terminal W) (s : Standing) (number : ℕ) (bytes : List ℕ) (old new : Option (List ℕ)) → t.surface.grid.widths ≡ w → IsAt t s → GoesBy width_of t u (Look ∷ [])
      → bytes ≡ update_of (state_in u).screen u.surface.log number → AppendsPrefix old new bytes → AppendsPrefix old new (update_at (looked f s) number)
  some_is t u s number bytes old new e at g b a = subst (AppendsPrefix old new) (b ∙ update_there t u s number e at g) a

  -- ---- a terminal that answers as one that keeps all

  pub answers_first : (number : ℕ) (t : Terminal W) (s : Standing) → IsAt t s → IsCounted s → AnswersAt number t s
  answers_first number t s at counted = record { kept = s; at = at; answers = answers_itself number s counted }

  -- it still answers so after bytes are fed and looks taken
  pub answers_on : (number : ℕ) (t u : Terminal W) (whole : Standing) (h : History) → AreFed h → t.surface.grid.widths ≡ w → AnswersAt number t whole → GoesBy width_of t u h → AnswersAt number u (standing_after f whole h)
  answers_on number t u whole h fed e a g = record {
    kept = standing_after f a.kept h;
    at = goes_at t u a.kept h e a.at g;
    answers = answers_after f number a.kept whole h fed a.answers;
  }

  -- nothing is fed
  pub answers_at_rest : (number : ℕ) (t : Terminal W) (whole : Standing) → t.surface.grid.widths ≡ w → t.is_failed ≡ false → AnswersAt number t whole → AnswersAt number t (standing_after f whole (Piece [] ∷ []))
  answers_at_rest number t whole e sound a = answers_on number t t whole (Piece [] ∷ []) tt e a (stays width_of t sound)

  -- from a later number on
  pub answers_later : (number later : ℕ) (t : Terminal W) (whole : Standing) → number ≤ later → AnswersAt number t whole → AnswersAt later t whole
  answers_later number later t whole l a =
      let h = a.answers in
      record {
        kept = a.kept;
        at = a.at;
        answers = record {
          views = h.views;
          logs = record { most = h.logs.most; count = h.logs.count; one_counted = h.logs.one_counted; other_counted = h.logs.other_counted; same = λ n m. h.logs.same n (omega arith) };
        };
      }

  -- the changes before a later number are forgotten, and the replies dropped
  pub answers_lightened : (number later : ℕ) (kept whole : Standing) → number ≤ later → AnswersAs number kept whole → AnswersAs later (lightened f later kept) whole
  answers_lightened number later kept whole l h =
      answers_with_replies later (standing_after f kept (Forget later ∷ [])) whole [] (answers_after_forget f number later kept whole l h)

  pub answers_lighter : (number later : ℕ) (t v : Terminal W) (whole : Standing) → number ≤ later → t.surface.grid.widths ≡ w → AnswersAt number t whole → Lightens width_of t v later → AnswersAt later v whole
  answers_lighter number later t v whole more e a l = record {
    kept = lightened f later a.kept;
    at = lightened_at t v a.kept later e a.at l;
    answers = answers_lightened number later a.kept whole more a.answers;
  }

  -- its number is that of the one that keeps all
  pub number_there : (number : ℕ) (t : Terminal W) (whole : Standing) → AnswersAt number t whole → number_of t.surface ≡ whole.log.log.number
  number_there number t whole a = ap (λ (x : Sized). x.log.number) a.at.log ∙ a.answers.logs.count

  -- where it is refused a number, so is the one that keeps all
  pub needs_there : (number : ℕ) (t : Terminal W) (whole : Standing) (h : History) → AreFed h → t.surface.grid.widths ≡ w → AnswersAt number t whole → NeedsNumber width_of t h → 2 ^ 64 ≤ (standing_after f whole h).log.log.number
  needs_there number t whole h fed e a n =
      subst (λ m. 2 ^ 64 ≤ m) (answers_after f number a.kept whole h fed a.answers).logs.count
      (subst (λ (x : Sized). 2 ^ 64 ≤ x.log.number) (λ i. log_after (width_of (e i)) a.kept.view (a.at.log i) h) (n a.kept.view a.at.stands))

  -- where it has numbers for a look, or is refused memory for it, so is that one
  pub looks_there : (number : ℕ) (t : Terminal W) (failed : Bool) (whole : Standing) → t.surface.grid.widths ≡ w → AnswersAt number t whole → HasNumbersToLook width_of t failed
      → ((standing_after f whole (Look ∷ [])).log.log.number < 2 ^ 64) ⊎ LookTakesMemory f whole true
  looks_there number t failed whole e a n =
      by_way (subst (λ (T : Type 0). T)
      (λ i. ((log_after (width_of (e i)) a.kept.view (a.at.log i) (Look ∷ [])).log.number < 2 ^ 64) ⊎ LookTakesMemory (width_of (e i)) (record { view = a.kept.view; log = a.at.log i }) failed)
      (n a.kept.view a.at.stands))
    where
      taken : LookTakesMemory f a.kept failed → LookTakesMemory f a.kept true
      taken takes = (takes.0, (takes.1.0, takes.1.1, refl))

      by_way : ((standing_after f a.kept (Look ∷ [])).log.log.number < 2 ^ 64) ⊎ LookTakesMemory f a.kept failed → ((standing_after f whole (Look ∷ [])).log.log.number < 2 ^ 64) ⊎ LookTakesMemory f whole true
      by_way (inl fits) = inl (subst (λ m. m < 2 ^ 64) (answers_after f number a.kept whole (Look ∷ []) tt a.answers).logs.count fits)
      by_way (inr takes) = inr (look_alike f number a.kept whole true a.answers (taken takes))

  -- where bytes take memory, they do so for that one
  pub takes_there : (number : ℕ) (t u : Terminal W) (whole : Standing) (bytes : List ℕ) → t.surface.grid.widths ≡ w → AnswersAt number t whole → NeedsMemory width_of t bytes u → FeedTakesMemory f whole bytes u.surface.is_failed
  takes_there number t u whole bytes e a n =
      feed_alike f number a.kept whole bytes u.surface.is_failed a.answers
      (subst (λ (T : Type 0). T) (λ i. FeedTakesMemory (width_of (e i)) (record { view = a.kept.view; log = a.at.log i }) bytes u.surface.is_failed) (n a.kept.view a.at.stands))

-- where no run is held, an empty chunk and a look leave the log's number as it is
pub quiet_look : (f : List ℕ → ℕ) (s : Standing) → s.view.held ≡ [] → (standing_after f s (Piece [] ∷ Look ∷ [])).log.log.number ≡ s.log.log.number
quiet_look f s none =
    ap (λ (ds : List Dispatch). (fold step_of_kept s.log (events_logged f s.view (map Act (actions_of ds) ++ (Looked ∷ [])))).log.number) (none_newly s.view.stream)
    ∙ ap (λ (held : List ℕ). (fold step_of_kept s.log ((if length held == 0 then [] else map Logged (run_changes_of f held s.view.state)) ++ [])).log.number) none
