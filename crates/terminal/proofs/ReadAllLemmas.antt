-- An input that is read and fed in chunks, to a terminal that forgets its changes and drops its replies.
use Rattle.std.proofs.Common.{◌≡◌, ◌⊎◌, ℕ, Bool, ◌^◌, ◌<◌, ◌≤◌, inl, inr, true, false, List, [], ◌∷◌, ◌++◌, length, refl, sym, ap, subst, ◌∙◌, arith, Option, Some, None, append_assoc, append-nil}
use Rattle.std.specs.Prelude.{IfSome}
use Rattle.std.specs.Io.KnownBytes.{Appends, Consumes, IsAtEnd}
use Rattle.cell_base.specs.Screen.{screen_text}
use Rattle.cell_surface.specs.Surface.{number_of}
use Rattle.terminal.specs.Fed.{AnswersAt, AnswersNow, IsFed, FeedsOn, Feeds, FeedingNeedsNumber, Reads, ShowsRows, ShowsSomeRows, rows_after}
use Rattle.terminal.specs.Written.{IsAt, IsCounted, Lightens}
use Rattle.terminal.specs.Shown.{AppendsPrefix, rows_shown}
use Rattle.terminal.specs.Headline.{GoesBy}
use Rattle.terminal.specs.Refusals.{HasNumbersToLook, IsRefusedMemory, LastLookTakesMemory, LookTakesMemory, NeedsMemory, NeedsNumber, ReadingIsRefusedMemory, ReadingNeedsNumber, one_look}
use Rattle.terminal.specs.Terminal.{Terminal, state_in}
use Rattle.terminal.proofs.AppendLemmas.{keeps_same, nothing_appended}
use Rattle.terminal.proofs.AnswerLemmas.{chunks_join, number_rises, answers_first, answers_on, answers_at_rest, answers_later, answers_lighter, number_there, needs_there, looks_there, takes_there, quiet_look}
use Rattle.terminal_table.specs.History.{History, Piece, Look}
use Rattle.terminal_table.specs.Logged.{log_of}
use Rattle.terminal_table.specs.State.{State}
use Rattle.terminal_viewers.specs.Updates.{Standing, new_standing, standing_after}
use Rattle.terminal_viewers.specs.Viewers.{AreFed}
use Rattle.terminal_viewers.proofs.ChunkLemmas.{standings_join}

-- ---- an input that is being read

module _ {W : Type 0} (width_of : W → List ℕ → ℕ) where
  abbrev of : Terminal W → List ℕ → ℕ
  of t = width_of t.surface.grid.widths

  none_fed : (t : Terminal W) → t.is_failed ≡ false → IsFed width_of [] t t
  none_fed t sound = record {
    answers = λ start at counted.
        let whole = standing_after (of t) start (Piece [] ∷ []) in
        answers_at_rest width_of t.surface.grid.widths whole.log.log.number t start refl sound (answers_first width_of t.surface.grid.widths whole.log.log.number t start at counted);
    widths = refl;
  }

  -- it answers as one that keeps all, from its new number on, after bytes are fed and looks taken
  goes_on : (w : W) (t u : Terminal W) (whole : Standing) (h : History) → AreFed h → t.surface.grid.widths ≡ w → AnswersNow t whole → GoesBy width_of t u h → AnswersNow u (standing_after (width_of w) whole h)
  goes_on w t u whole h fed e a g =
      answers_later width_of w whole.log.log.number (standing_after (width_of w) whole h).log.log.number u (standing_after (width_of w) whole h) (number_rises (width_of w) whole h)
      (answers_on width_of w whole.log.log.number t u whole h fed e a g)

  -- bytes more, after which the changes are forgotten and the replies dropped
  more_fed : (t now u then : Terminal W) (fed bytes : List ℕ) (number : ℕ) → IsFed width_of fed t now → GoesBy width_of now u (Piece bytes ∷ []) → number ≡ number_of u.surface → Lightens width_of u then number
      → IsFed width_of (fed ++ bytes) t then
  more_fed t now u then fed bytes number h g n l = record {
    answers = λ start at counted.
        let w = t.surface.grid.widths in
        let whole = standing_after (of t) start (Piece (fed ++ bytes) ∷ []) in
        let a = subst (AnswersNow u) (chunks_join (of t) start fed bytes) (goes_on w now u (standing_after (of t) start (Piece fed ∷ [])) (Piece bytes ∷ []) tt h.widths (h.answers start at counted) g) in
        let there = n ∙ number_there width_of w whole.log.log.number u whole a in
        subst (λ m. AnswersAt m then whole) there (answers_lighter width_of w whole.log.log.number number u then whole (omega (arith, there)) (g.widths ∙ h.widths) a l);
    widths = ap (λ (x : Terminal W). x.surface.grid.widths) l.dropped ∙ l.goes.widths ∙ g.widths ∙ h.widths;
  }

  pub feeds_first : (input : Option (List ℕ)) (t : Terminal W) → t.is_failed ≡ false → FeedsOn width_of input input t t
  feeds_first None t sound = tt
  feeds_first (Some input) t sound = record { fed = []; whole = refl; is = none_fed t sound }

  pub feeds_more : (input rest next : Option (List ℕ)) (t now u then : Terminal W) (bytes : List ℕ) (number : ℕ) → FeedsOn width_of input rest t now → Consumes rest next bytes → GoesBy width_of now u (Piece bytes ∷ [])
      → number ≡ number_of u.surface → Lightens width_of u then number → FeedsOn width_of input next t then
  feeds_more None rest next t now u then bytes number h c g n l = tt
  feeds_more (Some input) None next t now u then bytes number h c g n l = absurd h
  feeds_more (Some input) (Some rest) None t now u then bytes number h c g n l = absurd c
  feeds_more (Some input) (Some rest) (Some next) t now u then bytes number h c g n l = record {
    fed = h.fed ++ bytes;
    whole = h.whole ∙ ap (λ l. h.fed ++ l) c ∙ sym (append_assoc h.fed bytes next);
    is = more_fed t now u then h.fed bytes number h.is g n l;
  }

  pub feeds_all : (input rest next : Option (List ℕ)) (t now : Terminal W) → FeedsOn width_of input rest t now → Consumes rest next [] → IsAtEnd next → Feeds width_of input t now
  feeds_all None rest next t now h c n = tt
  feeds_all (Some input) None next t now h c n = absurd h
  feeds_all (Some input) (Some rest) None t now h c n = absurd c
  feeds_all (Some input) (Some rest) (Some next) t now h c n =
      subst (λ l. IsFed width_of l t now) (sym (h.whole ∙ ap (λ l. h.fed ++ l) (c ∙ n) ∙ append-nil h.fed)) h.is

  pub number_fed : (input rest next : Option (List ℕ)) (t now : Terminal W) (bytes : List ℕ) → FeedsOn width_of input rest t now → Consumes rest next bytes
      → NeedsNumber width_of now (Piece bytes ∷ []) → FeedingNeedsNumber width_of input t
  number_fed None rest next t now bytes h c n = tt
  number_fed (Some input) None next t now bytes h c n = absurd h
  number_fed (Some input) (Some rest) None t now bytes h c n = absurd c
  number_fed (Some input) (Some rest) (Some next) t now bytes h c n = λ start at counted.
      let fed = standing_after (of t) start (Piece h.fed ∷ []) in
      let there = standing_after (of t) fed (Piece bytes ∷ []) in
      let past = needs_there width_of t.surface.grid.widths fed.log.log.number now fed (Piece bytes ∷ []) tt h.is.widths (h.is.answers start at counted) n in
      let rises = number_rises (of t) there (Piece next ∷ []) in
      let whole : standing_after (of t) there (Piece next ∷ []) ≡ standing_after (of t) start (Piece input ∷ [])
      = ap (λ x. standing_after (of t) x (Piece next ∷ [])) (chunks_join (of t) start h.fed bytes) ∙ chunks_join (of t) start (h.fed ++ bytes) next
      ∙ ap (λ l. standing_after (of t) start (Piece l ∷ [])) (append_assoc h.fed bytes next ∙ ap (λ l. h.fed ++ l) (sym c) ∙ sym h.whole) in
      subst (λ (x : Standing). 2 ^ 64 ≤ x.log.log.number) whole (omega arith)

  -- memory is refused to the bytes read last
  pub memory_fed : (input rest next : Option (List ℕ)) (t now u : Terminal W) (bytes : List ℕ) → FeedsOn width_of input rest t now → Consumes rest next bytes → length bytes ≤ 4096
      → NeedsMemory width_of now bytes u → ReadingIsRefusedMemory width_of one_look t input next
  memory_fed None rest next t now u bytes h c most n = tt
  memory_fed (Some input) None next t now u bytes h c most n = absurd h
  memory_fed (Some input) (Some rest) None t now u bytes h c most n = absurd c
  memory_fed (Some input) (Some rest) (Some next) t now u bytes h c most n = λ start at counted.
      let fed = standing_after (of t) start (Piece h.fed ∷ []) in
      record {
        part = record { read = h.fed ++ bytes; rest = next; whole = h.whole ∙ ap (λ l. h.fed ++ l) c ∙ sym (append_assoc h.fed bytes next); remaining = refl };
        why = inl (record {
          before = h.fed;
          last = bytes;
          whole = refl;
          at_most = most;
          history = Piece h.fed ∷ [];
          looked = refl;
          failed = u.surface.is_failed;
          takes = takes_there width_of t.surface.grid.widths fed.log.log.number now u fed bytes h.is.widths (h.is.answers start at counted) n;
        });
      }

  pub all_read : (input rest next : Option (List ℕ)) (t now : Terminal W) → FeedsOn width_of input rest t now → Consumes rest next [] → IsAtEnd next → IfSome input (λ x. next ≡ Some [])
  all_read None rest next t now h c e = tt
  all_read (Some input) None next t now h c e = absurd h
  all_read (Some input) (Some rest) None t now h c e = absurd c
  all_read (Some input) (Some rest) (Some next) t now h c e = ap Some e

  -- ---- a terminal that is fed all of an input, and settles

  joined : (t : Terminal W) (start : Standing) (input : List ℕ) → standing_after (of t) (standing_after (of t) start (Piece input ∷ [])) (Look ∷ []) ≡ standing_after (of t) start (one_look input)
  joined t start input = sym (standings_join (of t) start (Piece input ∷ []) (Look ∷ []))

  -- after the look at the end, with its changes forgotten and its replies dropped, it answers as one that keeps all
  pub reads_input : (input : Option (List ℕ)) (t fed looked now : Terminal W) (number : ℕ) → Feeds width_of input t fed → GoesBy width_of fed looked (Look ∷ []) → number ≡ number_of looked.surface → Lightens width_of looked now number
      → Reads width_of one_look t input now
  reads_input None t fed looked now number h g n l = tt
  reads_input (Some x) t fed looked now number h g n l = λ start at counted.
      let w = t.surface.grid.widths in
      let whole = standing_after (of t) start (one_look x) in
      let a = subst (AnswersNow looked) (joined t start x) (goes_on w fed looked (standing_after (of t) start (Piece x ∷ [])) (Look ∷ []) tt h.widths (h.answers start at counted) g) in
      let there = n ∙ number_there width_of w whole.log.log.number looked whole a in
      subst (λ m. AnswersAt m now whole) there (answers_lighter width_of w whole.log.log.number number looked now whole (omega (arith, there)) (g.widths ∙ h.widths) a l)

  -- it shows the screen to which the input leads
  rows_read : (t now : Terminal W) (x : List ℕ) (start : Standing) → IsAt t start → IsCounted start → Reads width_of one_look t (Some x) now → screen_text (state_in now).screen ≡ rows_after (of t) start x
  rows_read t now x start at counted r =
      let a = r start at counted in
      ap (λ (s : State). screen_text s.screen) a.at.stands.state ∙ ap screen_text a.answers.views.screen

  pub rows_shown_after : (input old new : Option (List ℕ)) (t now : Terminal W) (bytes : List ℕ) → Reads width_of one_look t input now → bytes ≡ screen_text (state_in now).screen → Appends old new bytes → ShowsRows width_of t input old new
  rows_shown_after None old new t now bytes r e a = tt
  rows_shown_after (Some x) old new t now bytes r e a = λ start at counted. subst (Appends old new) (e ∙ rows_read t now x start at counted r) a

  pub some_rows_after : (input old new : Option (List ℕ)) (t now : Terminal W) (bytes : List ℕ) → Reads width_of one_look t input now → bytes ≡ screen_text (state_in now).screen → AppendsPrefix old new bytes → ShowsSomeRows width_of t input old new
  some_rows_after None old new t now bytes r e a = tt
  some_rows_after (Some x) old new t now bytes r e a = λ start at counted. subst (AppendsPrefix old new) (e ∙ rows_read t now x start at counted r) a

  pub no_rows : (input old : Option (List ℕ)) (t : Terminal W) → ShowsSomeRows width_of t input old old
  no_rows None old t = tt
  no_rows (Some x) old t = λ start at counted. record { written = []; remaining = rows_after (of t) start x; whole = refl; appends = nothing_appended old old (keeps_same old) }

  -- ---- the cause of a refused number

  pub number_at_look : (input : Option (List ℕ)) (t : Terminal W) → FeedingNeedsNumber width_of input t → ReadingNeedsNumber width_of one_look t input
  number_at_look None t n = tt
  number_at_look (Some x) t n = λ start at counted.
      let there = n start at counted in
      let rises = number_rises (of t) (standing_after (of t) start (Piece x ∷ [])) (Look ∷ []) in
      subst (λ (y : Standing). 2 ^ 64 ≤ y.log.log.number) (joined t start x) (omega arith)

  pub number_of_look : (input : Option (List ℕ)) (t fed : Terminal W) → Feeds width_of input t fed → NeedsNumber width_of fed (Look ∷ []) → ReadingNeedsNumber width_of one_look t input
  number_of_look None t fed h n = tt
  number_of_look (Some x) t fed h n = λ start at counted.
      let whole = standing_after (of t) start (Piece x ∷ []) in
      subst (λ (y : Standing). 2 ^ 64 ≤ y.log.log.number) (joined t start x) (needs_there width_of t.surface.grid.widths whole.log.log.number fed whole (Look ∷ []) tt h.widths (h.answers start at counted) n)

  -- ---- the cause of refused memory

  -- memory may be refused where all of the input was fed, and there are numbers for the look or it takes memory
  pub fits_look : (input left : Option (List ℕ)) (t fed : Terminal W) (failed : Bool) → Feeds width_of input t fed → IfSome input (λ x. left ≡ Some []) → HasNumbersToLook width_of fed failed → ReadingIsRefusedMemory width_of one_look t input left
  fits_look None left t fed failed h all n = tt
  fits_look (Some x) left t fed failed h all n = λ start at counted.
      let whole = standing_after (of t) start (Piece x ∷ []) in
      record {
        part = record { read = x; rest = []; whole = sym (append-nil x); remaining = all };
        why = inr (by_way start (looks_there width_of t.surface.grid.widths whole.log.log.number fed failed whole h.widths (h.answers start at counted) n));
      }
    where
      by_way : (start : Standing) → ((standing_after (of t) (standing_after (of t) start (Piece x ∷ [])) (Look ∷ [])).log.log.number < 2 ^ 64) ⊎ LookTakesMemory (of t) (standing_after (of t) start (Piece x ∷ [])) true
          → LastLookTakesMemory (of t) start one_look x ⊎ ((standing_after (of t) start (one_look x)).log.log.number < 2 ^ 64)
      by_way start (inl fits) = inr (subst (λ (y : Standing). y.log.log.number < 2 ^ 64) (joined t start x) fits)
      by_way start (inr takes) = inl (record { history = Piece x ∷ []; rest = []; whole = refl; last = refl; takes = takes })

  -- ---- a new terminal

  module _ (w : W) (width height : ℕ) (new : Terminal W) (at : IsAt new (new_standing width height)) (e : new.surface.grid.widths ≡ w) where
    pub new_rows : (input old now : Option (List ℕ)) → ShowsRows width_of new input old now → IfSome input (λ x. Appends old now (rows_shown (width_of w) width height x))
    new_rows None old now s = tt
    new_rows (Some x) old now s = subst (λ (y : W). Appends old now (rows_shown (width_of y) width height x)) e (s (new_standing width height) at (omega arith))

    pub new_some_rows : (input old now : Option (List ℕ)) → ShowsSomeRows width_of new input old now → IfSome input (λ x. AppendsPrefix old now (rows_shown (width_of w) width height x))
    new_some_rows None old now s = tt
    new_some_rows (Some x) old now s = subst (λ (y : W). AppendsPrefix old now (rows_shown (width_of y) width height x)) e (s (new_standing width height) at (omega arith))

    pub new_number : (input : Option (List ℕ)) → ReadingNeedsNumber width_of one_look new input → IfSome input (λ x. 2 ^ 64 ≤ (log_of (width_of w) width height (Piece x ∷ Look ∷ [])).log.number)
    new_number None n = tt
    new_number (Some x) n = subst (λ (y : W). 2 ^ 64 ≤ (log_of (width_of y) width height (Piece x ∷ Look ∷ [])).log.number) e (n (new_standing width height) at (omega arith))

    pub refused_new : (history_of : List ℕ → History) (input left : Option (List ℕ)) → ReadingIsRefusedMemory width_of history_of new input left
        → IfSome input (λ x. IsRefusedMemory (width_of w) (new_standing width height) history_of x left)
    refused_new history_of None left r = tt
    refused_new history_of (Some x) left r =
        subst (λ v. IsRefusedMemory (width_of v) (new_standing width height) history_of x left) e (r (new_standing width height) at (omega arith))

-- before the first read there are numbers for all that was read, which is nothing
pub nothing_read : (f : List ℕ → ℕ) (width height : ℕ) (history_of : List ℕ → History) (input : Option (List ℕ)) → history_of [] ≡ one_look []
    → IfSome input (λ x. IsRefusedMemory f (new_standing width height) history_of x input)
nothing_read f width height history_of None e = tt
nothing_read f width height history_of (Some x) e =
    let start = new_standing width height in
    record {
      part = record { read = []; rest = x; whole = refl; remaining = refl };
      why = inr (inr (subst (λ h. (standing_after f start h).log.log.number < 2 ^ 64) (sym e) (subst (λ n. n < 2 ^ 64) (sym (quiet_look f start refl)) (omega arith))));
    }

pub nothing_shown : (f : List ℕ → ℕ) (width height : ℕ) (input old : Option (List ℕ)) → IfSome input (λ x. AppendsPrefix old old (rows_shown f width height x))
nothing_shown f width height None old = tt
nothing_shown f width height (Some x) old = record { written = []; remaining = rows_shown f width height x; whole = refl; appends = nothing_appended old old (keeps_same old) }
