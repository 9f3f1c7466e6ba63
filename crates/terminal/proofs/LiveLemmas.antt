-- An update after each read.
use Rattle.std.proofs.Common.{◌≡◌, ℕ, Bool, ◌+◌, ◌<◌, ◌≤◌, ◌^◌, ◌⊎◌, inl, inr, true, false, List, [], ◌∷◌, ◌++◌, length, refl, sym, ap, subst, ◌∙◌, arith, Option, Some, None, append_assoc, append-nil, length-append}
use Rattle.std.specs.Prelude.{IsTrue}
use Rattle.std.specs.List.{AllByRecursion, flat_map}
use Rattle.std.specs.Io.KnownBytes.{Appends, Consumes, Keeps}
use Rattle.std.proofs.lemmas.Grind.{flat_map-append}
use Rattle.terminal.specs.Fed.{AnswersAt, AnswersNow}
use Rattle.terminal.specs.Headline.{GoesBy}
use Rattle.terminal.specs.Live.{HasBrought, IsCountedAt, IsPartOfLast, IsPiece, LastPieceTakesMemory, PiecesNeedNumber, ReadsEach, SendsEach, SendsPartOfLast, SendsPrefix, counted_each}
use Rattle.terminal.specs.Refusals.{FeedTakesMemory, HasNumbersToLook, LookTakesMemory, NeedsMemory, NeedsNumber}
use Rattle.terminal.specs.Shown.{AppendsPrefix}
use Rattle.terminal.specs.Terminal.{Terminal}
use Rattle.terminal.specs.Watched.{Watched, counted}
use Rattle.terminal.specs.Written.{IsAt, IsCounted, Sends, SendsSome, UpdateWritten, looked, lightened, update_at}
use Rattle.terminal.proofs.AnswerLemmas.{number_rises, update_alike, answers_first, answers_on, answers_later, answers_lightened, needs_there, looks_there, takes_there}
use Rattle.terminal.proofs.AppendLemmas.{keeps_same, nothing_appended}
use Rattle.terminal.proofs.UpdateLemmas.{appends_both}
use Rattle.terminal_table.specs.History.{Piece, Look}
use Rattle.terminal_viewers.specs.Updates.{Standing, looks, new_standing, standing_after, updates_after}
use Rattle.terminal_viewers.specs.Viewers.{AnswersAs}
use Rattle.terminal_viewers.proofs.KeptLemmas.{answers_after}
use Rattle.terminal_viewers.proofs.ChunkLemmas.{standings_join}

looks-append : (ps qs : List (List ℕ)) → looks (ps ++ qs) ≡ looks ps ++ looks qs
looks-append ps qs = flat_map-append (λ chunk. Piece chunk ∷ Look ∷ []) ps qs

-- ---- the updates of the pieces, from one standing

module _ {W : Type 0} (width_of : W → List ℕ → ℕ) (w : W) where
  abbrev f : List ℕ → ℕ
  f = width_of w

  -- The updates of the pieces were written. `last` is the standing of a terminal that keeps all changes; this terminal answers as that one does, from
  -- the viewer's number on; before the first update, where that is 0, from some number `from`.
  pub record HasSent (start : Standing) (pieces : List (List ℕ)) (old now : Option (List ℕ)) (t : Terminal W) (number : ℕ) : Type 0 where
    pub last : Standing
    pub from : ℕ
    pub last_is : last ≡ standing_after f start (looks pieces)
    pub leads : (more : List (List ℕ)) → updates_after f start 0 (pieces ++ more) ≡ updates_after f start 0 pieces ++ updates_after f last number more
    pub appends : Appends old now (updates_after f start 0 pieces)
    pub asked : (number ≡ 0) ⊎ (from ≡ number)
    pub seen : from ≤ last.log.log.number
    pub answers : AnswersAt from t last

  pub sent_first : (start : Standing) (old : Option (List ℕ)) (t : Terminal W) → IsAt t start → IsCounted start → HasSent start [] old old t 0
  sent_first start old t at counted = record {
    last = start;
    from = 0;
    last_is = λ i. record { view = record start.view { stream = sym (append-nil start.view.stream) i }; log = start.log };
    leads = λ more. refl;
    appends = nothing_appended old old (keeps_same old);
    asked = inl refl;
    seen = omega arith;
    answers = answers_first width_of w 0 t start at counted;
  }

  module _ (start : Standing) (pieces : List (List ℕ)) (old now : Option (List ℕ)) (t : Terminal W) (number : ℕ) (s : HasSent start pieces old now t number) where
    -- a terminal that has read the pieces, and answers so from its current number on
    pub sent_answers : AnswersNow t (standing_after f start (looks pieces))
    sent_answers = let seen = s.seen in subst (AnswersNow t) s.last_is (answers_later width_of w s.from s.last.log.log.number t s.last seen s.answers)

    -- ---- one piece more

    module _ (bytes : List ℕ) where
      fed : Standing
      fed = standing_after f s.last (Piece bytes ∷ [])

      after_it : Standing
      after_it = standing_after f s.last (looks (bytes ∷ []))

      next_is : after_it ≡ standing_after f start (looks (pieces ++ bytes ∷ []))
      unfolding after_it
      next_is = ap (λ x. standing_after f x (looks (bytes ∷ []))) s.last_is ∙ sym (standings_join f start (looks pieces) (looks (bytes ∷ [])))
          ∙ ap (standing_after f start) (sym (looks-append pieces (bytes ∷ [])))

      updates_are : (more : List (List ℕ)) → updates_after f start 0 ((pieces ++ bytes ∷ []) ++ more)
          ≡ updates_after f start 0 pieces ++ (update_at after_it number ++ updates_after f after_it after_it.log.log.number more)
      unfolding after_it
      updates_are more = ap (updates_after f start 0) (append_assoc pieces (bytes ∷ []) more) ∙ s.leads (bytes ∷ more)

      all_are : updates_after f start 0 (pieces ++ bytes ∷ []) ≡ updates_after f start 0 pieces ++ update_at after_it number
      all_are = ap (updates_after f start 0) (sym (append-nil (pieces ++ bytes ∷ []))) ∙ updates_are []
          ∙ ap (λ l. updates_after f start 0 pieces ++ l) (append-nil (update_at after_it number))

      fed_answers : (u : Terminal W) → t.surface.grid.widths ≡ w → GoesBy width_of t u (Piece bytes ∷ []) → AnswersAt s.from u fed
      unfolding fed
      fed_answers u same g = answers_on width_of w s.from t u s.last (Piece bytes ∷ []) tt same s.answers g

      next_answers : (u : Terminal W) (a : AnswersAt s.from u fed) → AnswersAs s.from (looked f a.kept) after_it
      unfolding fed after_it
      next_answers u a = subst (AnswersAs s.from (looked f a.kept)) (sym (standings_join f s.last (Piece bytes ∷ []) (Look ∷ [])))
          (answers_after f s.from a.kept (standing_after f s.last (Piece bytes ∷ [])) (Look ∷ []) tt a.answers)

      update_is : (u : Terminal W) (a : AnswersAt s.from u fed) → update_at (looked f a.kept) number ≡ update_at after_it number
      update_is u a = update_alike s.from number (looked f a.kept) after_it s.asked (next_answers u a)

      next_rises : fed.log.log.number ≤ after_it.log.log.number
      unfolding fed after_it
      next_rises = subst (λ (x : Standing). (standing_after f s.last (Piece bytes ∷ [])).log.log.number ≤ x.log.log.number)
          (sym (standings_join f s.last (Piece bytes ∷ []) (Look ∷ []))) (number_rises f (standing_after f s.last (Piece bytes ∷ [])) (Look ∷ []))

      fed_rises : s.last.log.log.number ≤ fed.log.log.number
      unfolding fed
      fed_rises = number_rises f s.last (Piece bytes ∷ [])

      pub sent_next : (u v : Terminal W) (later : ℕ) (new : Option (List ℕ)) → t.surface.grid.widths ≡ w → GoesBy width_of t u (Piece bytes ∷ [])
          → ((x : Standing) → IsAt u x → UpdateWritten f x number later v now new) → HasSent start (pieces ++ bytes ∷ []) old new v later
      sent_next u v later new same g sends =
          let a = fed_answers u same g in
          let sent = sends a.kept a.at in
          let answers = next_answers u a in
          let later_is : later ≡ after_it.log.log.number = sent.next_is ∙ answers.logs.count in
          let seen = s.seen in
          let first = fed_rises in
          let second = next_rises in
          record {
            last = after_it;
            from = later;
            last_is = next_is;
            leads = λ more. updates_are more ∙ sym (append_assoc (updates_after f start 0 pieces) (update_at after_it number) (updates_after f after_it after_it.log.log.number more))
                ∙ (λ i. sym all_are i ++ updates_after f after_it (sym later_is i) more);
            appends = subst (Appends old new) (sym all_are) (appends_both old now new (updates_after f start 0 pieces) (update_at after_it number) s.appends (subst (Appends now new) (update_is u a) sent.appends));
            asked = inr refl;
            seen = omega (arith, later_is);
            answers = record {
              kept = lightened f later (looked f a.kept);
              at = sent.at;
              answers = answers_lightened width_of w s.from later (looked f a.kept) after_it (omega (arith, later_is, seen, first, second)) answers;
            };
          }

      -- ---- where it ends early

      -- nothing of the piece's update
      pub sent_none : IsPartOfLast f start pieces bytes old now
      sent_none = record {
        written = [];
        unwritten = update_at after_it number;
        last_is = all_are;
        appends = subst (Appends old now) (sym (append-nil (updates_after f start 0 pieces))) s.appends;
      }

      -- a part of the piece's update
      pub sent_some : (u : Terminal W) (new : Option (List ℕ)) → t.surface.grid.widths ≡ w → GoesBy width_of t u (Piece bytes ∷ [])
          → ((x : Standing) → IsAt u x → AppendsPrefix now new (update_at (looked f x) number)) → IsPartOfLast f start pieces bytes old new
      sent_some u new same g sends =
          let a = fed_answers u same g in
          let p = sends a.kept a.at in
          record {
            written = p.written;
            unwritten = p.remaining;
            last_is = all_are ∙ ap (λ l. updates_after f start 0 pieces ++ l) (sym (update_is u a) ∙ p.whole);
            appends = appends_both old now new (updates_after f start 0 pieces) p.written s.appends p.appends;
          }

      -- ---- refusals

      pub feed_past : t.surface.grid.widths ≡ w → NeedsNumber width_of t (Piece bytes ∷ []) → 2 ^ 64 ≤ (standing_after f start (looks (pieces ++ bytes ∷ []))).log.log.number
      unfolding fed
      feed_past same n =
          let past = needs_there width_of w s.from t s.last (Piece bytes ∷ []) tt same s.answers n in
          let rises = next_rises in
          subst (λ (x : Standing). 2 ^ 64 ≤ x.log.log.number) next_is (omega (arith, past, rises))

      pub look_past : (u : Terminal W) → t.surface.grid.widths ≡ w → u.surface.grid.widths ≡ w → GoesBy width_of t u (Piece bytes ∷ []) → NeedsNumber width_of u (Look ∷ [])
          → 2 ^ 64 ≤ (standing_after f start (looks (pieces ++ bytes ∷ []))).log.log.number
      unfolding fed after_it
      look_past u same widths g n =
          subst (λ (x : Standing). 2 ^ 64 ≤ x.log.log.number) (sym (standings_join f s.last (Piece bytes ∷ []) (Look ∷ [])) ∙ next_is)
          (needs_there width_of w s.from u (standing_after f s.last (Piece bytes ∷ [])) (Look ∷ []) tt widths (fed_answers u same g) n)

      fed_is : fed ≡ standing_after f start (looks pieces ++ Piece bytes ∷ [])
      unfolding fed
      fed_is = ap (λ x. standing_after f x (Piece bytes ∷ [])) s.last_is ∙ sym (standings_join f start (looks pieces) (Piece bytes ∷ []))

      pub look_fits : (u : Terminal W) (failed : Bool) → t.surface.grid.widths ≡ w → u.surface.grid.widths ≡ w → GoesBy width_of t u (Piece bytes ∷ []) → HasNumbersToLook width_of u failed
          → LookTakesMemory f (standing_after f start (looks pieces ++ Piece bytes ∷ [])) true ⊎ ((standing_after f start (looks (pieces ++ bytes ∷ []))).log.log.number < 2 ^ 64)
      unfolding fed after_it
      look_fits u failed same widths g n = by_way (looks_there width_of w s.from u failed (standing_after f s.last (Piece bytes ∷ [])) widths (fed_answers u same g) n)
        where
          by_way : ((standing_after f (standing_after f s.last (Piece bytes ∷ [])) (Look ∷ [])).log.log.number < 2 ^ 64) ⊎ LookTakesMemory f (standing_after f s.last (Piece bytes ∷ [])) true
              → LookTakesMemory f (standing_after f start (looks pieces ++ Piece bytes ∷ [])) true ⊎ ((standing_after f start (looks (pieces ++ bytes ∷ []))).log.log.number < 2 ^ 64)
          by_way (inl fits) = inr (subst (λ (x : Standing). x.log.log.number < 2 ^ 64) (sym (standings_join f s.last (Piece bytes ∷ []) (Look ∷ [])) ∙ next_is) fits)
          by_way (inr takes) = inl (subst (λ (x : Standing). LookTakesMemory f x true) fed_is takes)

      pub feed_takes : (u : Terminal W) → t.surface.grid.widths ≡ w → NeedsMemory width_of t bytes u → FeedTakesMemory f (standing_after f start (looks pieces)) bytes u.surface.is_failed
      feed_takes u same n = subst (λ (x : Standing). FeedTakesMemory f x bytes u.surface.is_failed) s.last_is (takes_there width_of w s.from t u s.last bytes same s.answers n)

-- ---- what was read

module _ {R : Type 0} (remaining : R → Option (List ℕ)) where
  pub brought_first : (reader : Watched R) → reader.reads ≡ 0 → HasBrought remaining [] 0 reader reader
  brought_first reader unread = record { are_pieces = tt; consumes = keeps (remaining reader.inner); reads = unread }
    where
      keeps : (input : Option (List ℕ)) → Consumes input input []
      keeps None = tt
      keeps (Some bytes) = refl

  consumes_on : (input rest next : Option (List ℕ)) (first second : List ℕ) → Consumes input rest first → Consumes rest next second → Consumes input next (first ++ second)
  consumes_on None rest next first second c d = tt
  consumes_on (Some input) None next first second c d = absurd c
  consumes_on (Some input) (Some rest) None first second c d = absurd d
  consumes_on (Some input) (Some rest) (Some next) first second c d = c ∙ ap (λ l. first ++ l) d ∙ sym (append_assoc first second next)

  all_pieces : (pieces : List (List ℕ)) (bytes : List ℕ) → AllByRecursion IsPiece pieces → IsPiece bytes → AllByRecursion IsPiece (pieces ++ bytes ∷ [])
  all_pieces [] bytes all is = (is, tt)
  all_pieces (piece ∷ pieces) bytes all is = (all.0, all_pieces pieces bytes all.1 is)

  bytes_join : (pieces : List (List ℕ)) (bytes : List ℕ) → flat_map (λ piece. piece) (pieces ++ bytes ∷ []) ≡ flat_map (λ piece. piece) pieces ++ bytes
  bytes_join pieces bytes = flat_map-append (λ piece. piece) pieces (bytes ∷ []) ∙ ap (λ l. flat_map (λ piece. piece) pieces ++ l) (append-nil bytes)

  pub brought_next : (pieces : List (List ℕ)) (reader now next : Watched R) (bytes : List ℕ) → HasBrought remaining pieces 0 reader now → Consumes (remaining now.inner) (remaining next.inner) bytes
      → 0 < length bytes → length bytes ≤ 4096 → next.reads ≡ now.reads + 1 → HasBrought remaining (pieces ++ bytes ∷ []) 0 reader next
  brought_next pieces reader now next bytes b c some most count =
      let reads = b.reads in
      let long : length (pieces ++ bytes ∷ []) ≡ length pieces + 1 = length-append pieces (bytes ∷ []) in
      record {
        are_pieces = all_pieces pieces bytes b.are_pieces (some, most);
        consumes = subst (Consumes (remaining reader.inner) (remaining next.inner)) (sym (bytes_join pieces bytes))
            (consumes_on (remaining reader.inner) (remaining now.inner) (remaining next.inner) (flat_map (λ piece. piece) pieces) bytes b.consumes c);
        reads = omega (arith, long, count, reads);
      }

  -- a read that brought nothing
  pub brought_none : (pieces : List (List ℕ)) (reader now next : Watched R) → HasBrought remaining pieces 0 reader now → Consumes (remaining now.inner) (remaining next.inner) []
      → next.reads ≡ now.reads + 1 → HasBrought remaining pieces 1 reader next
  brought_none pieces reader now next b c count =
      let reads = b.reads in
      record {
        are_pieces = b.are_pieces;
        consumes = subst (Consumes (remaining reader.inner) (remaining next.inner)) (append-nil (flat_map (λ piece. piece) pieces))
            (consumes_on (remaining reader.inner) (remaining now.inner) (remaining next.inner) (flat_map (λ piece. piece) pieces) [] b.consumes c);
        reads = omega (arith, count, reads);
      }

  kept_consumes : (input next : Option (List ℕ)) → Keeps input next → Consumes input next []
  kept_consumes None next k = tt
  kept_consumes (Some x) None k = absurd k
  kept_consumes (Some x) (Some y) k = sym k

  -- a read that failed
  pub brought_failed : (pieces : List (List ℕ)) (reader now next : Watched R) → HasBrought remaining pieces 0 reader now → Keeps (remaining now.inner) (remaining next.inner)
      → next.reads ≡ now.reads + 1 → HasBrought remaining pieces 1 reader next
  brought_failed pieces reader now next b k count = brought_none pieces reader now next b (kept_consumes (remaining now.inner) (remaining next.inner) k) count

one_more : (pieces : List (List ℕ)) (bytes : List ℕ) (count : ℕ) → counted_each (pieces ++ bytes ∷ []) count ≡ counted (counted_each pieces count)
one_more [] bytes count = refl
one_more (piece ∷ pieces) bytes count = one_more pieces bytes (counted count)

-- ---- the loop

-- the pieces were read, and after each of them its update was written and flushed
pub record IsLive {R T W : Type 0} (width_of : W → List ℕ → ℕ) (remaining : R → Option (List ℕ)) (contents : T → Option (List ℕ)) (before t : Terminal W) (reader now : Watched R) (old new : Watched T) (number : ℕ) : Type 0 where
  pub pieces : List (List ℕ)
  pub brought : HasBrought remaining pieces 0 reader now
  pub sent : (start : Standing) → IsCountedAt before start → HasSent width_of before.surface.grid.widths start pieces (contents old.inner) (contents new.inner) t number
  pub flushes : new.flushes ≡ counted_each pieces old.flushes
  pub flushed : (pieces ≡ []) ⊎ IsTrue new.is_flushed

module _ {R T W : Type 0} (width_of : W → List ℕ → ℕ) (remaining : R → Option (List ℕ)) (contents : T → Option (List ℕ)) (before : Terminal W) (reader : Watched R) (writer : Watched T) where
  abbrev w : W
  w = before.surface.grid.widths

  abbrev of : List ℕ → ℕ
  of = width_of w

  abbrev Live : Terminal W → Watched R → Watched T → ℕ → Type 0
  Live t now new number = IsLive width_of remaining contents before t reader now writer new number

  abbrev Each : ℕ → Watched R → Watched T → Type 0
  Each none next new = SendsEach of (IsCountedAt before) remaining contents none reader next writer new

  abbrev PartOfLast : Watched R → Watched T → Type 0
  PartOfLast next new = SendsPartOfLast of (IsCountedAt before) remaining contents reader next writer new

  abbrev Prefix : Watched R → Watched T → Type 0
  Prefix next new = SendsPrefix of (IsCountedAt before) remaining contents reader next writer new

  pub live_first : reader.reads ≡ 0 → Live before reader writer 0
  live_first unread = record {
    pieces = [];
    brought = brought_first remaining reader unread;
    sent = λ start at. sent_first width_of w start (contents writer.inner) before at.0 at.1;
    flushes = refl;
    flushed = inl refl;
  }

  module _ (t : Terminal W) (now : Watched R) (new : Watched T) (number : ℕ) (same : t.surface.grid.widths ≡ before.surface.grid.widths) (live : Live t now new number) where
    module _ (next : Watched R) (bytes : List ℕ) (consumes : Consumes (remaining now.inner) (remaining next.inner) bytes) (some : 0 < length bytes) (most : length bytes ≤ 4096) (count : next.reads ≡ now.reads + 1) where
      brought_on : HasBrought remaining (live.pieces ++ bytes ∷ []) 0 reader next
      brought_on = brought_next remaining live.pieces reader now next bytes live.brought consumes some most count

      pub live_next : (u v : Terminal W) (end_writer : Watched T) (later : ℕ) → GoesBy width_of t u (Piece bytes ∷ []) → Sends width_of u v number later (contents new.inner) (contents end_writer.inner)
          → end_writer.flushes ≡ counted new.flushes → IsTrue end_writer.is_flushed → Live v next end_writer later
      live_next u v end_writer later g sends flushes flushed =
          record {
            pieces = live.pieces ++ bytes ∷ [];
            brought = brought_on;
            sent = λ start at. sent_next width_of w start live.pieces (contents writer.inner) (contents new.inner) t number (live.sent start at) bytes u v later (contents end_writer.inner) same g
                (λ x there. subst (λ (y : W). UpdateWritten (width_of y) x number later v (contents new.inner) (contents end_writer.inner)) (g.widths ∙ same) (sends x there));
            flushes = flushes ∙ ap counted live.flushes ∙ sym (one_more live.pieces bytes writer.flushes);
            flushed = inr flushed;
          }

      pub live_none : PartOfLast next new
      live_none = record {
        pieces = live.pieces;
        last = bytes;
        brought = brought_on;
        sends = λ start at. sent_none width_of w start live.pieces (contents writer.inner) (contents new.inner) t number (live.sent start at) bytes;
      }

      pub live_some : (u : Terminal W) (end_writer : Watched T) → GoesBy width_of t u (Piece bytes ∷ []) → SendsSome width_of u number (contents new.inner) (contents end_writer.inner) → PartOfLast next end_writer
      live_some u end_writer g sends = record {
        pieces = live.pieces;
        last = bytes;
        brought = brought_on;
        sends = λ start at. sent_some width_of w start live.pieces (contents writer.inner) (contents new.inner) t number (live.sent start at) bytes u (contents end_writer.inner) same g
            (λ x there. subst (λ (y : W). AppendsPrefix (contents new.inner) (contents end_writer.inner) (update_at (looked (width_of y) x) number)) (g.widths ∙ same) (sends x there));
      }

      pub live_feed_past : NeedsNumber width_of t (Piece bytes ∷ []) → PiecesNeedNumber of (IsCountedAt before) remaining reader next
      live_feed_past n = record {
        pieces = live.pieces ++ bytes ∷ [];
        brought = brought_on;
        past = λ start at. feed_past width_of w start live.pieces (contents writer.inner) (contents new.inner) t number (live.sent start at) bytes same n;
      }

      pub live_look_past : (u : Terminal W) → GoesBy width_of t u (Piece bytes ∷ []) → NeedsNumber width_of u (Look ∷ []) → PiecesNeedNumber of (IsCountedAt before) remaining reader next
      live_look_past u g n = record {
        pieces = live.pieces ++ bytes ∷ [];
        brought = brought_on;
        past = λ start at. look_past width_of w start live.pieces (contents writer.inner) (contents new.inner) t number (live.sent start at) bytes u same (g.widths ∙ same) g n;
      }

      pub live_feed_memory : (u : Terminal W) → NeedsMemory width_of t bytes u → LastPieceTakesMemory of (IsCountedAt before) remaining reader next
      live_feed_memory u n = record {
        pieces = live.pieces;
        last = bytes;
        brought = brought_on;
        failed = u.surface.is_failed;
        why = λ start at. inl (feed_takes width_of w start live.pieces (contents writer.inner) (contents new.inner) t number (live.sent start at) bytes u same n);
      }

      pub live_look_memory : (u : Terminal W) (failed : Bool) → GoesBy width_of t u (Piece bytes ∷ []) → HasNumbersToLook width_of u failed → LastPieceTakesMemory of (IsCountedAt before) remaining reader next
      live_look_memory u failed g n = record {
        pieces = live.pieces;
        last = bytes;
        brought = brought_on;
        failed = false;
        why = λ start at. inr (look_fits width_of w start live.pieces (contents writer.inner) (contents new.inner) t number (live.sent start at) bytes u failed same (g.widths ∙ same) g n);
      }

    -- all that was read is sent
    live_all : (none : ℕ) (next : Watched R) → HasBrought remaining live.pieces none reader next → Each none next new
    live_all none next brought = record {
      pieces = live.pieces;
      brought = brought;
      appends = λ start at. (live.sent start at).appends;
      flushes = live.flushes;
      flushed = live.flushed;
    }

    pub live_at_end : (next : Watched R) → Consumes (remaining now.inner) (remaining next.inner) [] → next.reads ≡ now.reads + 1
        → ReadsEach of (IsCountedAt before) remaining contents 1 reader next writer new t
    unfolding live_all
    live_at_end next c count = record {
      sends = live_all 1 next (brought_none remaining live.pieces reader now next live.brought c count);
      answers = λ start at. sent_answers width_of w start live.pieces (contents writer.inner) (contents new.inner) t number (live.sent start at);
    }

    pub live_failed : (next : Watched R) → Keeps (remaining now.inner) (remaining next.inner) → next.reads ≡ now.reads + 1 → Each 1 next new
    live_failed next k count = live_all 1 next (brought_failed remaining live.pieces reader now next live.brought k count)

    pub live_too_long : Each 0 now new
    live_too_long = live_all 0 now live.brought

  -- ---- what was sent is a prefix

  pub all_is_prefix : (none : ℕ) (next : Watched R) (new : Watched T) → Each none next new → Prefix next new
  all_is_prefix none next new s = record {
    pieces = s.pieces;
    none = none;
    brought = s.brought;
    sends = λ start at. record { written = updates_after of start 0 s.pieces; remaining = []; whole = sym (append-nil (updates_after of start 0 s.pieces)); appends = s.appends start at };
  }

  pub part_is_prefix : (next : Watched R) (new : Watched T) → PartOfLast next new → Prefix next new
  part_is_prefix next new s = record {
    pieces = s.pieces ++ s.last ∷ [];
    none = 0;
    brought = s.brought;
    sends = λ start at.
        let p = s.sends start at in
        let updates = updates_after of start 0 s.pieces in
        record { written = updates ++ p.written; remaining = p.unwritten; whole = p.last_is ∙ sym (append_assoc updates p.written p.unwritten); appends = p.appends };
  }

-- ---- a new terminal

module _ {R T : Type 0} (remaining : R → Option (List ℕ)) (contents : T → Option (List ℕ)) (f : List ℕ → ℕ) (P Q : Standing → Type 0) (only : (s : Standing) → Q s → P s) (reader next : Watched R) (writer new : Watched T) where
  pub each_from : (none : ℕ) → SendsEach f P remaining contents none reader next writer new → SendsEach f Q remaining contents none reader next writer new
  each_from none s = record { pieces = s.pieces; brought = s.brought; appends = λ start q. s.appends start (only start q); flushes = s.flushes; flushed = s.flushed }

  pub part_from : SendsPartOfLast f P remaining contents reader next writer new → SendsPartOfLast f Q remaining contents reader next writer new
  part_from s = record { pieces = s.pieces; last = s.last; brought = s.brought; sends = λ start q. s.sends start (only start q) }

  pub prefix_from : SendsPrefix f P remaining contents reader next writer new → SendsPrefix f Q remaining contents reader next writer new
  prefix_from s = record { pieces = s.pieces; none = s.none; brought = s.brought; sends = λ start q. s.sends start (only start q) }

  pub number_from : PiecesNeedNumber f P remaining reader next → PiecesNeedNumber f Q remaining reader next
  number_from s = record { pieces = s.pieces; brought = s.brought; past = λ start q. s.past start (only start q) }

-- a new terminal is at its standing
pub new_is : {W : Type 0} (t : Terminal W) (width height : ℕ) → IsAt t (new_standing width height) → (s : Standing) → s ≡ new_standing width height → IsCountedAt t s
new_is t width height at s e = subst (IsCountedAt t) (sym e) (at, omega arith)

module _ {R T W : Type 0} (width_of : W → List ℕ → ℕ) (remaining : R → Option (List ℕ)) (contents : T → Option (List ℕ)) (w : W) (t : Terminal W) (width height : ℕ) (at : IsAt t (new_standing width height)) (same : t.surface.grid.widths ≡ w) (reader next : Watched R) (writer new : Watched T) where
  abbrev IsNew : Standing → Type 0
  IsNew s = s ≡ new_standing width height

  pub new_each : (none : ℕ) → SendsEach (width_of t.surface.grid.widths) (IsCountedAt t) remaining contents none reader next writer new → SendsEach (width_of w) IsNew remaining contents none reader next writer new
  new_each none s = subst (λ (y : W). SendsEach (width_of y) IsNew remaining contents none reader next writer new) same
      (each_from remaining contents (width_of t.surface.grid.widths) (IsCountedAt t) IsNew (new_is t width height at) reader next writer new none s)

  pub new_part_of_last : SendsPartOfLast (width_of t.surface.grid.widths) (IsCountedAt t) remaining contents reader next writer new → SendsPartOfLast (width_of w) IsNew remaining contents reader next writer new
  new_part_of_last s = subst (λ (y : W). SendsPartOfLast (width_of y) IsNew remaining contents reader next writer new) same
      (part_from remaining contents (width_of t.surface.grid.widths) (IsCountedAt t) IsNew (new_is t width height at) reader next writer new s)

  pub new_prefix : SendsPrefix (width_of t.surface.grid.widths) (IsCountedAt t) remaining contents reader next writer new → SendsPrefix (width_of w) IsNew remaining contents reader next writer new
  new_prefix s = subst (λ (y : W). SendsPrefix (width_of y) IsNew remaining contents reader next writer new) same
      (prefix_from remaining contents (width_of t.surface.grid.widths) (IsCountedAt t) IsNew (new_is t width height at) reader next writer new s)

  pub new_number : PiecesNeedNumber (width_of t.surface.grid.widths) (IsCountedAt t) remaining reader next → PiecesNeedNumber (width_of w) IsNew remaining reader next
  new_number s = subst (λ (y : W). PiecesNeedNumber (width_of y) IsNew remaining reader next) same
      (number_from remaining contents (width_of t.surface.grid.widths) (IsCountedAt t) IsNew (new_is t width height at) reader next writer new s)

-- without a terminal nothing is read or written
pub none_sent : {R T : Type 0} (f : List ℕ → ℕ) (first : Standing → Type 0) (remaining : R → Option (List ℕ)) (contents : T → Option (List ℕ)) (reader : Watched R) (writer : Watched T) → reader.reads ≡ 0
    → SendsPrefix f first remaining contents reader reader writer writer
none_sent f first remaining contents reader writer unread = record {
  pieces = [];
  none = 0;
  brought = brought_first remaining reader unread;
  sends = λ start is. record { written = []; remaining = []; whole = refl; appends = nothing_appended (contents writer.inner) (contents writer.inner) (keeps_same (contents writer.inner)) };
}
