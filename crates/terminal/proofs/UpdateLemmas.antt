-- The updates of an input that is read in chunks.
use Rattle.std.proofs.Common.{◌≡◌, ◌≢◌, ℕ, ◌+◌, ◌<◌, ◌≤◌, ◌^◌, ◌⊎◌, inl, inr, Bool, true, false, List, [], ◌∷◌, ◌++◌, length, refl, sym, ap, subst, ◌∙◌, arith, Option, Some, None, append_assoc, append-nil, length-append}
use Rattle.std.specs.Prelude.{◌==◌, if◌then◌else◌}
use Rattle.std.specs.List.{flat_map}
use Rattle.std.proofs.lemmas.Grind.{flat_map-append}
use Rattle.std.proofs.lemmas.Bool.Decides.{eqb_tells}
use Rattle.std.specs.Io.KnownBytes.{Appends}
use Rattle.cell_surface.specs.Surface.{number_of}
use Rattle.escape_framing.proofs.Existence.Utf8Lemmas.{order}
use Rattle.terminal.specs.Fed.{AnswersAt, AnswersNow}
use Rattle.terminal.specs.Written.{IsAt, IsCounted, Lightens, UpdateWritten, SendsChunks, SendsPart, due_from, looked, lightened, update_at, updates_from, number_after}
use Rattle.terminal.specs.Shown.{AppendsPrefix}
use Rattle.terminal.specs.Headline.{GoesBy}
use Rattle.terminal.specs.Refusals.{FeedTakesMemory, HasNumbersToLook, IsRefusedMemory, LastLookTakesMemory, LastTakesMemory, LookTakesMemory, NeedsMemory, NeedsNumber, all_looks}
use Rattle.terminal.specs.Terminal.{Terminal}
use Rattle.terminal.proofs.AnswerLemmas.{chunks_join, number_rises, update_alike, answers_first, answers_on, answers_at_rest, answers_lightened, answers_lighter, number_there, needs_there, looks_there, takes_there, quiet_look}
use Rattle.terminal.proofs.GoLemmas.{actions_join}
use Rattle.terminal_table.specs.History.{History, Piece, Look, pieces}
use Rattle.terminal_viewers.specs.Updates.{Standing, in_chunks, looks, standing_after, updates_after}
use Rattle.terminal_viewers.specs.Viewers.{AnswersAs}
use Rattle.terminal_viewers.proofs.KeptLemmas.{answers_after}
use Rattle.terminal_viewers.proofs.ChunkLemmas.{grows, fills, standings_join, standings_cut}

-- ---- known bytes

pub appends_both : (a b c : Option (List ℕ)) (x y : List ℕ) → Appends a b x → Appends b c y → Appends a c (x ++ y)
appends_both None b c x y h k = tt
appends_both (Some l) None c x y h k = absurd h
appends_both (Some l) (Some m) None x y h k = absurd k
appends_both (Some l) (Some m) (Some n) x y h k = k ∙ ap (λ s. s ++ y) h ∙ append_assoc l x y

-- bytes `x` and then a prefix of `y` are a prefix of `x`, `y` and `z` joined
pub prefix_after : (a b c : Option (List ℕ)) (x y z : List ℕ) → Appends a b x → AppendsPrefix b c y → AppendsPrefix a c (x ++ (y ++ z))
prefix_after a b c x y z h k = record {
  written = x ++ k.written;
  remaining = k.remaining ++ z;
  whole = ap (λ s. x ++ (s ++ z)) k.whole ∙ ap (λ s. x ++ s) (append_assoc k.written k.remaining z) ∙ sym (append_assoc x k.written (k.remaining ++ z));
  appends = appends_both a b c x k.written h k.appends;
}

pub prefix_so_far : (a b : Option (List ℕ)) (x z : List ℕ) → Appends a b x → AppendsPrefix a b (x ++ z)
prefix_so_far a b x z h = record { written = x; remaining = z; whole = refl; appends = h }

-- ---- the first chunk

-- the first chunk of an input begins with `begun`
record First (every : ℕ) (begun input : List ℕ) : Type 0 where
  more : List ℕ
  remaining : List (List ℕ)
  are : in_chunks every begun input ≡ (begun ++ more) ∷ remaining

first_chunk : (every : ℕ) (begun input : List ℕ) → First every begun input
first_chunk every begun [] = record { more = []; remaining = []; are = ap (λ (l : List ℕ). l ∷ []) (sym (append-nil begun)) }
first_chunk every begun (byte ∷ input) = by_test (length begun + 1 == every) refl (first_chunk every (begun ++ byte ∷ []) input)
  where
    by_test : (b : Bool) → (length begun + 1 == every) ≡ b → First every (begun ++ byte ∷ []) input → First every begun (byte ∷ input)
    by_test true e later = record {
      more = byte ∷ [];
      remaining = in_chunks every [] input;
      are = ap (λ b. if b then (begun ++ byte ∷ []) ∷ in_chunks every [] input else in_chunks every (begun ++ byte ∷ []) input) e;
    }
    by_test false e later = record {
      more = byte ∷ later.more;
      remaining = later.remaining;
      are = ap (λ b. if b then (begun ++ byte ∷ []) ∷ in_chunks every [] input else in_chunks every (begun ++ byte ∷ []) input) e
          ∙ later.are ∙ ap (λ (l : List ℕ). l ∷ later.remaining) (append_assoc begun (byte ∷ []) later.more);
    }

-- where `begun` and `bytes` fit in a chunk, the first chunk begins with both
record Holds (every : ℕ) (begun bytes next : List ℕ) : Type 0 where
  more : List ℕ
  remaining : List (List ℕ)
  are : in_chunks every begun (bytes ++ next) ≡ ((begun ++ bytes) ++ more) ∷ remaining

holds : (every : ℕ) (begun bytes next : List ℕ) → length begun + length bytes ≤ every → Holds every begun bytes next
holds every begun [] next h =
    let first = first_chunk every begun next in
    record { more = first.more; remaining = first.remaining; are = first.are ∙ ap (λ (l : List ℕ). (l ++ first.more) ∷ first.remaining) (sym (append-nil begun)) }
holds every begun (byte ∷ bytes) next h = either (order (length begun + length (byte ∷ bytes)) every)
  where
    all : List ℕ
    all = byte ∷ bytes

    either : (length begun + length all < every) ⊎ (every ≤ length begun + length all) → Holds every begun all next
    either (inl l) =
        let first = first_chunk every (begun ++ all) next in
        record { more = first.more; remaining = first.remaining; are = grows every begun all next l ∙ first.are }
    either (inr l) = record {
      more = [];
      remaining = in_chunks every [] next;
      are = fills every begun all next (omega arith) (omega arith) ∙ ap (λ (l : List ℕ). l ∷ in_chunks every [] next) (sym (append-nil (begun ++ all)));
    }

-- ---- standings

looks-append : (ps qs : List (List ℕ)) → looks (ps ++ qs) ≡ looks ps ++ looks qs
looks-append ps qs = flat_map-append (λ chunk. Piece chunk ∷ Look ∷ []) ps qs

-- looks leave the bytes of chunks as they are
pieces_in : (ps : List (List ℕ)) → pieces (looks ps) ≡ flat_map (λ bytes. bytes) ps
pieces_in [] = refl
pieces_in (bytes ∷ ps) = ap (λ l. bytes ++ l) (pieces_in ps)

module _ {W : Type 0} (width_of : W → List ℕ → ℕ) (w : W) where
  abbrev f : List ℕ → ℕ
  f = width_of w

  -- ---- an input that is being read

  -- Some bytes of an input were read: the chunks `done`, with an update after each, and `begun`, the start of the next one. `last` is the standing of
  -- a terminal that keeps all changes, at the last look. This terminal answers as that one does after `begun`, from the viewer's number on; before
  -- the first update, where the viewer's number is 0 and nothing is due, from some number `from`.
  pub record IsSending (every : ℕ) (start : Standing) (input rest : List ℕ) (old now : Option (List ℕ)) (t : Terminal W) (number left : ℕ) : Type 0 where
    pub read : List ℕ
    pub done : List (List ℕ)
    pub begun : List ℕ
    pub written : List ℕ
    pub last : Standing
    pub from : ℕ
    pub whole : input ≡ read ++ rest
    pub room : length begun + left ≡ every
    pub chunks : (more : List ℕ) → in_chunks every [] (read ++ more) ≡ done ++ in_chunks every begun more
    pub appends : Appends old now written
    pub leads : (ps : List (List ℕ)) → updates_after f start 0 (done ++ ps) ≡ written ++ updates_after f last number ps
    pub last_is : last ≡ standing_after f start (looks done)
    pub asked : (number ≡ 0) ⊎ (from ≡ number)
    pub seen : from ≤ (standing_after f last (Piece begun ∷ [])).log.log.number
    pub answers : AnswersAt from t (standing_after f last (Piece begun ∷ []))

  -- the updates of the chunks that are done are written, and no more
  pub sending_chunks : (every : ℕ) (start : Standing) (input rest : List ℕ) (old now : Option (List ℕ)) (t : Terminal W) (number left : ℕ) → IsSending every start input rest old now t number left
      → (remaining : Option (List ℕ)) → remaining ≡ Some rest → SendsChunks f every start input remaining old now
  sending_chunks every start input rest old now t number left s remaining e = record {
    part = record { read = s.read; rest = rest; whole = s.whole; remaining = e };
    chunks = s.done;
    begun = s.begun;
    cut = ap (λ bytes. in_chunks every [] bytes) (sym (append-nil s.read)) ∙ s.chunks [];
    appends = subst (λ bytes. Appends old now bytes)
        (sym (append-nil s.written) ∙ sym (s.leads []) ∙ ap (λ chunks. updates_after f start 0 chunks) (append-nil s.done)) s.appends;
  }

  pub sending_first : (every : ℕ) (start : Standing) (input : List ℕ) (old : Option (List ℕ)) (t : Terminal W) → t.surface.grid.widths ≡ w → t.is_failed ≡ false → IsAt t start → IsCounted start → Appends old old []
      → IsSending every start input input old old t 0 every
  sending_first every start input old t e sound at counted none = record {
    read = [];
    done = [];
    begun = [];
    written = [];
    last = start;
    from = 0;
    whole = refl;
    room = omega arith;
    chunks = λ more. refl;
    appends = none;
    leads = λ ps. refl;
    last_is = λ i. record { view = record start.view { stream = sym (append-nil start.view.stream) i }; log = start.log };
    asked = inl refl;
    seen = omega arith;
    answers = answers_at_rest width_of w 0 t start e sound (answers_first width_of w 0 t start at counted);
  }

  module _ (every : ℕ) (start : Standing) (input rest : List ℕ) (old now : Option (List ℕ)) (t : Terminal W) (number left : ℕ) (s : IsSending every start input rest old now t number left) where
    -- the updates of an input that goes on with `more` after the bytes read
    all_is : (more : List ℕ) → updates_from f every start (s.read ++ more) ≡ s.written ++ updates_after f s.last number (in_chunks every s.begun more)
    all_is more = ap (updates_after f start 0) (s.chunks more) ∙ s.leads (in_chunks every s.begun more)

    -- the standing after the chunk that has begun, and after another chunk instead
    here : Standing
    here = standing_after f s.last (Piece s.begun ∷ [])

    with_chunk : List ℕ → Standing
    with_chunk chunk = standing_after f s.last (Piece chunk ∷ [])

    -- some bytes more are fed
    fed_on : (bytes : List ℕ) (u : Terminal W) → t.surface.grid.widths ≡ w → GoesBy width_of t u (Piece bytes ∷ []) → AnswersAt s.from u (with_chunk (s.begun ++ bytes))
    unfolding here with_chunk
    fed_on bytes u same g =
        subst (AnswersAt s.from u) (chunks_join f s.last s.begun bytes)
        (answers_on width_of w s.from t u here (Piece bytes ∷ []) tt same s.answers g)

    seen_after : (bytes : List ℕ) → here.log.log.number ≤ (with_chunk (s.begun ++ bytes)).log.log.number
    unfolding here with_chunk
    seen_after bytes =
        subst (λ (x : Standing). here.log.log.number ≤ x.log.log.number) (chunks_join f s.last s.begun bytes) (number_rises f here (Piece bytes ∷ []))

    -- some bytes more, which don't fill the chunk
    pub sending_more : (next bytes : List ℕ) (u : Terminal W) (less : ℕ) → rest ≡ bytes ++ next → t.surface.grid.widths ≡ w → GoesBy width_of t u (Piece bytes ∷ []) → less + length bytes ≡ left → 0 < less
        → IsSending every start input next old now u number less
    unfolding here with_chunk
    sending_more next bytes u less e same g count some =
        let long = length-append s.begun bytes in
        let room = s.room in
        let seen = s.seen in
        let rises = seen_after bytes in
        record {
          read = s.read ++ bytes;
          done = s.done;
          begun = s.begun ++ bytes;
          written = s.written;
          last = s.last;
          from = s.from;
          whole = s.whole ∙ ap (λ l. s.read ++ l) e ∙ sym (append_assoc s.read bytes next);
          room = omega arith;
          chunks = λ more. ap (in_chunks every []) (append_assoc s.read bytes more) ∙ s.chunks (bytes ++ more) ∙ ap (λ ps. s.done ++ ps) (grows every s.begun bytes more (omega arith));
          appends = s.appends;
          leads = s.leads;
          last_is = s.last_is;
          asked = s.asked;
          seen = omega (arith, seen, rises);
          answers = fed_on bytes u same g;
        }

    -- ---- changes that are forgotten within a chunk

    forgotten_from : (v : Terminal W) (later : ℕ) → s.from ≤ later → later ≤ (standing_after f s.last (Piece s.begun ∷ [])).log.log.number → (number ≡ 0) ⊎ (later ≡ number) → t.surface.grid.widths ≡ w → Lightens width_of t v later
        → IsSending every start input rest old now v number left
    forgotten_from v later more most asked same l = record {
      read = s.read;
      done = s.done;
      begun = s.begun;
      written = s.written;
      last = s.last;
      from = later;
      whole = s.whole;
      room = s.room;
      chunks = s.chunks;
      appends = s.appends;
      leads = s.leads;
      last_is = s.last_is;
      asked = asked;
      seen = most;
      answers = answers_lighter width_of w s.from later t v (standing_after f s.last (Piece s.begun ∷ [])) more same s.answers l;
    }

    -- the changes that the viewer doesn't need are forgotten
    pub sending_lighter : (v : Terminal W) (later : ℕ) → later ≡ due_from t number → t.surface.grid.widths ≡ w → Lightens width_of t v later → IsSending every start input rest old now v number left
    unfolding here
    sending_lighter v later e same l = by_number (eqb_tells number 0)
      where
        by_asked : number ≢ 0 → later ≡ number → (number ≡ 0) ⊎ (s.from ≡ number) → IsSending every start input rest old now v number left
        by_asked some is (inl none) = absurd (some none)
        by_asked some is (inr from) = let seen = s.seen in forgotten_from v later (omega (arith, from, is)) (omega (arith, from, is, seen)) (inr is) same l

        by_number : (((number == 0) ≡ true) × (number ≡ 0)) ⊎ (((number == 0) ≡ false) × (number ≢ 0)) → IsSending every start input rest old now v number left
        by_number (inl p) =
            let is = e ∙ ap (λ b. if b then number_of t.surface else number) p.0 in
            let there = number_there width_of w s.from t here s.answers in
            let seen = s.seen in
            forgotten_from v later (omega (arith, seen, there, is)) (omega (arith, there, is)) (inl p.1) same l
        by_number (inr p) = by_asked p.1 (e ∙ ap (λ b. if b then number_of t.surface else number) p.0) s.asked

    -- ---- a look after a chunk

    next_of : List ℕ → Standing
    next_of chunk = standing_after f s.last (looks (chunk ∷ []))

    looked_on : (chunk : List ℕ) (u : Terminal W) (a : AnswersAt s.from u (with_chunk chunk)) → AnswersAs s.from (looked f a.kept) (next_of chunk)
    unfolding next_of with_chunk
    looked_on chunk u a =
        subst (AnswersAs s.from (looked f a.kept)) (sym (standings_join f s.last (Piece chunk ∷ []) (Look ∷ [])))
        (answers_after f s.from a.kept (with_chunk chunk) (Look ∷ []) tt a.answers)

    update_is : (chunk : List ℕ) (u : Terminal W) (a : AnswersAt s.from u (with_chunk chunk)) → update_at (looked f a.kept) number ≡ update_at (next_of chunk) number
    update_is chunk u a = update_alike s.from number (looked f a.kept) (next_of chunk) s.asked (looked_on chunk u a)

    next_rises : (chunk : List ℕ) → (with_chunk chunk).log.log.number ≤ (next_of chunk).log.log.number
    unfolding next_of with_chunk
    next_rises chunk =
        subst (λ (x : Standing). (with_chunk chunk).log.log.number ≤ x.log.log.number) (sym (standings_join f s.last (Piece chunk ∷ []) (Look ∷ []))) (number_rises f (with_chunk chunk) (Look ∷ []))

    -- the updates, where the chunk that has begun is full
    full_is : (bytes more : List ℕ) → 0 < length bytes → length s.begun + length bytes ≡ every
        → updates_from f every start (s.read ++ (bytes ++ more)) ≡ s.written ++ (update_at (next_of (s.begun ++ bytes)) number ++ updates_after f (next_of (s.begun ++ bytes)) (next_of (s.begun ++ bytes)).log.log.number (in_chunks every [] more))
    unfolding next_of
    full_is bytes more some full = all_is (bytes ++ more) ∙ ap (λ ps. s.written ++ updates_after f s.last number ps) (fills every s.begun bytes more some full)

    -- some bytes more, which fill it, and the update after them
    pub sending_next : (next bytes : List ℕ) (u v : Terminal W) (later : ℕ) (new : Option (List ℕ)) → rest ≡ bytes ++ next → t.surface.grid.widths ≡ w → GoesBy width_of t u (Piece bytes ∷ []) → length bytes ≡ left → 0 < left
        → ((x : Standing) → IsAt u x → UpdateWritten f x number later v now new) → v.surface.grid.widths ≡ w → v.is_failed ≡ false
        → IsSending every start input next old new v later every
    unfolding next_of with_chunk here
    sending_next next bytes u v later new e same g full some sends widths sound =
        let chunk = s.begun ++ bytes in
        let a = fed_on bytes u same g in
        let sent = sends a.kept a.at in
        let answers = looked_on chunk u a in
        let later_is : later ≡ (next_of chunk).log.log.number = sent.next_is ∙ answers.logs.count in
        let seen = s.seen in
        let fed_rises = seen_after bytes in
        let rises = next_rises chunk in
        let end_rises = number_rises f (next_of chunk) (Piece [] ∷ []) in
        let room = s.room in
        let update = update_at (next_of chunk) number in
        record {
          read = s.read ++ bytes;
          done = s.done ++ chunk ∷ [];
          begun = [];
          written = s.written ++ update;
          last = next_of chunk;
          from = later;
          whole = s.whole ∙ ap (λ l. s.read ++ l) e ∙ sym (append_assoc s.read bytes next);
          room = omega arith;
          chunks = λ more. ap (in_chunks every []) (append_assoc s.read bytes more) ∙ s.chunks (bytes ++ more) ∙ ap (λ ps. s.done ++ ps) (fills every s.begun bytes more (omega arith) (omega arith)) ∙ sym (append_assoc s.done (chunk ∷ []) (in_chunks every [] more));
          appends = appends_both old now new s.written update s.appends (subst (Appends now new) (update_is chunk u a) sent.appends);
          leads = λ ps. ap (updates_after f start 0) (append_assoc s.done (chunk ∷ []) ps) ∙ s.leads (chunk ∷ ps)
              ∙ ap (λ n. s.written ++ (update ++ updates_after f (next_of chunk) n ps)) (sym later_is) ∙ sym (append_assoc s.written update (updates_after f (next_of chunk) later ps));
          last_is = ap (λ x. standing_after f x (looks (chunk ∷ []))) s.last_is ∙ sym (standings_join f start (looks s.done) (looks (chunk ∷ []))) ∙ ap (standing_after f start) (sym (looks-append s.done (chunk ∷ [])));
          asked = inr refl;
          seen = omega (arith, later_is, end_rises);
          answers = answers_at_rest width_of w later v (next_of chunk) widths sound (record {
            kept = lightened f later (looked f a.kept);
            at = sent.at;
            answers = answers_lightened width_of w s.from later (looked f a.kept) (next_of chunk) (omega (arith, later_is, seen, fed_rises, rises)) answers;
          });
        }

    -- the update at the end of the input
    at_end : rest ≡ [] → updates_from f every start input ≡ s.written ++ (update_at (next_of s.begun) number ++ [])
    unfolding next_of
    at_end e = ap (updates_from f every start) (s.whole ∙ ap (λ l. s.read ++ l) e) ∙ all_is []

    pub sending_all : (u : Terminal W) (later : ℕ) (new : Option (List ℕ)) → rest ≡ [] → ((x : Standing) → IsAt t x → UpdateWritten f x number later u now new) → Appends old new (updates_from f every start input)
    unfolding with_chunk
    sending_all u later new e sends =
        let sent = sends s.answers.kept s.answers.at in
        let update = update_at (next_of s.begun) number in
        subst (Appends old new) (sym (at_end e ∙ ap (λ l. s.written ++ l) (append-nil update)))
        (appends_both old now new s.written update s.appends (subst (Appends now new) (update_is s.begun t s.answers) sent.appends))

    -- the terminal has then read the input, and looked at it after each chunk
    pub sending_ends : (u : Terminal W) (later : ℕ) (new : Option (List ℕ)) → rest ≡ [] → ((x : Standing) → IsAt t x → UpdateWritten f x number later u now new) → AnswersNow u (standing_after f start (all_looks every input))
    unfolding with_chunk next_of here
    sending_ends u later new e sends =
        let sent = sends s.answers.kept s.answers.at in
        let answers = looked_on s.begun t s.answers in
        let later_is : later ≡ (next_of s.begun).log.log.number = sent.next_is ∙ answers.logs.count in
        let seen = s.seen in
        let rises = next_rises s.begun in
        let chunks_are : in_chunks every [] input ≡ s.done ++ s.begun ∷ [] = ap (in_chunks every []) (s.whole ∙ ap (λ l. s.read ++ l) e) ∙ s.chunks [] in
        let there : next_of s.begun ≡ standing_after f start (all_looks every input) =
        ap (λ x. standing_after f x (looks (s.begun ∷ []))) s.last_is ∙ sym (standings_join f start (looks s.done) (looks (s.begun ∷ [])))
        ∙ ap (standing_after f start) (sym (looks-append s.done (s.begun ∷ [])) ∙ ap looks (sym chunks_are)) in
        subst (AnswersNow u) there (subst (λ n. AnswersAt n u (next_of s.begun)) later_is (record {
          kept = lightened f later (looked f s.answers.kept);
          at = sent.at;
          answers = answers_lightened width_of w s.from later (looked f s.answers.kept) (next_of s.begun) (omega (arith, later_is, seen, rises)) answers;
        }))

    -- ---- where it ends early

    -- the updates written so far are a prefix of those of the bytes read, also where these go on with `bytes`
    pub sending_part : (next bytes : List ℕ) (remaining : Option (List ℕ)) → rest ≡ bytes ++ next → remaining ≡ Some next → SendsPart f every start input remaining old now
    sending_part next bytes remaining e known = record {
      part = record { read = s.read ++ bytes; rest = next; whole = s.whole ∙ ap (λ l. s.read ++ l) e ∙ sym (append_assoc s.read bytes next); remaining = known };
      of_read = subst (AppendsPrefix old now) (sym (all_is bytes)) (prefix_so_far old now s.written _ s.appends);
      of_input = subst (AppendsPrefix old now) (sym (ap (updates_from f every start) s.whole ∙ all_is rest)) (prefix_so_far old now s.written _ s.appends);
    }

    -- the first bytes of an update after them
    pub sending_some : (next bytes : List ℕ) (u : Terminal W) (new remaining : Option (List ℕ)) → rest ≡ bytes ++ next → remaining ≡ Some next → t.surface.grid.widths ≡ w → GoesBy width_of t u (Piece bytes ∷ []) → length bytes ≡ left → 0 < left
        → ((x : Standing) → IsAt u x → AppendsPrefix now new (update_at (looked f x) number)) → SendsPart f every start input remaining old new
    sending_some next bytes u new remaining e known same g full some sends =
        let chunk = s.begun ++ bytes in
        let room = s.room in
        let a = fed_on bytes u same g in
        let first = subst (AppendsPrefix now new) (update_is chunk u a) (sends a.kept a.at) in
        record {
          part = record { read = s.read ++ bytes; rest = next; whole = s.whole ∙ ap (λ l. s.read ++ l) e ∙ sym (append_assoc s.read bytes next); remaining = known };
          of_read = subst (AppendsPrefix old new) (sym (ap (λ l. updates_from f every start (s.read ++ l)) (sym (append-nil bytes)) ∙ full_is bytes [] (omega arith) (omega arith)))
              (prefix_after old now new s.written (update_at (next_of chunk) number) _ s.appends first);
          of_input = subst (AppendsPrefix old new) (sym (ap (updates_from f every start) (s.whole ∙ ap (λ l. s.read ++ l) e) ∙ full_is bytes next (omega arith) (omega arith)))
              (prefix_after old now new s.written (update_at (next_of chunk) number) _ s.appends first);
        }

    -- the first bytes of the update at the end
    pub sending_last : (new remaining : Option (List ℕ)) → rest ≡ [] → remaining ≡ Some rest → ((x : Standing) → IsAt t x → AppendsPrefix now new (update_at (looked f x) number)) → SendsPart f every start input remaining old new
    unfolding with_chunk
    sending_last new remaining e known sends =
        let first = subst (AppendsPrefix now new) (update_is s.begun t s.answers) (sends s.answers.kept s.answers.at) in
        let all = prefix_after old now new s.written (update_at (next_of s.begun) number) [] s.appends first in
        let read_is : input ≡ s.read = s.whole ∙ ap (λ l. s.read ++ l) e ∙ append-nil s.read in
        record {
          part = record { read = s.read; rest = rest; whole = s.whole; remaining = known };
          of_read = subst (λ l. AppendsPrefix old new (updates_from f every start l)) read_is (subst (AppendsPrefix old new) (sym (at_end e)) all);
          of_input = subst (AppendsPrefix old new) (sym (at_end e)) all;
        }

    -- ---- numbers

    Past : Standing → Type 0
    Past x = 2 ^ 64 ≤ x.log.log.number

    -- the whole of the input leads further than its prefix
    past_prefix : (prefix remaining : History) → standing_after f start (looks (in_chunks every [] input)) ≡ standing_after f s.last (prefix ++ remaining) → 2 ^ 64 ≤ (standing_after f s.last prefix).log.log.number → 2 ^ 64 ≤ number_after f every start input
    past_prefix prefix remaining e n =
        let whole = e ∙ standings_join f s.last prefix remaining in
        let rises = number_rises f (standing_after f s.last prefix) remaining in
        subst (λ (x : Standing). 2 ^ 64 ≤ x.log.log.number) (sym whole) (omega arith)

    -- the chunks from the one that has begun on
    chunks_after : (bytes : List ℕ) (ps : List (List ℕ)) → in_chunks every [] bytes ≡ s.done ++ ps → standing_after f start (looks (in_chunks every [] bytes)) ≡ standing_after f s.last (looks ps)
    chunks_after bytes ps e =
        ap (λ qs. standing_after f start (looks qs)) e ∙ ap (standing_after f start) (looks-append s.done ps) ∙ standings_join f start (looks s.done) (looks ps) ∙ ap (λ x. standing_after f x (looks ps)) (sym s.last_is)

    input_is : (bytes next : List ℕ) → rest ≡ bytes ++ next → in_chunks every [] input ≡ s.done ++ in_chunks every s.begun (bytes ++ next)
    input_is bytes next e = ap (in_chunks every []) (s.whole ∙ ap (λ l. s.read ++ l) e) ∙ s.chunks (bytes ++ next)

    pub past_feed : (next bytes : List ℕ) → rest ≡ bytes ++ next → t.surface.grid.widths ≡ w → length bytes ≤ left → NeedsNumber width_of t (Piece bytes ∷ []) → 2 ^ 64 ≤ number_after f every start input
    unfolding here
    past_feed next bytes e same count n =
        let room = s.room in
        let chunk = s.begun ++ bytes in
        let h = holds every s.begun bytes next (omega arith) in
        past_prefix (Piece chunk ∷ []) (Piece h.more ∷ Look ∷ looks h.remaining)
        (chunks_after input ((chunk ++ h.more) ∷ h.remaining) (input_is bytes next e ∙ ap (λ ps. s.done ++ ps) h.are) ∙ sym (standings_cut actions_join f s.last chunk h.more (Look ∷ looks h.remaining)))
        (subst (λ (x : Standing). 2 ^ 64 ≤ x.log.log.number) (chunks_join f s.last s.begun bytes) (needs_there width_of w s.from t here (Piece bytes ∷ []) tt same s.answers n))

    -- where a look after a chunk is refused a number, the number after it is past those of 64 bits
    look_needs : (chunk : List ℕ) (u : Terminal W) → u.surface.grid.widths ≡ w → AnswersAt s.from u (with_chunk chunk) → NeedsNumber width_of u (Look ∷ []) → 2 ^ 64 ≤ (next_of chunk).log.log.number
    unfolding next_of with_chunk
    look_needs chunk u same a n =
        subst (λ (x : Standing). 2 ^ 64 ≤ x.log.log.number) (sym (standings_join f s.last (Piece chunk ∷ []) (Look ∷ []))) (needs_there width_of w s.from u (with_chunk chunk) (Look ∷ []) tt same a n)

    pub past_look : (next bytes : List ℕ) (u : Terminal W) → rest ≡ bytes ++ next → t.surface.grid.widths ≡ w → u.surface.grid.widths ≡ w → GoesBy width_of t u (Piece bytes ∷ []) → length bytes ≡ left → 0 < left → NeedsNumber width_of u (Look ∷ []) → 2 ^ 64 ≤ number_after f every start input
    unfolding next_of
    past_look next bytes u e same widths g full some n =
        let room = s.room in
        let chunk = s.begun ++ bytes in
        past_prefix (looks (chunk ∷ [])) (looks (in_chunks every [] next))
        (chunks_after input (chunk ∷ in_chunks every [] next) (input_is bytes next e ∙ ap (λ ps. s.done ++ ps) (fills every s.begun bytes next (omega arith) (omega arith))))
        (look_needs chunk u widths (fed_on bytes u same g) n)

    pub past_end : rest ≡ [] → t.surface.grid.widths ≡ w → NeedsNumber width_of t (Look ∷ []) → 2 ^ 64 ≤ number_after f every start input
    unfolding next_of with_chunk
    past_end e same n =
        past_prefix (looks (s.begun ∷ [])) []
        (chunks_after input (s.begun ∷ []) (ap (in_chunks every []) (s.whole ∙ ap (λ l. s.read ++ l) e) ∙ s.chunks []))
        (look_needs s.begun t same s.answers n)

    -- ---- memory

    -- the bytes read are the chunks done and the one that has begun
    chunks_read : in_chunks every [] s.read ≡ s.done ++ (s.begun ∷ [])
    chunks_read = ap (in_chunks every []) (sym (append-nil s.read)) ∙ s.chunks []

    -- bytes more take memory
    pub memory_feed : (next bytes : List ℕ) (u : Terminal W) (remaining : Option (List ℕ)) → rest ≡ bytes ++ next → remaining ≡ Some next → t.surface.grid.widths ≡ w → length bytes ≤ 4096 → NeedsMemory width_of t bytes u
        → IsRefusedMemory f start (all_looks every) input remaining
    unfolding here
    memory_feed next bytes u remaining e known same most n = record {
      part = record { read = s.read ++ bytes; rest = next; whole = s.whole ∙ ap (λ l. s.read ++ l) e ∙ sym (append_assoc s.read bytes next); remaining = known };
      why = inl (record {
        before = s.read;
        last = bytes;
        whole = refl;
        at_most = most;
        history = looks s.done ++ (Piece s.begun ∷ []);
        looked = ap looks chunks_read ∙ looks-append s.done (s.begun ∷ []) ∙ sym (append_assoc (looks s.done) (Piece s.begun ∷ []) (Look ∷ []));
        failed = u.surface.is_failed;
        takes = subst (λ (x : Standing). FeedTakesMemory f x bytes u.surface.is_failed)
            (ap (λ x. standing_after f x (Piece s.begun ∷ [])) s.last_is ∙ sym (standings_join f start (looks s.done) (Piece s.begun ∷ [])))
            (takes_there width_of w s.from t u here bytes same s.answers n);
      });
    }

    -- where there are numbers for a look after a chunk, the number after it has 64 bits; or the look is refused memory
    look_fits : (chunk : List ℕ) (u : Terminal W) (failed : Bool) → u.surface.grid.widths ≡ w → AnswersAt s.from u (with_chunk chunk) → HasNumbersToLook width_of u failed
        → ((next_of chunk).log.log.number < 2 ^ 64) ⊎ LookTakesMemory f (with_chunk chunk) true
    unfolding next_of with_chunk
    look_fits chunk u failed same a n =
        subst (λ (x : Standing). (x.log.log.number < 2 ^ 64) ⊎ LookTakesMemory f (standing_after f s.last (Piece chunk ∷ [])) true) (sym (standings_join f s.last (Piece chunk ∷ []) (Look ∷ [])))
        (looks_there width_of w s.from u failed (with_chunk chunk) same a n)

    -- the look after the chunk that has begun, to which no bytes come
    last_look : (bytes chunk : List ℕ) (rest : List (List ℕ)) → in_chunks every [] bytes ≡ s.done ++ chunk ∷ rest → flat_map (λ bytes. bytes) rest ≡ [] → LookTakesMemory f (with_chunk chunk) true → LastLookTakesMemory f start (all_looks every) bytes
    unfolding with_chunk
    last_look bytes chunk rest chunks none takes = record {
      history = looks s.done ++ (Piece chunk ∷ []);
      rest = looks rest;
      whole = ap looks chunks ∙ looks-append s.done (chunk ∷ rest) ∙ sym (append_assoc (looks s.done) (Piece chunk ∷ []) (Look ∷ looks rest));
      last = pieces_in rest ∙ none;
      takes = subst (λ (x : Standing). LookTakesMemory f x true) (ap (λ x. standing_after f x (Piece chunk ∷ [])) s.last_is ∙ sym (standings_join f start (looks s.done) (Piece chunk ∷ []))) takes;
    }

    -- bytes that fill a chunk; the next one is empty
    full_chunks : (bytes : List ℕ) → 0 < length bytes → length s.begun + length bytes ≡ every → in_chunks every [] (s.read ++ bytes) ≡ s.done ++ ((s.begun ++ bytes) ∷ [] ∷ [])
    full_chunks bytes some full =
        s.chunks bytes ∙ ap (λ l. s.done ++ in_chunks every s.begun l) (sym (append-nil bytes)) ∙ ap (λ ps. s.done ++ ps) (fills every s.begun bytes [] some full)

    -- after them the number is that of the look after them: the empty chunk logs nothing
    full_number : (bytes : List ℕ) → 0 < length bytes → length s.begun + length bytes ≡ every → number_after f every start (s.read ++ bytes) ≡ (next_of (s.begun ++ bytes)).log.log.number
    unfolding next_of with_chunk
    full_number bytes some full =
        let chunk = s.begun ++ bytes in
        ap (λ (x : Standing). x.log.log.number) (chunks_after (s.read ++ bytes) (chunk ∷ [] ∷ []) (full_chunks bytes some full) ∙ standings_join f s.last (looks (chunk ∷ [])) (Piece [] ∷ Look ∷ []))
        ∙ quiet_look f (next_of chunk) (ap (λ (x : Standing). x.view.held) (standings_join f s.last (Piece chunk ∷ []) (Look ∷ [])))

    -- why memory is refused at a look
    Why : List ℕ → Type 0
    Why bytes = LastTakesMemory f start (all_looks every) bytes ⊎ LastLookTakesMemory f start (all_looks every) bytes ⊎ (number_after f every start bytes < 2 ^ 64)

    why_look : (bytes chunk : List ℕ) (rest : List (List ℕ)) → in_chunks every [] bytes ≡ s.done ++ chunk ∷ rest → flat_map (λ bytes. bytes) rest ≡ [] → number_after f every start bytes ≡ (next_of chunk).log.log.number
        → ((next_of chunk).log.log.number < 2 ^ 64) ⊎ LookTakesMemory f (with_chunk chunk) true → Why bytes
    unfolding Why
    why_look bytes chunk rest chunks none number (inl fits) = inr (inr (subst (λ m. m < 2 ^ 64) (sym number) fits))
    why_look bytes chunk rest chunks none number (inr takes) = inr (inl (last_look bytes chunk rest chunks none takes))

    pub memory_look : (next bytes : List ℕ) (u : Terminal W) (failed : Bool) (remaining : Option (List ℕ)) → rest ≡ bytes ++ next → remaining ≡ Some next → t.surface.grid.widths ≡ w → u.surface.grid.widths ≡ w → GoesBy width_of t u (Piece bytes ∷ []) → length bytes ≡ left → 0 < left
        → HasNumbersToLook width_of u failed → IsRefusedMemory f start (all_looks every) input remaining
    unfolding Why
    memory_look next bytes u failed remaining e known same widths g full some n =
        let room = s.room in
        record {
          part = record { read = s.read ++ bytes; rest = next; whole = s.whole ∙ ap (λ l. s.read ++ l) e ∙ sym (append_assoc s.read bytes next); remaining = known };
          why = why_look (s.read ++ bytes) (s.begun ++ bytes) ([] ∷ []) (full_chunks bytes (omega arith) (omega arith)) refl (full_number bytes (omega arith) (omega arith))
              (look_fits (s.begun ++ bytes) u failed widths (fed_on bytes u same g) n);
        }

    pub memory_end : (failed : Bool) (remaining : Option (List ℕ)) → remaining ≡ Some rest → t.surface.grid.widths ≡ w → HasNumbersToLook width_of t failed → IsRefusedMemory f start (all_looks every) input remaining
    unfolding next_of with_chunk Why
    memory_end failed remaining known same n = record {
      part = record { read = s.read; rest = rest; whole = s.whole; remaining = known };
      why = why_look s.read s.begun [] chunks_read refl (ap (λ (x : Standing). x.log.log.number) (chunks_after s.read (s.begun ∷ []) chunks_read)) (look_fits s.begun t failed same s.answers n);
    }
