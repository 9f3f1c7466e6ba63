-- The updates of an input, where its bytes are known.
use Rattle.std.proofs.Common.{◌≡◌, ℕ, Bool, ◌+◌, ◌<◌, ◌≤◌, ◌^◌, false, List, [], ◌∷◌, length, refl, sym, ap, subst, ◌∙◌, arith, Option, Some, None}
use Rattle.std.specs.Prelude.{IfSome}
use Rattle.std.specs.Io.KnownBytes.{Appends, Consumes, IsAtEnd, Keeps}
use Rattle.terminal.specs.Fed.{Reads}
use Rattle.terminal.specs.Written.{IsAt, IsCounted, Lightens, UpdateWritten, Sends, SendsSome, SendsAll, SendsChunks, SendsChunksOf, SendsFirst, SendsPart, LooksNeedNumber, due_from, looked, number_after, update_at, updates_from}
use Rattle.terminal.specs.Shown.{AppendsPrefix}
use Rattle.terminal.specs.Headline.{GoesBy}
use Rattle.terminal.specs.Refusals.{HasNumbersToLook, NeedsMemory, NeedsNumber, ReadingIsRefusedMemory, all_looks}
use Rattle.terminal.specs.Terminal.{Terminal}
use Rattle.terminal.proofs.AppendLemmas.{nothing_appended, keeps_same}
use Rattle.terminal.proofs.UpdateLemmas.{IsSending, sending_chunks, sending_first, sending_lighter, sending_more, sending_next, sending_all, sending_ends, sending_part, sending_some, sending_last, past_feed, past_look, past_end, memory_feed, memory_look, memory_end}
use Rattle.terminal_table.specs.History.{Piece, Look}
use Rattle.terminal_viewers.specs.Updates.{Standing, new_standing}

-- of a known input some bytes were read, and their updates written, whatever the terminal's standing
abbrev pub SendsOn : {W : Type 0} → (W → List ℕ → ℕ) → ℕ → Terminal W → Option (List ℕ) → Option (List ℕ) → Option (List ℕ) → Option (List ℕ) → Terminal W → ℕ → ℕ → Type 0
SendsOn width_of every before None rest old now t number left = Unit {0}
SendsOn width_of every before (Some input) None old now t number left = ⊥
SendsOn width_of every before (Some input) (Some rest) old now t number left =
    (start : Standing) → IsAt before start → IsCounted start → IsSending width_of before.surface.grid.widths every start input rest old now t number left

module _ {W : Type 0} (width_of : W → List ℕ → ℕ) where
  pub on_first : (every : ℕ) (before : Terminal W) (input old : Option (List ℕ)) → before.is_failed ≡ false → SendsOn width_of every before input input old old before 0 every
  on_first every before None old sound = tt
  on_first every before (Some input) old sound = λ start at counted. sending_first width_of before.surface.grid.widths every start input old before refl sound at counted (nothing_appended old old (keeps_same old))

  module _ (every : ℕ) (before : Terminal W) (old now : Option (List ℕ)) (t : Terminal W) (number left : ℕ) (same : t.surface.grid.widths ≡ before.surface.grid.widths) where
    pub on_more : (input rest next : Option (List ℕ)) (bytes : List ℕ) (u : Terminal W) (less : ℕ) → SendsOn width_of every before input rest old now t number left → Consumes rest next bytes → GoesBy width_of t u (Piece bytes ∷ []) → less + length bytes ≡ left → 0 < less
        → SendsOn width_of every before input next old now u number less
    on_more None rest next bytes u less s c g count some = tt
    on_more (Some input) None next bytes u less s c g count some = absurd s
    on_more (Some input) (Some rest) None bytes u less s c g count some = absurd c
    on_more (Some input) (Some rest) (Some next) bytes u less s c g count some = λ start at counted.
        sending_more width_of before.surface.grid.widths every start input rest old now t number left (s start at counted) next bytes u less c same g count some

    -- the changes that the viewer doesn't need are forgotten within a chunk
    pub on_lighter : (input rest : Option (List ℕ)) (v : Terminal W) (later : ℕ) → SendsOn width_of every before input rest old now t number left → later ≡ due_from t number → Lightens width_of t v later
        → SendsOn width_of every before input rest old now v number left
    on_lighter None rest v later s e l = tt
    on_lighter (Some input) None v later s e l = absurd s
    on_lighter (Some input) (Some rest) v later s e l = λ start at counted.
        sending_lighter width_of before.surface.grid.widths every start input rest old now t number left (s start at counted) v later e same l

    pub on_next : (input rest next : Option (List ℕ)) (bytes : List ℕ) (u v : Terminal W) (later : ℕ) (new : Option (List ℕ)) → SendsOn width_of every before input rest old now t number left → Consumes rest next bytes → GoesBy width_of t u (Piece bytes ∷ []) → length bytes ≡ left → 0 < left
        → Sends width_of u v number later now new → v.surface.grid.widths ≡ u.surface.grid.widths → v.is_failed ≡ false → SendsOn width_of every before input next old new v later every
    on_next None rest next bytes u v later new s c g full some sends widths sound = tt
    on_next (Some input) None next bytes u v later new s c g full some sends widths sound = absurd s
    on_next (Some input) (Some rest) None bytes u v later new s c g full some sends widths sound = absurd c
    on_next (Some input) (Some rest) (Some next) bytes u v later new s c g full some sends widths sound = λ start at counted.
        sending_next width_of before.surface.grid.widths every start input rest old now t number left (s start at counted) next bytes u v later new c same g full some
        (λ x there. subst (λ (y : W). UpdateWritten (width_of y) x number later v now new) (g.widths ∙ same) (sends x there)) (widths ∙ g.widths ∙ same) sound

    pub on_all : (input rest next : Option (List ℕ)) (u : Terminal W) (later : ℕ) (new : Option (List ℕ)) → SendsOn width_of every before input rest old now t number left → Consumes rest next [] → IsAtEnd next → Sends width_of t u number later now new → SendsAll width_of every before input old new
    on_all None rest next u later new s c e sends = tt
    on_all (Some input) None next u later new s c e sends = absurd s
    on_all (Some input) (Some rest) None u later new s c e sends = absurd c
    on_all (Some input) (Some rest) (Some next) u later new s c e sends = λ start at counted.
        sending_all width_of before.surface.grid.widths every start input rest old now t number left (s start at counted) u later new (c ∙ e)
        (λ x there. subst (λ (y : W). UpdateWritten (width_of y) x number later u now new) same (sends x there))

    pub on_ends : (input rest next : Option (List ℕ)) (u : Terminal W) (later : ℕ) (new : Option (List ℕ)) → SendsOn width_of every before input rest old now t number left → Consumes rest next [] → IsAtEnd next → Sends width_of t u number later now new
        → Reads width_of (all_looks every) before input u
    on_ends None rest next u later new s c e sends = tt
    on_ends (Some input) None next u later new s c e sends = absurd s
    on_ends (Some input) (Some rest) None u later new s c e sends = absurd c
    on_ends (Some input) (Some rest) (Some next) u later new s c e sends = λ start at counted.
        sending_ends width_of before.surface.grid.widths every start input rest old now t number left (s start at counted) u later new (c ∙ e)
        (λ x there. subst (λ (y : W). UpdateWritten (width_of y) x number later u now new) same (sends x there))

    -- ---- where it ends early

    pub on_chunks : (input rest next : Option (List ℕ)) → SendsOn width_of every before input rest old now t number left → Keeps rest next → SendsChunksOf width_of every before input next old now
    on_chunks None rest next s k = tt
    on_chunks (Some input) None next s k = absurd s
    on_chunks (Some input) (Some rest) None s k = absurd k
    on_chunks (Some input) (Some rest) (Some next) s k = λ start at counted.
        sending_chunks width_of before.surface.grid.widths every start input rest old now t number left (s start at counted) (Some next) (ap Some k)

    pub on_part : (input rest next : Option (List ℕ)) (bytes : List ℕ) → SendsOn width_of every before input rest old now t number left → Consumes rest next bytes → SendsFirst width_of every before input next old now
    on_part None rest next bytes s c = tt
    on_part (Some input) None next bytes s c = absurd s
    on_part (Some input) (Some rest) None bytes s c = absurd c
    on_part (Some input) (Some rest) (Some next) bytes s c = λ start at counted.
        sending_part width_of before.surface.grid.widths every start input rest old now t number left (s start at counted) next bytes (Some next) c refl

    pub on_some : (input rest next : Option (List ℕ)) (bytes : List ℕ) (u : Terminal W) (new : Option (List ℕ)) → SendsOn width_of every before input rest old now t number left → Consumes rest next bytes → GoesBy width_of t u (Piece bytes ∷ []) → length bytes ≡ left → 0 < left
        → SendsSome width_of u number now new → SendsFirst width_of every before input next old new
    on_some None rest next bytes u new s c g full some sends = tt
    on_some (Some input) None next bytes u new s c g full some sends = absurd s
    on_some (Some input) (Some rest) None bytes u new s c g full some sends = absurd c
    on_some (Some input) (Some rest) (Some next) bytes u new s c g full some sends = λ start at counted.
        sending_some width_of before.surface.grid.widths every start input rest old now t number left (s start at counted) next bytes u new (Some next) c refl same g full some
        (λ x there. subst (λ (y : W). AppendsPrefix now new (update_at (looked (width_of y) x) number)) (g.widths ∙ same) (sends x there))

    pub on_last : (input rest next : Option (List ℕ)) (new : Option (List ℕ)) → SendsOn width_of every before input rest old now t number left → Consumes rest next [] → IsAtEnd next → SendsSome width_of t number now new → SendsFirst width_of every before input next old new
    on_last None rest next new s c e sends = tt
    on_last (Some input) None next new s c e sends = absurd s
    on_last (Some input) (Some rest) None new s c e sends = absurd c
    on_last (Some input) (Some rest) (Some next) new s c e sends = λ start at counted.
        sending_last width_of before.surface.grid.widths every start input rest old now t number left (s start at counted) new (Some next) (c ∙ e) (ap Some (sym c))
        (λ x there. subst (λ (y : W). AppendsPrefix now new (update_at (looked (width_of y) x) number)) same (sends x there))

    -- ---- numbers

    pub on_feed_past : (input rest next : Option (List ℕ)) (bytes : List ℕ) → SendsOn width_of every before input rest old now t number left → Consumes rest next bytes → length bytes ≤ left → NeedsNumber width_of t (Piece bytes ∷ []) → LooksNeedNumber width_of every before input
    on_feed_past None rest next bytes s c count n = tt
    on_feed_past (Some input) None next bytes s c count n = absurd s
    on_feed_past (Some input) (Some rest) None bytes s c count n = absurd c
    on_feed_past (Some input) (Some rest) (Some next) bytes s c count n = λ start at counted.
        past_feed width_of before.surface.grid.widths every start input rest old now t number left (s start at counted) next bytes c same count n

    pub on_look_past : (input rest next : Option (List ℕ)) (bytes : List ℕ) (u : Terminal W) → SendsOn width_of every before input rest old now t number left → Consumes rest next bytes → GoesBy width_of t u (Piece bytes ∷ []) → length bytes ≡ left → 0 < left → NeedsNumber width_of u (Look ∷ []) → LooksNeedNumber width_of every before input
    on_look_past None rest next bytes u s c g full some n = tt
    on_look_past (Some input) None next bytes u s c g full some n = absurd s
    on_look_past (Some input) (Some rest) None bytes u s c g full some n = absurd c
    on_look_past (Some input) (Some rest) (Some next) bytes u s c g full some n = λ start at counted.
        past_look width_of before.surface.grid.widths every start input rest old now t number left (s start at counted) next bytes u c same (g.widths ∙ same) g full some n

    pub on_end_past : (input rest next : Option (List ℕ)) → SendsOn width_of every before input rest old now t number left → Consumes rest next [] → IsAtEnd next → NeedsNumber width_of t (Look ∷ []) → LooksNeedNumber width_of every before input
    on_end_past None rest next s c e n = tt
    on_end_past (Some input) None next s c e n = absurd s
    on_end_past (Some input) (Some rest) None s c e n = absurd c
    on_end_past (Some input) (Some rest) (Some next) s c e n = λ start at counted.
        past_end width_of before.surface.grid.widths every start input rest old now t number left (s start at counted) (c ∙ e) same n

    -- ---- memory

    pub on_feed_memory : (input rest next : Option (List ℕ)) (bytes : List ℕ) (u : Terminal W) → SendsOn width_of every before input rest old now t number left → Consumes rest next bytes → length bytes ≤ 4096 → NeedsMemory width_of t bytes u → ReadingIsRefusedMemory width_of (all_looks every) before input next
    on_feed_memory None rest next bytes u s c most n = tt
    on_feed_memory (Some input) None next bytes u s c most n = absurd s
    on_feed_memory (Some input) (Some rest) None bytes u s c most n = absurd c
    on_feed_memory (Some input) (Some rest) (Some next) bytes u s c most n = λ start at counted.
        memory_feed width_of before.surface.grid.widths every start input rest old now t number left (s start at counted) next bytes u (Some next) c refl same most n

    pub on_look_memory : (input rest next : Option (List ℕ)) (bytes : List ℕ) (u : Terminal W) (failed : Bool) → SendsOn width_of every before input rest old now t number left → Consumes rest next bytes → GoesBy width_of t u (Piece bytes ∷ []) → length bytes ≡ left → 0 < left → HasNumbersToLook width_of u failed → ReadingIsRefusedMemory width_of (all_looks every) before input next
    on_look_memory None rest next bytes u failed s c g full some n = tt
    on_look_memory (Some input) None next bytes u failed s c g full some n = absurd s
    on_look_memory (Some input) (Some rest) None bytes u failed s c g full some n = absurd c
    on_look_memory (Some input) (Some rest) (Some next) bytes u failed s c g full some n = λ start at counted.
        memory_look width_of before.surface.grid.widths every start input rest old now t number left (s start at counted) next bytes u failed (Some next) c refl same (g.widths ∙ same) g full some n

    pub on_end_memory : (input rest next : Option (List ℕ)) (failed : Bool) → SendsOn width_of every before input rest old now t number left → Consumes rest next [] → HasNumbersToLook width_of t failed → ReadingIsRefusedMemory width_of (all_looks every) before input next
    on_end_memory None rest next failed s c n = tt
    on_end_memory (Some input) None next failed s c n = absurd s
    on_end_memory (Some input) (Some rest) None failed s c n = absurd c
    on_end_memory (Some input) (Some rest) (Some next) failed s c n = λ start at counted.
        memory_end width_of before.surface.grid.widths every start input rest old now t number left (s start at counted) failed (Some next) (ap Some (sym c)) same n

  -- ---- a new terminal

  pub nothing_written : (f : List ℕ → ℕ) (every : ℕ) (start : Standing) (input old : Option (List ℕ)) → IfSome input (λ x. SendsPart f every start x input old old)
  nothing_written f every start None old = tt
  nothing_written f every start (Some x) old = record {
    part = record { read = []; rest = x; whole = refl; remaining = refl };
    of_read = record { written = []; remaining = updates_from f every start []; whole = refl; appends = nothing_appended old old (keeps_same old) };
    of_input = record { written = []; remaining = updates_from f every start x; whole = refl; appends = nothing_appended old old (keeps_same old) };
  }

  pub new_past : (w : W) (every : ℕ) (t : Terminal W) (width height : ℕ) (input : Option (List ℕ)) → IsAt t (new_standing width height) → t.surface.grid.widths ≡ w → LooksNeedNumber width_of every t input
      → IfSome input (λ x. 2 ^ 64 ≤ number_after (width_of w) every (new_standing width height) x)
  new_past w every t width height None at e n = tt
  new_past w every t width height (Some x) at e n = subst (λ (y : W). 2 ^ 64 ≤ number_after (width_of y) every (new_standing width height) x) e (n (new_standing width height) at (omega arith))

  pub new_all : (w : W) (every : ℕ) (t : Terminal W) (width height : ℕ) (input old new : Option (List ℕ)) → IsAt t (new_standing width height) → t.surface.grid.widths ≡ w → SendsAll width_of every t input old new
      → IfSome input (λ x. Appends old new (updates_from (width_of w) every (new_standing width height) x))
  new_all w every t width height None old new at e sent = tt
  new_all w every t width height (Some x) old new at e sent = subst (λ (y : W). Appends old new (updates_from (width_of y) every (new_standing width height) x)) e (sent (new_standing width height) at (omega arith))

  pub new_chunks : (w : W) (every : ℕ) (t : Terminal W) (width height : ℕ) (input left old new : Option (List ℕ)) → IsAt t (new_standing width height) → t.surface.grid.widths ≡ w → SendsChunksOf width_of every t input left old new
      → IfSome input (λ x. SendsChunks (width_of w) every (new_standing width height) x left old new)
  new_chunks w every t width height None left old new at e sent = tt
  new_chunks w every t width height (Some x) left old new at e sent = subst (λ (y : W). SendsChunks (width_of y) every (new_standing width height) x left old new) e (sent (new_standing width height) at (omega arith))

  pub new_part : (w : W) (every : ℕ) (t : Terminal W) (width height : ℕ) (input left old new : Option (List ℕ)) → IsAt t (new_standing width height) → t.surface.grid.widths ≡ w → SendsFirst width_of every t input left old new
      → IfSome input (λ x. SendsPart (width_of w) every (new_standing width height) x left old new)
  new_part w every t width height None left old new at e sent = tt
  new_part w every t width height (Some x) left old new at e sent = subst (λ (y : W). SendsPart (width_of y) every (new_standing width height) x left old new) e (sent (new_standing width height) at (omega arith))

-- nothing was read
pub none_read : (rest next : Option (List ℕ)) → Keeps rest next → Consumes rest next []
none_read None next k = tt
none_read (Some x) None k = absurd k
none_read (Some x) (Some y) k = sym k
