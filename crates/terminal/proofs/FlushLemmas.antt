-- How often a writer is flushed while the updates of a known input are written.
use Rattle.std.proofs.Common.{◌≡◌, ℕ, ◌+◌, ◌<◌, List, [], ◌∷◌, ◌++◌, length, refl, ap, ◌∙◌, arith, Option, Some, None, length-append}
use Rattle.std.specs.Prelude.{IfSome}
use Rattle.std.specs.Io.KnownBytes.{Consumes, IsAtEnd}
use Rattle.terminal.specs.Written.{update_count}
use Rattle.terminal.specs.Watched.{counted, counted_by}
use Rattle.terminal_viewers.specs.Updates.{in_chunks}
use Rattle.terminal_viewers.proofs.ChunkLemmas.{grows, fills}

-- Of an input some chunks are done, with a flush after each, and one has begun.
pub record IsFlushing (every : ℕ) (input rest : List ℕ) (old now left : ℕ) : Type 0 where
  pub done : ℕ
  pub begun : List ℕ
  pub room : length begun + left ≡ every
  pub count : update_count every input ≡ done + length (in_chunks every begun rest)
  pub flushed : counted now ≡ counted_by (done + 1) old

abbrev pub FlushesOn : ℕ → Option (List ℕ) → Option (List ℕ) → ℕ → ℕ → ℕ → Type 0
FlushesOn every None rest old now left = Unit {0}
FlushesOn every (Some input) None old now left = ⊥
FlushesOn every (Some input) (Some rest) old now left = IsFlushing every input rest old now left

pub none_flushed : (every : ℕ) (input : Option (List ℕ)) (old : ℕ) → FlushesOn every input input old old every
none_flushed every None old = tt
none_flushed every (Some input) old = record { done = 0; begun = []; room = omega arith; count = omega arith; flushed = refl }

module _ (every : ℕ) (old now left : ℕ) where
  -- some bytes more, which don't fill the chunk
  pub flushes_more : (input rest next : Option (List ℕ)) (bytes : List ℕ) (less new to : ℕ) → FlushesOn every input rest old now left → Consumes rest next bytes → less + length bytes ≡ left → 0 < less → new ≡ now → to ≡ less
      → FlushesOn every input next old new to
  flushes_more None rest next bytes less new to s c count some e f = tt
  flushes_more (Some input) None next bytes less new to s c count some e f = absurd s
  flushes_more (Some input) (Some rest) None bytes less new to s c count some e f = absurd c
  flushes_more (Some input) (Some rest) (Some next) bytes less new to s c count some e f =
      let room = s.room in
      let long = length-append s.begun bytes in
      record {
        done = s.done;
        begun = s.begun ++ bytes;
        room = omega arith;
        count = s.count ∙ ap (λ l. s.done + length (in_chunks every s.begun l)) c ∙ ap (λ ps. s.done + length ps) (grows every s.begun bytes next (omega arith));
        flushed = ap counted e ∙ s.flushed;
      }

  -- some bytes more, which fill it, and a flush
  pub flushes_next : (input rest next : Option (List ℕ)) (bytes : List ℕ) (new to : ℕ) → FlushesOn every input rest old now left → Consumes rest next bytes → length bytes ≡ left → 0 < left → new ≡ counted now → to ≡ every
      → FlushesOn every input next old new to
  flushes_next None rest next bytes new to s c full some e f = tt
  flushes_next (Some input) None next bytes new to s c full some e f = absurd s
  flushes_next (Some input) (Some rest) None bytes new to s c full some e f = absurd c
  flushes_next (Some input) (Some rest) (Some next) bytes new to s c full some e f =
      let room = s.room in
      let flushed = s.flushed in
      let count : update_count every input ≡ s.done + length ((s.begun ++ bytes) ∷ in_chunks every [] next)
      = s.count ∙ ap (λ l. s.done + length (in_chunks every s.begun l)) c ∙ ap (λ ps. s.done + length ps) (fills every s.begun bytes next (omega arith) (omega arith)) in
      record {
        done = s.done + 1;
        begun = [];
        room = omega (arith, f);
        count = omega (arith, count);
        flushed = omega (arith, e, flushed);
      }

  -- the flush at the end of the input
  pub flushes_all : (input rest next : Option (List ℕ)) (new : ℕ) → FlushesOn every input rest old now left → Consumes rest next [] → IsAtEnd next → new ≡ counted now
      → IfSome input (λ x. new ≡ counted_by (update_count every x) old)
  flushes_all None rest next new s c n e = tt
  flushes_all (Some input) None next new s c n e = absurd s
  flushes_all (Some input) (Some rest) None new s c n e = absurd c
  flushes_all (Some input) (Some rest) (Some next) new s c n e =
      let flushed = s.flushed in
      let count : update_count every input ≡ s.done + 1 = s.count ∙ ap (λ l. s.done + length (in_chunks every s.begun l)) (c ∙ n) in
      omega (arith, e, flushed, count)
