-- An input in chunks, as its bytes come.
use Rattle.std.proofs.Common.{◌≡◌, ℕ, ◌+◌, ◌<◌, Bool, true, false, List, [], ◌∷◌, ◌++◌, length, fold, sym, ap, ◌∙◌, arith, append_assoc, append-nil, length-append}
use Rattle.std.specs.Prelude.{◌==◌, if◌then◌else◌}
use Rattle.std.proofs.lemmas.Bool.Decides.{nat_tests}
use Rattle.std.proofs.lemmas.List.Sums.{fold-append}
use Rattle.screen_log.specs.LogSteps.{step_of_kept}
use Rattle.terminal_table.specs.History.{History, Piece}
use Rattle.terminal_table.specs.Logged.{logged}
use Rattle.terminal_table.specs.Meaning.{after}
use Rattle.terminal_table.proofs.JoinLemmas.{PiecesJoin, after_joins, cut_after, cut_logged, logged_joins}
use Rattle.terminal_viewers.specs.Updates.{Standing, in_chunks, standing_after}

-- ---- chunks of an input

-- one byte more, which fills the chunk or doesn't
byte_more : (every : ℕ) (begun : List ℕ) (byte : ℕ) (input : List ℕ) (full : Bool) → (length begun + 1 == every) ≡ full
    → in_chunks every begun (byte ∷ input) ≡ (if full then (begun ++ byte ∷ []) ∷ in_chunks every [] input else in_chunks every (begun ++ byte ∷ []) input)
byte_more every begun byte input full e = ap (λ b. if b then (begun ++ byte ∷ []) ∷ in_chunks every [] input else in_chunks every (begun ++ byte ∷ []) input) e

-- bytes that don't fill the chunk that has begun
pub grows : (every : ℕ) (begun bytes rest : List ℕ) → length begun + length bytes < every → in_chunks every begun (bytes ++ rest) ≡ in_chunks every (begun ++ bytes) rest
grows every begun [] rest h = ap (λ xs. in_chunks every xs rest) (sym (append-nil begun))
grows every begun (byte ∷ bytes) rest h =
    let long = length-append begun (byte ∷ []) in
    byte_more every begun byte (bytes ++ rest) false (grind (arith, nat_tests))
    ∙ grows every (begun ++ byte ∷ []) bytes rest (omega arith)
    ∙ ap (λ xs. in_chunks every xs rest) (append_assoc begun (byte ∷ []) bytes)

-- bytes that fill it
pub fills : (every : ℕ) (begun bytes rest : List ℕ) → 0 < length bytes → length begun + length bytes ≡ every → in_chunks every begun (bytes ++ rest) ≡ (begun ++ bytes) ∷ in_chunks every [] rest
fills every begun [] rest some h = absurd (omega arith)
fills every begun (byte ∷ []) rest some h = byte_more every begun byte rest true (grind (arith, nat_tests))
fills every begun (byte ∷ other ∷ bytes) rest some h =
    let long = length-append begun (byte ∷ []) in
    byte_more every begun byte (other ∷ (bytes ++ rest)) false (grind (arith, nat_tests))
    ∙ fills every (begun ++ byte ∷ []) (other ∷ bytes) rest (omega arith) (omega arith)
    ∙ ap (λ (xs : List ℕ). xs ∷ in_chunks every [] rest) (append_assoc begun (byte ∷ []) (other ∷ bytes))

-- ---- where histories lead

pub standings_join : (width_of : List ℕ → ℕ) (s : Standing) (a b : History) → standing_after width_of s (a ++ b) ≡ standing_after width_of (standing_after width_of s a) b
standings_join width_of s a b = λ i. record {
  view = after_joins width_of s.view a b i;
  log = (ap (fold step_of_kept s.log) (logged_joins width_of s.view a b) ∙ fold-append step_of_kept s.log (logged width_of s.view a) (logged width_of (after width_of s.view a) b)) i;
}

-- a chunk may be fed in two
pub standings_cut : PiecesJoin → (width_of : List ℕ → ℕ) (s : Standing) (x y : List ℕ) (history : History) → standing_after width_of s (Piece x ∷ Piece y ∷ history) ≡ standing_after width_of s (Piece (x ++ y) ∷ history)
standings_cut joins width_of s x y history = λ i. record { view = cut_after joins width_of s.view x y history i; log = fold step_of_kept s.log (cut_logged joins width_of s.view x y history i) }
