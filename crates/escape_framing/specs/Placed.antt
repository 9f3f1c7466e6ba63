-- The placed dispatches of a stream: each with the count of bytes that decides it.
use Rattle.std.specs.Prelude.{◌≡◌, ℕ, ◌+◌, ◌<◌, ◌≤◌, Some, List, [], ◌∷◌, length, take, map, ◌++◌}
use Rattle.std.specs.List.{slice_get}
use Rattle.escape_framing.specs.Dispatch.{Dispatch}
use Rattle.escape_framing.specs.Cut.{dispatches, newly_decided}

-- The first `offset` bytes of the stream decide the dispatch at the index, and fewer don't.
pub record IsPlaced (stream : List ℕ) (index offset : ℕ) (dispatch : Dispatch) : Type 0 where
  -- the stream has at least `offset` bytes
  pub within : offset ≤ length stream
  -- however the stream goes on after `offset` bytes, this dispatch is at the index
  pub decided : (more : List ℕ) → slice_get (dispatches (take offset stream ++ more)) index ≡ Some dispatch
  -- after fewer bytes the stream can go on so that it is not
  pub least : (fewer : ℕ) → fewer < offset
      → ((more : List ℕ) → slice_get (dispatches (take fewer stream ++ more)) index ≡ Some dispatch) → ⊥

-- the placed dispatches of the bytes, after a prefix: the offset of what a byte decides is that after the byte
abbrev pub placed_from : List ℕ → List ℕ → List (ℕ × Dispatch)
placed_from prefix [] = []
placed_from prefix (b ∷ bytes) =
    map (λ d. (length prefix + 1, d)) (newly_decided prefix (b ∷ [])) ++ placed_from (prefix ++ b ∷ []) bytes

-- the dispatches that a stream decides, in order, each with the count of bytes that decides it
abbrev pub placed_dispatches : List ℕ → List (ℕ × Dispatch)
placed_dispatches = placed_from []
