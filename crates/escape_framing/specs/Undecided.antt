-- What a stream leaves undecided.
use Rattle.std.specs.Prelude.{◌≡◌, ◌≢◌, ℕ, List, ◌∷◌}
use Rattle.escape_framing.specs.Dispatch.{Dispatch}
use Rattle.escape_framing.specs.Cut.{newly_decided}

-- The stream can go on so that one dispatch comes next, and so that another does: no further one is decided.
pub record IsUndecided (stream : List ℕ) : Type 0 where
  pub one : List ℕ
  pub other : List ℕ
  pub first : Dispatch
  pub second : Dispatch
  pub after_first : List Dispatch
  pub after_second : List Dispatch
  pub gives_first : newly_decided stream one ≡ first ∷ after_first
  pub gives_second : newly_decided stream other ≡ second ∷ after_second
  pub differ : first ≢ second
