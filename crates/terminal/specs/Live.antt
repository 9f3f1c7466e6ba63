-- What `run_live` writes: an update after each read that brought bytes, before the next read.
use Rattle.std.specs.Prelude.{◌≡◌, ◌⊎◌, ℕ, ◌+◌, ◌<◌, ◌≤◌, ◌^◌, Bool, true, List, [], ◌∷◌, ◌++◌, length, Option, IsTrue}
use Rattle.std.specs.List.{AllByRecursion, flat_map}
use Rattle.std.specs.Io.KnownBytes.{Appends, Consumes}
use Rattle.terminal.specs.Fed.{AnswersNow}
use Rattle.terminal.specs.Refusals.{FeedTakesMemory, LookTakesMemory}
use Rattle.terminal.specs.Shown.{AppendsPrefix}
use Rattle.terminal.specs.Terminal.{Terminal}
use Rattle.terminal.specs.Watched.{Watched, counted}
use Rattle.terminal.specs.Written.{IsAt, IsCounted}
use Rattle.terminal_table.specs.History.{Piece}
use Rattle.terminal_viewers.specs.Updates.{Standing, looks, standing_after, updates_after}

-- a piece is what one read brings
abbrev pub IsPiece : List ℕ → Type 0
IsPiece bytes = (0 < length bytes) × (length bytes ≤ 4096)

-- Since `old`, from which nothing was read, each of some reads has brought one of the pieces, in their order, and
-- `none` reads have brought no byte.
pub record HasBrought {R : Type 0} (remaining : R → Option (List ℕ)) (pieces : List (List ℕ)) (none : ℕ)
    (old new : Watched R) : Type 0 where
  pub are_pieces : AllByRecursion IsPiece pieces
  pub consumes : Consumes (remaining old.inner) (remaining new.inner) (flat_map (λ piece. piece) pieces)
  pub reads : new.reads ≡ length pieces + none

-- a count that goes up by one for each piece
abbrev pub counted_each : List (List ℕ) → ℕ → ℕ
counted_each [] count = count
counted_each (piece ∷ pieces) count = counted_each pieces (counted count)

-- a terminal is at a standing, with a number for each change that its log keeps
abbrev pub IsCountedAt : {W : Type 0} → Terminal W → Standing → Type 0
IsCountedAt t s = IsAt t s × IsCounted s

-- ---- all updates

-- From each standing that is `first`: after each piece its update was written and flushed, and nothing else was written.
pub record SendsEach {R T : Type 0} (width_of : List ℕ → ℕ) (first : Standing → Type 0)
    (remaining : R → Option (List ℕ)) (contents : T → Option (List ℕ)) (none : ℕ) (reader next_reader : Watched R)
    (writer next_writer : Watched T) : Type 0 where
  pub pieces : List (List ℕ)
  pub brought : HasBrought remaining pieces none reader next_reader
  pub appends : (start : Standing) → first start
      → Appends (contents writer.inner) (contents next_writer.inner) (updates_after width_of start 0 pieces)
  pub flushes : next_writer.flushes ≡ counted_each pieces writer.flushes
  pub flushed : (pieces ≡ []) ⊎ IsTrue next_writer.is_flushed

-- So it was, and the terminal answers viewers, from the current number on, as one that has read the pieces, with a look
-- after each, and keeps all changes.
pub record ReadsEach {R T W : Type 0} (width_of : List ℕ → ℕ) (first : Standing → Type 0)
    (remaining : R → Option (List ℕ)) (contents : T → Option (List ℕ)) (none : ℕ) (reader next_reader : Watched R)
    (writer next_writer : Watched T) (now : Terminal W) : Type 0 where
  pub sends : SendsEach width_of first remaining contents none reader next_reader writer next_writer
  pub answers : (start : Standing) → first start
      → AnswersNow now (standing_after width_of start (looks sends.pieces))

-- ---- where it ends early

-- a part of the last update was written, after all updates before it
pub record IsPartOfLast (width_of : List ℕ → ℕ) (start : Standing) (pieces : List (List ℕ)) (last : List ℕ)
    (old new : Option (List ℕ)) : Type 0 where
  pub written : List ℕ
  pub unwritten : List ℕ
  pub last_is : updates_after width_of start 0 (pieces ++ last ∷ [])
      ≡ updates_after width_of start 0 pieces ++ (written ++ unwritten)
  pub appends : Appends old new (updates_after width_of start 0 pieces ++ written)

-- From each standing that is `first`: after each piece but the last its update was written, and of the update after the
-- last piece a part, which may be none of it. Nothing was read after the last piece.
pub record SendsPartOfLast {R T : Type 0} (width_of : List ℕ → ℕ) (first : Standing → Type 0)
    (remaining : R → Option (List ℕ)) (contents : T → Option (List ℕ)) (reader next_reader : Watched R)
    (writer next_writer : Watched T) : Type 0 where
  pub pieces : List (List ℕ)
  pub last : List ℕ
  pub brought : HasBrought remaining (pieces ++ last ∷ []) 0 reader next_reader
  pub sends : (start : Standing) → first start
      → IsPartOfLast width_of start pieces last (contents writer.inner) (contents next_writer.inner)

-- from each standing that is `first`, a prefix of the updates of the pieces was written
pub record SendsPrefix {R T : Type 0} (width_of : List ℕ → ℕ) (first : Standing → Type 0)
    (remaining : R → Option (List ℕ)) (contents : T → Option (List ℕ)) (reader next_reader : Watched R)
    (writer next_writer : Watched T) : Type 0 where
  pub pieces : List (List ℕ)
  pub none : ℕ
  pub brought : HasBrought remaining pieces none reader next_reader
  pub sends : (start : Standing) → first start
      → AppendsPrefix (contents writer.inner) (contents next_writer.inner) (updates_after width_of start 0 pieces)

-- ---- refusals

-- from each standing that is `first`, the number after the pieces, with a look after each, doesn't fit in 64 bits
pub record PiecesNeedNumber {R : Type 0} (width_of : List ℕ → ℕ) (first : Standing → Type 0)
    (remaining : R → Option (List ℕ)) (reader next_reader : Watched R) : Type 0 where
  pub pieces : List (List ℕ)
  pub brought : HasBrought remaining pieces 0 reader next_reader
  pub past : (start : Standing) → first start
      → 2 ^ 64 ≤ (standing_after width_of start (looks pieces)).log.log.number

-- From each standing that is `first`, feeding the last piece is refused memory; or on a terminal that isn't plain the
-- look after it is; or the number after it, with its look, fits in 64 bits.
pub record LastPieceTakesMemory {R : Type 0} (width_of : List ℕ → ℕ) (first : Standing → Type 0)
    (remaining : R → Option (List ℕ)) (reader next_reader : Watched R) : Type 0 where
  pub pieces : List (List ℕ)
  pub last : List ℕ
  pub brought : HasBrought remaining (pieces ++ last ∷ []) 0 reader next_reader
  pub failed : Bool
  pub why : (start : Standing) → first start
      → FeedTakesMemory width_of (standing_after width_of start (looks pieces)) last failed
      ⊎ LookTakesMemory width_of (standing_after width_of start (looks pieces ++ Piece last ∷ [])) true
      ⊎ ((standing_after width_of start (looks (pieces ++ last ∷ []))).log.log.number < 2 ^ 64)
