-- A reader or a writer that is watched.
use Rattle.std.specs.Prelude.{◌≡◌, ℕ, ◌+◌, ◌^◌, ◌-◌, min, Bool, true, false, ◌&&◌, ◌==◌, not}
use Rattle.std.specs.Prelude.{List, length, Result, Ok, Err}

-- the reader or writer that is watched, whether it has failed, whether it was called after that, how often it was read
-- and how often it was flushed, and whether the last write or flush was a flush that was no fault
pub record Watched (T : Type 0) : Type 0 where
  pub inner : T
  pub has_failed : Bool
  pub has_gone_on : Bool
  pub reads : ℕ
  pub flushes : ℕ
  pub is_flushed : Bool

-- a reader that hasn't failed, and that nothing was read from
pub record IsUnread {R : Type 0} (reader : Watched R) : Type 0 where
  pub not_failed : reader.has_failed ≡ false
  pub unread : reader.reads ≡ 0

-- a count and one more, at most the greatest number of 64 bits
abbrev pub counted : ℕ → ℕ
counted reads = min (reads + 1) (2 ^ 64 - 1)

-- a count and `more`, at most the greatest number of 64 bits
abbrev pub counted_by : ℕ → ℕ → ℕ
counted_by more count = min (count + more) (2 ^ 64 - 1)

-- a write is a fault where it returns an error, and where it takes none of at least one byte
abbrev pub is_fault : {E : Type 0} → List ℕ → Result ℕ E → Bool
is_fault bytes (Ok count) = (count == 0) && not (length bytes == 0)
is_fault bytes (Err error) = true
