-- When bytes are open: some continuation makes a longer segment of them.
use Rattle.std.specs.Prelude.{◌≡◌, ◌≢◌, ℕ, List, [], ◌++◌}
use Rattle.escape_framing.specs.Segment.{Segment, Tail, bytes_of, bytes_of_tail, IsSegment, IsUnfinished}

-- the bytes are what is open in a tail that is unfinished
pub record IsOpen (bytes : List ℕ) : Type 0 where
  pub tail : Tail
  pub unfinished : IsUnfinished tail
  pub is : bytes_of_tail tail ≡ bytes

-- a segment that may come before some bytes has more bytes, and these are its first
pub record IsLengthened (bytes : List ℕ) : Type 0 where
  pub segment : Segment
  pub more : List ℕ
  pub following : List ℕ
  pub stands : IsSegment segment following
  pub is : bytes_of segment ≡ bytes ++ more
  pub longer : more ≢ []
