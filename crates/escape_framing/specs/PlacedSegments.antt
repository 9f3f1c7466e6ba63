-- The segments of a stream with their offsets.
use Rattle.std.specs.Prelude.{ℕ, ◌+◌, ◌≤◌, List, [], ◌∷◌, length, Contains}
use Rattle.escape_framing.specs.Segment.{Segment, bytes_of}
use Rattle.escape_framing.specs.Cut.{the_cut}

-- segments after `count` bytes, each with the count of the bytes before it
abbrev pub segments_from : ℕ → List Segment → List (ℕ × Segment)
segments_from count [] = []
segments_from count (segment ∷ segments) = (count, segment) ∷ segments_from (count + length (bytes_of segment)) segments

-- the segments of a stream, in order, each with the count of the stream's bytes before it; its seven-bit form has as
-- many
abbrev pub placed_segments : List ℕ → List (ℕ × Segment)
placed_segments stream = segments_from 0 (the_cut stream).segments

-- the segment is one of the stream's, and lies between two offsets
pub record LiesBetween (stream : List ℕ) (from to : ℕ) (segment : Segment) : Type 0 where
  pub offset : ℕ
  pub stands : Contains (placed_segments stream) (offset, segment)
  pub after : from ≤ offset
  pub before : offset + length (bytes_of segment) ≤ to
