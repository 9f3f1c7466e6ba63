-- The cut of a stream, and the dispatches that it decides.
use Rattle.std.specs.Prelude.{ℕ, List, [], length, drop, ◌++◌}
use Rattle.std.specs.List.{flat_map}
use Rattle.escape_framing.specs.SevenBit.{seven_bit}
use Rattle.escape_framing.specs.Segment.{Tail, Begun}
use Rattle.escape_framing.specs.Dispatch.{Dispatch, dispatches_of, decided_of}
use Rattle.escape_framing.specs.Decode.{Reading, read_on}

-- The cut of the stream, as the plain reading of its seven-bit form gives it. The law `one_cut` says that it is a cut,
-- and that the stream has no other.
unfoldable pub the_cut : List ℕ → Reading
the_cut stream = read_on (Begun []) (seven_bit stream)

-- the bytes at the end that later bytes may still make a segment of
abbrev pub tail_of : List ℕ → Tail
tail_of stream = (the_cut stream).tail

-- the dispatches that are decided, however the stream goes on: those of its segments, and those of what is open
abbrev pub dispatches : List ℕ → List Dispatch
dispatches stream = flat_map dispatches_of (the_cut stream).segments ++ decided_of (tail_of stream)

-- the dispatches that are decided once more bytes follow a stream
abbrev pub newly_decided : List ℕ → List ℕ → List Dispatch
newly_decided stream more = drop (length (dispatches stream)) (dispatches (stream ++ more))
