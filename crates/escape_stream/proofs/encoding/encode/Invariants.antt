-- The bytes so far, and the texts of the remaining actions, are the bytes of the whole list.
use Rattle.std.proofs.Common.{◌≡◌, ◌++◌, drop, map}
use Rattle.escape_stream.specs.StreamActionView.{value_of}
use Rattle.escape_stream.specs.StreamText.{texts_after, stream_text}
use Rattle.escape_stream.proofs.encoding.encode.Given as goal

abbrev pub invariant-loop-action : goal.invariant-loop-action
invariant-loop-action l = l.bytes.items ++ texts_after l.closed (map value_of (drop l.action-index l.actions)) ≡ stream_text (map value_of l.actions)
