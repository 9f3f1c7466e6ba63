-- the bytes so far, then those of the actions left, are the whole result; the initial bytes are a prefix of the bytes so far
use Rattle.std.proofs.Common.{◌≡◌, ◌++◌, length, take, drop}
use Rattle.escape_stream.specs.StreamText.{stream_text}
use Rattle.terminal_render.specs.BorrowedActionView.{borrowed_values}
use Rattle.terminal_render.proofs.actions.Actions.append_to.Given as goal

abbrev pub invariant-loop-action : goal.invariant-loop-action
invariant-loop-action l =
    (l.bytes.items ++ stream_text (borrowed_values (drop l.action-index l.action-items)) ≡ l.initial.bytes.items ++ stream_text (borrowed_values l.action-items))
    × (take (length l.initial.bytes.items) l.bytes.items ≡ l.initial.bytes.items)
