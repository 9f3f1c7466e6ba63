-- the actions so far are those of the prefix
use Rattle.std.proofs.Common.{◌≡◌, map, take}
use Rattle.escape_stream.specs.StreamActionView.{value_of}
use Rattle.terminal_render.specs.BorrowedActionView.{borrowed_values}
use Rattle.terminal_render.proofs.actions.Actions.to_vec.Given as goal

abbrev pub invariant-loop-action : goal.invariant-loop-action
invariant-loop-action l = map value_of l.actions.items ≡ borrowed_values (take l.action-index l.action-items)
