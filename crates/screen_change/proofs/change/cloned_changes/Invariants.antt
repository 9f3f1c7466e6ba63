use Rattle.std.proofs.Common.{◌≡◌, map, take}
use Rattle.screen_change.specs.ValueOf.{value_of}
use Rattle.screen_change.proofs.change.cloned_changes.Given as goal

-- copies of the changes so far
abbrev pub invariant-loop-change : goal.invariant-loop-change
invariant-loop-change l = map value_of l.copies.items ≡ map value_of (take l.change-index l.changes)
