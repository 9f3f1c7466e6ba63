use Rattle.std.proofs.Common.{◌≡◌, map}
use Rattle.std.specs.Vec.Iter.{into_iter_items}
use Rattle.screen_change.specs.ValueOf.{value_of}
use Rattle.change_sequence.proofs.AddLemmas.{HasAdded}
use Rattle.change_sequence.proofs.sequence.ChangeSequence.push_all.Given as goal

-- all but those that are left were added
abbrev pub invariant-loop-change : goal.invariant-loop-change
invariant-loop-change g l =
    HasAdded (g.W.Widths.width_of l.initial.self.widths) l.initial.self l.self (map value_of l.fn.changes.items) (map value_of (into_iter_items l.change-iterator))
    × (l.self.widths ≡ l.initial.self.widths)
