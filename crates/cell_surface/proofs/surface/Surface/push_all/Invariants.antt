use Rattle.std.proofs.Common.{map}
use Rattle.std.specs.Vec.Iter.{into_iter_items}
use Rattle.screen_change.specs.ValueOf.{value_of}
use Rattle.cell_surface.specs.Surface.{AddsOn}
use Rattle.cell_surface.proofs.surface.Surface.push_all.Given as goal

-- with the changes that are left all are added
abbrev pub invariant-loop-change : goal.invariant-loop-change
invariant-loop-change g l = AddsOn (g.W.Widths.width_of l.initial.self.grid.widths) l.initial.self l.self (map value_of l.fn.changes.items) (map value_of (into_iter_items l.change-iterator))
