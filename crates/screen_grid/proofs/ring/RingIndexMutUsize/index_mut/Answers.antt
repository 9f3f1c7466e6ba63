use Rattle.std.proofs.Common.{◌<◌, ◌≤◌, ◌+◌, length, refl, arith}
use Rattle.std.proofs.lemmas.List.{places}
use Rattle.screen_grid.proofs.RingLemmas.{counted, one_lent}
use Rattle.screen_grid.proofs.ring.RingIndexMutUsize.index_mut.Goals as goal

pub returns : goal.returns
returns g c =
    let inside = c.self.inside in
    let n = inside.items.ok.0 in
    let v = c.self.invariant in
    let within : inside.start + inside.len ≤ length inside.items.items = omega arith in
    let count = counted inside.items.items c.args.self.now inside.start inside.len within c.self.view_is in
    let r = c.requires in
    let below : c.args.at < inside.len = omega arith in
    let set_to = λ (w : g.row.T.Denot). one_lent inside.items.items inside.start inside.len c.args.at w below within in (
      (refl {a = c.index_mut.result.ghost_name}, λ w. rw (← c.self.view_is) (set_to w)),
      record { writes_back = tt; value = grind (arith, places) },
    )
