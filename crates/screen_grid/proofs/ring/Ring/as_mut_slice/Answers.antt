use Rattle.std.proofs.Common.{List, refl, rules}
use Rattle.screen_grid.proofs.RingLemmas.{all_lent}
use Rattle.screen_grid.proofs.ring.Ring.as_mut_slice.Goals as goal

pub returns : goal.returns
returns g c =
    let inside = c.self.inside in
    let filled = λ (w : List g.row.T.Denot). all_lent inside.items.items w inside.items.len inside.start inside.len inside.items.ok.0 c.self.invariant in (
      (refl {a = c.slice_mut.result.ghost_name}, λ w. rw (← c.self.view_is) (filled w)),
      record { writes_back = tt; value = search rules },
    )
