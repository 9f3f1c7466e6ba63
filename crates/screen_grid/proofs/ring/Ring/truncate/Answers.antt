use Rattle.screen_grid.proofs.RingLemmas.{first_left}
use Rattle.screen_grid.proofs.ring.Ring.truncate.Goals as goal

pub returns : goal.returns
returns g c =
    let inside = c.self.inside in
    first_left inside.items.items c.truncate.new.self.items c.args.self.now inside.start inside.len c.args.len c.min-self-inside.result c.min-self-inside.ensures c.truncate.ensures.items c.self.view_is
