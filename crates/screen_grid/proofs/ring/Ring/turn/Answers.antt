use Rattle.std.proofs.Common.{◌+◌, refl, arith}
use Rattle.screen_grid.proofs.RingLemmas.{as_many, turned_on}
use Rattle.screen_grid.proofs.ring.Ring.turn.Goals as goal

pub returns-then-self-len-clause-len : goal.returns-then-self-len-clause-len
returns-then-self-len-clause-len g c =
    let inside = c.self.inside in
    let n = inside.items.ok.0 in
    let v = c.self.invariant in
    let t = c.if-self-len.true in
    as_many inside.items.items inside.items.items c.args.self.now inside.start (inside.start + 1) inside.len c.self.view_is (omega arith) refl (omega arith)

pub returns-then-self-len-clause-prefix : goal.returns-then-self-len-clause-prefix
returns-then-self-len-clause-prefix g c =
    let inside = c.self.inside in
    let n = inside.items.ok.0 in
    let v = c.self.invariant in
    turned_on inside.items.items c.args.self.now inside.start inside.len c.self.view_is c.requires (omega arith)
