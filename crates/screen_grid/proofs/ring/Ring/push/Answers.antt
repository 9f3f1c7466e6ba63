use Rattle.std.proofs.Common.{List, [], ◌∷◌, ◌++◌, ap, ◌∙◌, arith}
use Rattle.screen_grid.proofs.RingLemmas.{one_after}
use Rattle.screen_grid.proofs.ring.Ring.push.Goals as goal

pub returns-clause-done : goal.returns-clause-done
returns-clause-done g c =
    let inside = c.self.inside in
    let n = inside.items.ok.0 in
    let v = c.self.invariant in
    one_after inside.items.items c.store.new.items.items inside.start inside.len c.args.item (omega arith) c.in_ok-store.ensures.stored
    ∙ ap (λ (l : List g.row.T.Denot). l ++ c.args.item ∷ []) c.self.view_is
