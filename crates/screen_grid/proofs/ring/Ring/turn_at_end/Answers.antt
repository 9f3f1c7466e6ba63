use Rattle.std.proofs.Common.{◌≡◌, ◌-◌, ◌++◌, List, length, take, drop, ap, ◌∙◌, arith}
use Rattle.screen_grid.proofs.RingLemmas.{as_many, refilled_by, rotated_prefix, turned_on}
use Rattle.screen_grid.proofs.ring.Ring.turn_at_end.Goals as goal

pub returns-then-self-eq0-clause-len : goal.returns-then-self-eq0-clause-len
returns-then-self-eq0-clause-len g c =
    let inside = c.self.inside in
    let xs = inside.items.items in
    let n = inside.items.ok.0 in
    let v = c.self.invariant in
    let same : length c.rotate.new.items ≡ length xs = c.rotate.ensures.len ∙ ap length c.deref_mut.ensures.value in
    ap (λ (l : List g.row.T.Denot). length (take inside.len (drop inside.start l))) (refilled_by inside.items.len xs c.rotate.new.items n same)
    ∙ as_many xs c.rotate.new.items c.args.self.now inside.start inside.start inside.len c.self.view_is (omega arith) same (omega arith)

pub returns-then-self-eq0-clause-prefix : goal.returns-then-self-eq0-clause-prefix
returns-then-self-eq0-clause-prefix g c =
    let old = c.args.self.now in
    let inside = c.self.inside in
    let xs = inside.items.items in
    let same : length c.rotate.new.items ≡ length xs = c.rotate.ensures.len ∙ ap length c.deref_mut.ensures.value in
    let value = ap (λ (l : List g.row.T.Denot). take inside.len (drop inside.start l)) c.deref_mut.ensures.value ∙ c.self.view_is in
    ap (λ (l : List g.row.T.Denot). take (length old - 1) (take inside.len (drop inside.start l))) (refilled_by inside.items.len xs c.rotate.new.items inside.items.ok.0 same)
    ∙ ap (take (length old - 1)) (c.rotate.ensures.turned ∙ ap (λ (l : List g.row.T.Denot). drop 1 l ++ take 1 l) value)
    ∙ rotated_prefix old

pub returns-clause-len : goal.returns-clause-len
returns-clause-len g c =
    let inside = c.self.inside in
    let xs = inside.items.items in
    let n = inside.items.ok.0 in
    let v = c.self.invariant in
    let t = c.if-self-eq0.false in
    let same : length c.move_to_start.new.items ≡ length xs = c.move_to_start.ensures.len ∙ ap length c.deref_mut-2.ensures.value in
    ap (λ (l : List g.row.T.Denot). length (take inside.len (drop 1 l))) (refilled_by inside.items.len xs c.move_to_start.new.items n same)
    ∙ as_many xs c.move_to_start.new.items c.args.self.now inside.start 1 inside.len c.self.view_is (omega arith) same (omega arith)

pub returns-clause-prefix : goal.returns-clause-prefix
returns-clause-prefix g c =
    let inside = c.self.inside in
    let xs = inside.items.items in
    let n = inside.items.ok.0 in
    let v = c.self.invariant in
    let new = c.move_to_start.new.items in
    let same : length new ≡ length xs = c.move_to_start.ensures.len ∙ ap length c.deref_mut-2.ensures.value in
    let value = ap (λ (l : List g.row.T.Denot). take inside.len (drop inside.start l)) c.deref_mut-2.ensures.value ∙ c.self.view_is in
    ap (λ (l : List g.row.T.Denot). take (length c.args.self.now - 1) (take inside.len (drop 1 l))) (refilled_by inside.items.len xs new n same)
    ∙ turned_on new c.args.self.now 0 inside.len (c.move_to_start.ensures.prefix ∙ value) c.requires.some (omega arith)
