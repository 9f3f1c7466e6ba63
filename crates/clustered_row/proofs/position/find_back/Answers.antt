use Rattle.std.proofs.Common.{arith}
use Rattle.clustered_row.proofs.StepLemmas.{index_order, index_within, last_sums, position_before, some_before, before_next, wide_or_narrow, position_inside, found_split}
use Rattle.clustered_row.proofs.position.find_back.Goals as goal

pub loop-position-init : goal.loop-position-init
loop-position-init c =
    let sizes = c.args.sizes.now in
    record {
      position = c.requires.end;
      order = index_within sizes c.args.from c.args.end c.requires.position c.requires.end (omega arith);
      next = λ d. let some = wide_or_narrow sizes c.args.end.index d in omega (arith, some, c.requires.last);
    }

pub before-position-requires-clause-bytes : goal.before-position-requires-clause-bytes
before-position-requires-clause-bytes c =
    let position = c.loop-position.invariant.position in
    let some = some_before c.args.sizes.now c.loop-position.position c.args.at position c.loop-position-test.true in
    let sums = (last_sums c.args.sizes.now c.loop-position.position c.index-sizes-position.result position some c.index-sizes-position.is).0 in
    omega (arith, sums)

pub before-position-requires-clause-columns : goal.before-position-requires-clause-columns
before-position-requires-clause-columns c =
    let position = c.loop-position.invariant.position in
    let some = some_before c.args.sizes.now c.loop-position.position c.args.at position c.loop-position-test.true in
    let sums = (last_sums c.args.sizes.now c.loop-position.position c.index-sizes-position.result position some c.index-sizes-position.is).1 in
    omega (arith, sums)

pub loop-position-preserved : goal.loop-position-preserved
loop-position-preserved c =
    let sizes = c.args.sizes.now in
    let now = c.loop-position.position in
    let x = c.index-sizes-position.result in
    let position = c.loop-position.invariant.position in
    let before = c.before-position.ensures in
    let some = some_before sizes now c.args.at position c.loop-position-test.true in
    let order = index_order sizes c.args.from now c.requires.position position (omega (arith, c.requires.order, c.loop-position-test.true)) in
    record {
      position = position_before sizes now c.before-position.result x position some c.index-sizes-position.is before.index before.bytes before.columns;
      order = omega (arith, order, before.index);
      next = λ d. before_next sizes now c.before-position.result x d c.args.at position some c.index-sizes-position.is c.loop-position-test.true before.index before.columns;
    }

pub returns-clause-cell : goal.returns-clause-cell
returns-clause-cell c d less =
    let sizes = c.args.sizes.now in
    let now = c.loop-position.position in
    let inside = position_inside sizes now c.args.end c.args.at c.loop-position.invariant.position c.requires.end c.requires.last less in
    found_split sizes now c.args.at d inside less (c.loop-position.invariant.next d)
