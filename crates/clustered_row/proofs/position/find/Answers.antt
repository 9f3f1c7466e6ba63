use Rattle.std.proofs.Common.{◌≡◌, ◌+◌, ◌-◌, arith, refl}
use Rattle.clustered_row.specs.Sizes.{width_of}
use Rattle.clustered_row.specs.declared.position.Position.{Position}
use Rattle.clustered_row.proofs.StepLemmas.{next_read, next_position_read}
use Rattle.clustered_row.proofs.position.find.Goals as goal

pub overflow_add-bytes : goal.overflow_add-bytes
overflow_add-bytes c =
    let now : Position = record { index = c.loop-index.index; bytes = c.loop-index.bytes; columns = c.args.at - c.loop-index.left } in
    let k = (next_read c.args.sizes.now now c.index-sizes-index.result c.loop-index.invariant.position c.loop-index-test.true c.index-sizes-index.is).0 in
    omega (arith, k, c.requires.bytes)

pub loop-index-preserved : goal.loop-index-preserved
loop-index-preserved c =
    let i = c.loop-index.index in
    let x = c.index-sizes-index.result in
    let left = c.loop-index.left in
    let now : Position = record { index = i; bytes = c.loop-index.bytes; columns = c.args.at - left } in
    let next : Position = record { index = i + 1; bytes = c.loop-index.bytes + x.len; columns = c.args.at - (left - c.columns-left.result) } in
    let columns : c.args.at - (left - c.columns-left.result) ≡ c.args.at - left + width_of x.is_wide =
    omega (arith, c.columns-left.ensures, c.columns.ensures, c.if-left-columns.false, c.loop-index.invariant.left) in
    record {
      position = next_position_read c.args.sizes.now now next x c.loop-index.invariant.position c.loop-index-test.true c.index-sizes-index.is refl refl columns;
      order = omega (arith, c.loop-index.invariant.order);
      left = omega (arith, c.loop-index.invariant.left);
    }
