use Rattle.std.proofs.Common.{arith}
use Rattle.clustered_row.proofs.StepLemmas.{next_position_read}
use Rattle.clustered_row.proofs.fast.equal_columns.position_within.Goals as goal

pub loop-position-preserved : goal.loop-position-preserved
loop-position-preserved c =
    let now = c.loop-position.position in
    let x = c.index-sizes-position.result in
    let next = c.after-position.ensures in
    let invariant = c.loop-position.invariant in
    let fit = c.fits.ensures c.if-not-fits.false in
    record {
      position = next_position_read c.args.sizes.now now c.after-position.result x invariant.position (omega (arith, c.loop-position-test.true, c.requires)) c.index-sizes-position.is next.index next.bytes next.columns;
      index = omega (arith, next.index, c.loop-position-test.true);
      bytes = omega (arith, next.bytes, fit.0, invariant.bytes);
      columns = omega (arith, next.columns, fit.1, invariant.columns);
    }
