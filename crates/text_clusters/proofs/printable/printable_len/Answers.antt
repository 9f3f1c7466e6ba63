use Rattle.std.proofs.Common.{◌≤◌, ◌-◌, arith, ap, length, length-drop}
use Rattle.std.specs.List.{prefix_len}
use Rattle.text_clusters.specs.Plain.{is_printable}
use Rattle.text_clusters.proofs.LaneLemmas.{block_stops, block_goes, last_block}
use Rattle.text_clusters.proofs.printable.printable_len.Goals as goal

pub returns-then-run-lt-LANES : goal.returns-then-run-lt-LANES
returns-then-run-lt-LANES c = omega (arith, c.loop-rest.invariant.within, c.loop-rest.invariant.counted, c.block_len-run.ensures, block_stops is_printable 16 c.loop-rest.rest.now (omega (arith, c.block_len-run.ensures)) (omega arith))

pub loop-rest-preserved : goal.loop-rest-preserved
loop-rest-preserved c =
    let l = ap length c.after-rest.ensures in
    let d = length-drop 16 c.loop-rest.rest.now in
    record {
      within = omega (arith, c.loop-rest.invariant.within, l, d);
      counted = omega (arith, l, d, c.loop-rest.invariant.counted, c.block_len-run.ensures, ap (prefix_len is_printable) c.after-rest.ensures, block_goes is_printable 16 c.loop-rest.rest.now (omega (arith, c.block_len-run.ensures)));
    }

pub returns : goal.returns
returns c =
    let xs = c.args.bytes.now in
    let passed : length xs - 16 ≤ prefix_len is_printable xs = omega (arith, c.loop-rest.invariant.within, c.loop-rest.invariant.counted) in
    let whole = last_block is_printable 16 (length xs - 16) xs c.after.result.now (omega (arith, c.if-bytes-lt-LANES.false)) (omega arith) c.after.ensures passed in
    omega (arith, whole, c.block_len.ensures)
