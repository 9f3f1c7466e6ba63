use Rattle.std.proofs.Common.{arith, ap, length, length-drop}
use Rattle.std.specs.Prelude.{not}
use Rattle.std.specs.List.{prefix_len}
use Rattle.std.specs.Char.{is_ascii_control}
use Rattle.std.proofs.lemmas.List.Sums.{prefix_len-le-length}
use Rattle.text_clusters.proofs.LaneLemmas.{block_stops, block_goes}
use Rattle.text_clusters.proofs.controls.len_before_ascii_control.Goals as goal

pub returns-then-run-lt-LANES : goal.returns-then-run-lt-LANES
returns-then-run-lt-LANES c = omega (arith, c.loop-rest.invariant.within, c.loop-rest.invariant.counted, c.block_len-run.ensures, block_stops (λ byte. not (is_ascii_control byte)) 16 c.loop-rest.rest.now (omega (arith, c.block_len-run.ensures)) (omega arith))

pub loop-rest-preserved : goal.loop-rest-preserved
loop-rest-preserved c =
    let l = ap length c.after-rest.ensures in
    let d = length-drop 16 c.loop-rest.rest.now in
    record {
      within = omega (arith, c.loop-rest.invariant.within, l, d);
      counted = omega (arith, l, d, c.loop-rest.invariant.counted, c.block_len-run.ensures, ap (prefix_len (λ byte. not (is_ascii_control byte))) c.after-rest.ensures, block_goes (λ byte. not (is_ascii_control byte)) 16 c.loop-rest.rest.now (omega (arith, c.block_len-run.ensures)));
    }

pub returns : goal.returns
returns c = omega (arith, c.loop-rest.invariant.within, c.loop-rest.invariant.counted, c.partial_block_len-short.ensures, prefix_len-le-length (λ byte. not (is_ascii_control byte)) c.loop-rest.rest.now)

pub overflow_sub-result-2 : goal.overflow_sub-result-2
overflow_sub-result-2 c = omega (arith, c.partial_block_len-short.ensures, prefix_len-le-length (λ byte. not (is_ascii_control byte)) c.loop-rest.rest.now)
