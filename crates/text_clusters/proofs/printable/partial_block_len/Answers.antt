use Rattle.std.proofs.Common.{◌≤◌, ◌-◌, arith, length}
use Rattle.std.specs.List.{prefix_len}
use Rattle.text_clusters.specs.Plain.{is_printable}
use Rattle.text_clusters.proofs.LaneLemmas.{block_goes, last_block}
use Rattle.text_clusters.proofs.printable.partial_block_len.Goals as goal

pub returns : goal.returns
returns c =
    let xs = c.args.bytes.now in
    let first = block_goes is_printable 8 xs (omega (arith, c.half_block_len-run.ensures, c.if-run-lt8.false)) in
    let passed : length xs - 8 ≤ prefix_len is_printable xs = omega (arith, first, c.requires) in
    let whole = last_block is_printable 8 (length xs - 8) xs c.after.result.now (omega (arith, c.if-bytes-lt8.false)) (omega arith) c.after.ensures passed in
    omega (arith, whole, c.half_block_len.ensures)
