use Rattle.std.proofs.Common.{◌∙◌, arith}
use Rattle.std.specs.Prelude.{◌==◌, ◌&&◌}
use Rattle.text_clusters.specs.Plain.{is_printable}
use Rattle.text_clusters.proofs.LaneLemmas.{both_blocks}
use Rattle.text_clusters.proofs.printable.sixteen_are_printable.Goals as goal

pub returns : goal.returns
returns c =
    let xs = c.args.bytes.now in
    (λ i. c.half_block_len.ensures i == 8 && c.half_block_len-2.ensures i == 8)
    ∙ both_blocks is_printable 8 xs c.after-last.result.now (omega (arith, c.if-bytes-lt8.false)) (omega (arith, c.requires)) c.after-last.ensures
