use Rattle.std.proofs.Common.{◌∙◌, ap, length, arith}
use Rattle.std.specs.Prelude.{◌==◌, ◌&&◌}
use Rattle.text_clusters.specs.Plain.{is_printable}
use Rattle.text_clusters.proofs.LaneLemmas.{all_by_len, both_blocks}
use Rattle.text_clusters.proofs.printable.eight_are_printable.Goals as goal

pub returns-then-bytes-lt4 : goal.returns-then-bytes-lt4
returns-then-bytes-lt4 c = ap (λ n. n == length c.args.bytes.now) c.short_len.ensures ∙ all_by_len is_printable c.args.bytes.now

pub returns : goal.returns
returns c =
    let xs = c.args.bytes.now in
    (λ i. c.quarter_block_len.ensures i == 4 && c.quarter_block_len-2.ensures i == 4)
    ∙ both_blocks is_printable 4 xs c.after-last.result.now (omega (arith, c.if-bytes-lt4.false)) (omega (arith, c.requires)) c.after-last.ensures
