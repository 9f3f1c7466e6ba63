use Rattle.std.proofs.Common.{leb, cond, refl, take, arith}
use Rattle.std.proofs.lemmas.List.{length-take-le}
use Rattle.text_clusters.specs.Plain.{is_printable}
use Rattle.text_clusters.proofs.LaneLemmas.{joined, splat_is, itself, run_len, take_fits}
use Rattle.text_clusters.proofs.printable.quarter_block_len.Goals as goal

pub returns : goal.returns
returns c =
    let v = take 4 c.args.bytes.now in
    let long = length-take-le 4 c.args.bytes.now c.requires in
    run_len is_printable v _ 4 _ long (omega arith) (take_fits 4 c.args.bytes.now c.type_inv.bytes) c.first_set.ensures _
    (joined (λ a b. cond (leb a b) 255 0) _ _ v (splat_is v 4 95 long) (joined _ _ _ v (itself v) (splat_is v 4 32 long))) refl
