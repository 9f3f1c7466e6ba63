use Rattle.std.proofs.Common.{leb, eqb, cond, refl, take, arith}
use Rattle.std.specs.Prelude.{not, bit_or}
use Rattle.std.specs.Char.{is_ascii_control}
use Rattle.std.proofs.lemmas.List.{length-take-le}
use Rattle.text_clusters.proofs.LaneLemmas.{joined, splat_is, itself, run_len, take_fits}
use Rattle.text_clusters.proofs.controls.block_len.Goals as goal

pub returns : goal.returns
returns c =
    let v = take 16 c.args.bytes.now in
    let long = length-take-le 16 c.args.bytes.now c.requires in
    run_len (λ byte. not (is_ascii_control byte)) v _ 16 _ long (omega arith) (take_fits 16 c.args.bytes.now c.type_inv.bytes) c.first_set.ensures _
    (joined bit_or _ _ v (joined (λ a b. cond (leb a b) 255 0) _ _ v (itself v) (splat_is v 16 31 long)) (joined (λ a b. cond (eqb a b) 255 0) _ _ v (itself v) (splat_is v 16 127 long))) refl
