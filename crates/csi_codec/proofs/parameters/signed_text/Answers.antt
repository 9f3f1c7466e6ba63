use Rattle.std.proofs.Common.{◌≤◌, arith, ap, length}
use Rattle.std.specs.Fmt.{decimal}
use Rattle.std.proofs.lemmas.Fmt.{length-decimal-le}
use Rattle.csi_codec.proofs.parameters.signed_text.Goals.{then-number-lt0, else-number-lt0}
use Rattle.csi_codec.proofs.parameters.signed_text.Goals as goal

pub push_large_number-requires : goal.push_large_number-requires
push_large_number-requires c =
    let digits : length (decimal c.unsigned_abs-size.result) ≤ 20 = length-decimal-le 20 c.unsigned_abs-size.result (omega arith) (omega arith) (omega arith) in
    elim c.if-number-lt0.branch [
      | then-number-lt0 w ↦ omega (arith, w.push_sign.ensures.short, ap length w.text-is, ap length c.new-text.ensures)
      | else-number-lt0 w ↦ omega (arith, ap length w.text-is, ap length c.new-text.ensures)
    ]
