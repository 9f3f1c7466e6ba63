use Rattle.std.proofs.Common.{◌≤◌, length, subst, arith}
use Rattle.std.specs.Prelude.{OnOk}
use Rattle.base64.specs.Engines.{standard}
use Rattle.base64.specs.GeneralPurpose.{encoded_size_of, IsEncodedOver}
use Rattle.escape_osc.proofs.AppendLemmas.{base64_over}
use Rattle.escape_osc.proofs.bytes.write_base64.Goals as goal

pub returns : goal.returns
returns c =
    let room : encoded_size_of standard (length c.args.bytes.now) ≤ length c.args.symbols.now = omega (arith, c.requires) in
    base64_over _ _ _ c.requires (subst (λ r. OnOk r (IsEncodedOver standard c.args.bytes.now c.args.symbols.now c.encode_slice-written.new.output)) (c.encode_slice-written.ensures.fits room) c.encode_slice-written.ensures.written)
