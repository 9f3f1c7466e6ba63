use Rattle.std.proofs.Common.{arith}
use Rattle.std.proofs.lemmas.Fmt.{decimal_nonempty}
use Rattle.csi_codec.proofs.TextSteps.{after_prefix, digit_after, has_small_room, has_last_room}
use Rattle.csi_codec.proofs.text.SequenceText.+push_large_number.Goals as goal

pub push_small_number-requires : goal.push_small_number-requires
push_small_number-requires t c = has_small_room _ c.args.number (decimal_nonempty c.args.number (omega arith)) c.requires

pub push_large_number-requires : goal.push_large_number-requires
push_large_number-requires t c =
    let prefix = after_prefix c.args.number (omega arith) (omega arith) in
    (omega arith, omega arith)

pub push_sign-requires-clause-room : goal.push_sign-requires-clause-room
push_sign-requires-clause-room t c = has_last_room _ _ c.args.number (omega arith) (omega arith) c.push_large_number.ensures c.requires

pub returns-else-number-lt256 : goal.returns-else-number-lt256
returns-else-number-lt256 t c = digit_after _ _ _ c.args.number (omega arith) (omega arith) c.push_large_number.ensures c.push_sign.ensures.byte
