use Rattle.std.proofs.Common.{◌+◌, ◌≤◌, arith, sym}
use Rattle.csi_codec.proofs.TextSteps.{ascii_stays, has_room}
use Rattle.csi_codec.proofs.text.SequenceText.push_sign.Goals as goal

pub invariant_of-self : goal.invariant_of-self
invariant_of-self c =
    let room : c.self.inside.len + 1 ≤ 32 = has_room c.args.self.now c.self.inside.bytes c.self.inside.len 1 (sym c.self.view_is) (omega arith) (omega arith) in
    (room, ascii_stays c.self.inside.bytes c.self.inside.len c.args.byte (omega arith) c.requires.ascii c.self.invariant.1)
