use Rattle.std.proofs.Common.{◌+◌, ◌++◌, ◌≤◌, arith, ap, sym, ◌∙◌}
use Rattle.std.specs.Prelude.{encode_utf8}
use Rattle.csi_codec.proofs.TextSteps.{pair_put, pair_stays, has_room}
use Rattle.csi_codec.proofs.text.SequenceText.push_pair.Goals as goal

pub invariant_of-self : goal.invariant_of-self
invariant_of-self c =
    let room : c.self.inside.len + 2 ≤ 32 = has_room c.args.self.now c.self.inside.bytes c.self.inside.len 2 (sym c.self.view_is) (omega arith) c.requires.room in
    (room, pair_stays c.self.inside.bytes c.self.inside.len c.args.byte (omega arith) c.requires.wide (omega arith) c.self.invariant.1)

pub returns : goal.returns
returns c =
    let room : c.self.inside.len + 2 ≤ 32 = has_room c.args.self.now c.self.inside.bytes c.self.inside.len 2 (sym c.self.view_is) (omega arith) c.requires.room in
    pair_put c.self.inside.bytes c.self.inside.len c.args.byte (omega arith) c.requires.wide (omega arith) ∙ ap (λ it. it ++ encode_utf8 c.args.byte) c.self.view_is
