use Rattle.std.proofs.Common.{◌<◌, length, arith}
use Rattle.screen_effects.proofs.TextLemmas.{control_boundary}
use Rattle.screen_effects.proofs.text.split_control.Goals as goal

pub split_at-requires : goal.split_at-requires
split_at-requires c =
    let some : 0 < length c.args.text.now = search (arith, c.in_ok-control.ensures, c.as_bytes.ensures) in
    control_boundary c.args.text.now c.utf8.text c.requires some
