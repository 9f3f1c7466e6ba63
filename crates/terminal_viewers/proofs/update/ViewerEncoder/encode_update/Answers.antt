use Rattle.std.proofs.Common.{ap, map, ◌∙◌}
use Rattle.screen_change.specs.ValueOf.{value_of}
use Rattle.cell_surface.specs.Surface.{shown_by}
use Rattle.terminal_viewers.proofs.UpdateLemmas.{lent_spelled, made_spelled}
use Rattle.terminal_viewers.proofs.update.ViewerEncoder.encode_update.Goals as goal

pub encode_all-requires : goal.encode_all-requires
encode_all-requires g c =
    lent_spelled (shown_by c.args.surface.now) c.args.surface.now.log c.args.number c.args.self.now.width c.args.self.now.height c.requires.width c.requires.height
    (map value_of c.in-Some.changes.now) c.in-Some.ensures c.requires.sendable.kept

pub encode_repaint-requires-clause-spelled : goal.encode_repaint-requires-clause-spelled
encode_repaint-requires-clause-spelled g c =
    made_spelled (shown_by c.args.surface.now) c.args.surface.now.log c.args.number c.args.self.now.width c.args.self.now.height c.requires.width c.requires.height
    c.requires.lawful c.requires.sendable.shapeless c.in_default.ensures (map value_of c.as_slice.result.now) (ap (map value_of) c.as_slice.ensures.value ∙ c.in_ok-changes.ensures) c.requires.sendable.spelled
