use Rattle.std.proofs.Common.{arith}
use Rattle.screen_change.specs.ValueOf.{value_of}
use Rattle.cell_surface.specs.Surface.{shown_by}
use Rattle.terminal_viewers.specs.Update.{as_encoded}
use Rattle.terminal_viewers.proofs.EncodedLemmas.{spelled_in}
use Rattle.terminal_viewers.proofs.update.ViewerEncoder.encode_repaint.Goals as goal

pub encode_painted-requires-clause-spelled : goal.encode_painted-requires-clause-spelled
encode_painted-requires-clause-spelled g c =
    spelled_in c.args.self.now.width c.args.self.now.height value_of (as_encoded (shown_by c.args.surface.now).screen) c.args.changes.now c.loop-change.change-index c.change-item.result (omega arith) c.change-item.is c.requires.spelled
