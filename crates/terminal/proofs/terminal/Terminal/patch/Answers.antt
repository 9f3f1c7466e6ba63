use Rattle.std.proofs.Common.{◌∙◌, sym}
use Rattle.terminal.proofs.terminal.Terminal.patch.Goals as goal

pub patch_from-requires-clause-width : goal.patch_from-requires-clause-width
patch_from-requires-clause-width g c = c.requires.width ∙ sym c.in_ok-settle.ensures.width

pub patch_from-requires-clause-height : goal.patch_from-requires-clause-height
patch_from-requires-clause-height g c = c.requires.height ∙ sym c.in_ok-settle.ensures.height
