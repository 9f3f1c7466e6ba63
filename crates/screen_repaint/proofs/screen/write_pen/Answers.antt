use Rattle.std.proofs.Common.{◌∙◌}
use Rattle.screen_repaint.proofs.ScreenLemmas.{pen_written}
use Rattle.screen_repaint.proofs.screen.write_pen.Goals as goal

pub returns : goal.returns
returns c = c.in_ok-set_attributes.ensures ∙ pen_written c.args.pen.now c.args.writer.now c.requires
