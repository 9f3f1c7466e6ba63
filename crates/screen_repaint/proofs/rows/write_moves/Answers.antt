use Rattle.std.proofs.Common.{◌+◌, refl, ◌∙◌}
use Rattle.screen_repaint.proofs.PaintLemmas.{moved_more}
use Rattle.screen_repaint.proofs.rows.write_moves.Goals as goal

pub loop-preserved : goal.loop-preserved
loop-preserved c =
    c.in_ok-push_change.ensures ∙ moved_more c.loop.counter (c.loop.counter + 1) c.loop.writer c.args.writer.now _ refl refl c.loop.invariant
