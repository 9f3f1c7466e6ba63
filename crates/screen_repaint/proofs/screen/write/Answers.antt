use Rattle.std.proofs.Common.{[], ◌∷◌, ap, ◌∙◌}
use Rattle.screen_change.specs.ValueOf.{value_of}
use Rattle.screen_repaint.specs.PaintedRows.{with_changes}
use Rattle.screen_repaint.proofs.PaintLemmas.{ended_is, one_change}
use Rattle.screen_repaint.proofs.screen.write.Goals as goal

pub returns : goal.returns
returns c =
    c.in_ok-push_change.ensures
    ∙ one_change (value_of c.args.change) c.args.writer.now c.requires.pen
    ∙ ap (with_changes (value_of c.args.change ∷ [])) (ended_is c.args.writer.now c.requires.ended)
