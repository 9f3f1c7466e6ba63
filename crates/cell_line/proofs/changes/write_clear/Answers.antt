use Rattle.std.proofs.Common.{◌++◌, ◌∙◌, List, sym, ap}
use Rattle.screen_change.specs.ChangeValue.{ChangeValue, ClearToEndOfLine}
use Rattle.screen_change.specs.Written.{finished}
use Rattle.screen_change.proofs.RunLemmas.{change_written}
use Rattle.cell_line.proofs.ChangeLemmas.{clear_of}
use Rattle.cell_line.proofs.changes.write_clear.Goals as goal

pub returns-in_ok-push_change-in_default : goal.returns-in_ok-push_change-in_default
returns-in_ok-push_change-in_default c =
    ap finished c.in_ok-push_change-in_default.ensures
    ∙ change_written (ClearToEndOfLine c.args.color) c.args.writer.now
    ∙ ap (λ (cs : List ChangeValue). finished c.args.writer.now ++ cs) (sym (clear_of c.args.color c.in_default.not-Default))
