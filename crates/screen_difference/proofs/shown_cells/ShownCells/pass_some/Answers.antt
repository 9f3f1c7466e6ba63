use Rattle.std.proofs.Common.{◌∙◌, ap, sym, arith}
use Rattle.screen_difference.specs.ShownCells.{from_column, shown_left}
use Rattle.screen_difference.proofs.SideLemmas.{from_each}
use Rattle.screen_difference.proofs.shown_cells.ShownCells.pass_some.Goals as goal

pub returns-in-Some-clause-left : goal.returns-in-Some-clause-left
returns-in-Some-clause-left c =
    let most = c.in-Some.ensures.some in
    let before = c.requires.before in
    sym (ap (from_column c.args.column) c.in-Some.ensures.left
    ∙ from_each c.args.column c.args.self.now.column c.in-Some._text.now c.in-Some._attrs.now (shown_left c.pass_plain.new.self) (omega arith))
