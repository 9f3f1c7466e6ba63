use Rattle.std.proofs.Common.{◌∙◌, ◌-◌, ap, sym, length, arith}
use Rattle.std.specs.Prelude.{if◌then◌else◌}
use Rattle.cell_edits.proofs.EndLemmas.{end_is}
use Rattle.cell_edits.proofs.row.last_read.Goals as goal

pub returns-then-is_split-clause-at : goal.returns-then-is_split-clause-at
returns-then-is_split-clause-at c =
    let k = length c.args.cells.now - 1 in
    sym (end_is c.args.cells.now k (omega arith) ∙ ap (λ t. if t then k - 1 else k) (sym c.is_split.ensures ∙ c.if-is_split.true))

pub returns-else-is_split-clause-at : goal.returns-else-is_split-clause-at
returns-else-is_split-clause-at c =
    let k = length c.args.cells.now - 1 in
    sym (end_is c.args.cells.now k (omega arith) ∙ ap (λ t. if t then k - 1 else k) (sym c.is_split.ensures ∙ c.if-is_split.false))
