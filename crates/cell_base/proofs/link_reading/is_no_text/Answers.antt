use Rattle.std.proofs.Common.{◌∙◌, sym, arith}
use Rattle.std.proofs.lemmas.Bool.{ne_eqb}
use Rattle.cell_base.proofs.ReadingSteps.{joined_some}
use Rattle.cell_base.proofs.link_reading.is_no_text.Goals as goal

pub returns-else-parts-eq1 : goal.returns-else-parts-eq1
returns-else-parts-eq1 c =
    let some = joined_some (λ p. p.now) 59 c.args.parts.now (omega arith) in
    ne_eqb _ 1 c.if-parts-eq1.false ∙ sym (ne_eqb _ 0 (λ e. absurd (omega arith)))
