use Rattle.std.proofs.Common.{◌∙◌, List, ◌∷◌, ap, length, arith}
use Rattle.cell_base.specs.CellContent.{CellContent}
use Rattle.cell_views.specs.ReadCells.{read_from}
use Rattle.cell_views.proofs.ReadLemmas.{read_wide}
use Rattle.cell_views.proofs.read_cells.ReadCellsIterator.next.Goals as goal

pub returns-in-Some-clause-steps : goal.returns-in-Some-clause-steps
returns-in-Some-clause-steps c =
    ap (read_from c.args.self.now.cell_index) (c.in_ok-cell.ensures.cases.0 ∙ ap (λ (r : List CellContent). c.in_ok-cell.cell.now ∷ r) c.in-Some.ensures.cases.0)
    ∙ read_wide c.args.self.now.cell_index c.in_ok-cell.cell.now c.in-Some.field-0-0.now c.in-Some.after.now (omega arith)

pub returns-in-Some-clause-goes : goal.returns-in-Some-clause-goes
returns-in-Some-clause-goes c =
    let steps = ap (read_from c.args.self.now.cell_index) (c.in_ok-cell.ensures.cases.0 ∙ ap (λ (r : List CellContent). c.in_ok-cell.cell.now ∷ r) c.in-Some.ensures.cases.0)
    ∙ read_wide c.args.self.now.cell_index c.in_ok-cell.cell.now c.in-Some.field-0-0.now c.in-Some.after.now (omega arith) in
    let fewer = ap length steps in
    record {
      on = λ _. (tt, tt, omega arith);
      keeps = tt;
      rests = λ _. tt;
    }
