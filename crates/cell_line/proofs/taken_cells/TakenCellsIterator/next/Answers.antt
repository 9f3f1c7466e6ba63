use Rattle.std.proofs.Common.{◌+◌, ◌∙◌, List, ◌∷◌, ap, sym, length, arith}
use Rattle.std.specs.Vec.Iter.{into_iter_items}
use Rattle.cell_base.specs.CellContent.{CellContent}
use Rattle.cell_views.specs.ReadCells.{read_from}
use Rattle.cell_views.proofs.ReadLemmas.{read_wide_any}
use Rattle.cell_line.proofs.taken_cells.TakenCellsIterator.next.Goals as goal

pub returns-clause-steps : goal.returns-clause-steps
returns-clause-steps c =
    let at = c.args.self.now.cell_index in
    ap (read_from at) c.in_ok-cell.ensures.cases.0 ∙ read_wide_any at c.in_ok-cell.cell (into_iter_items c.next.new.self) (omega arith) ∙ ap (λ (cs : List CellContent). record { column = at; cell = c.in_ok-cell.cell } ∷ read_from (at + 2) cs) (sym c.drop_hidden.ensures.items)

pub returns-clause-goes : goal.returns-clause-goes
returns-clause-goes c =
    let at = c.args.self.now.cell_index in
    let steps = ap (read_from at) c.in_ok-cell.ensures.cases.0 ∙ read_wide_any at c.in_ok-cell.cell (into_iter_items c.next.new.self) (omega arith) ∙ ap (λ (cs : List CellContent). record { column = at; cell = c.in_ok-cell.cell } ∷ read_from (at + 2) cs) (sym c.drop_hidden.ensures.items) in
    let fewer = ap length steps in
    record {
      on = λ _. (tt, tt, omega arith);
      keeps = tt;
      rests = λ _. tt;
    }
