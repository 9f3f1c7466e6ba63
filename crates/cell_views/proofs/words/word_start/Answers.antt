use Rattle.std.proofs.Common.{refl}
use Rattle.std.specs.Prelude.{None}
use Rattle.cell_views.specs.StoredCells.{stored_row}
use Rattle.cell_views.specs.CellRefView.{shown_by, cells_left}
use Rattle.cell_edits.specs.VisibleCells.{visible_cells}
use Rattle.cell_views.proofs.WordLemmas.{begun_from, begun_goes, begun_ends, answered}
use Rattle.cell_views.proofs.words.word_start.Goals as goal

pub loop-cell-preserved-then-column-at : goal.loop-cell-preserved-then-column-at
loop-cell-preserved-then-column-at g c test answers =
    let v = shown_by c.in-Some.cell in
    let at = c.args.at in
    let says = answered g.F.Fn c.args.is_word.now test c.str.result v.cell.text c.is_word.result c.is_word.result answers c.str.utf8 c.is_word.ensures c.str.ensures refl in
    begun_goes test at c.loop-cell.start (begun_from test at None (visible_cells (stored_row c.args.cells))) (cells_left c.loop-cell.cell-iterator) v (cells_left c.next.new.self) c.cell_index-column.result
    c.is_word.result c.begun-start.result c.in-Some.ensures.steps c.cell_index-column.ensures c.if-column-at.true says c.begun-start.ensures (c.loop-cell.invariant test answers)

pub returns : goal.returns
returns g c test answers =
    begun_ends test c.args.at c.unwrap_or.result c.loop-cell.start (cells_left c.loop-cell.cell-iterator) (visible_cells (stored_row c.args.cells))
    c.in-None.ensures.steps.0 c.unwrap_or.ensures (c.loop-cell.invariant test answers)
