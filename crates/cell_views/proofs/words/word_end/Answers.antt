use Rattle.std.proofs.Common.{true, false, arith}
use Rattle.cell_views.specs.StoredCells.{stored_row}
use Rattle.cell_views.specs.CellRefView.{shown_by, cells_left}
use Rattle.cell_edits.specs.VisibleCells.{visible_cells}
use Rattle.cell_views.specs.Words.{word_end}
use Rattle.cell_views.proofs.LeftLemmas.{column_fits}
use Rattle.cell_views.proofs.WordLemmas.{end_stops, end_goes, answered}
use Rattle.cell_views.proofs.words.word_end.Goals as goal

pub returns-then-not-is_word : goal.returns-then-not-is_word
returns-then-not-is_word g c test answers =
    let v = shown_by c.in-Some.cell in
    let at = c.args.at in
    let other = answered g.F.Fn c.args.is_word.now test c.str.result v.cell.text c.is_word.result false answers c.str.utf8 c.is_word.ensures c.str.ensures c.if-not-is_word.true in
    end_stops test at c.loop-cell.end (word_end test at (visible_cells (stored_row c.args.cells))) (cells_left c.loop-cell.cell-iterator) v (cells_left c.next.new.self) c.cell_index-column.result
    c.in-Some.ensures.steps c.cell_index-column.ensures c.if-column-at.true other (c.loop-cell.invariant test answers)

pub overflow_add-end : goal.overflow_add-end
overflow_add-end g c =
    let below = column_fits c.loop-cell.cell-iterator.left (shown_by c.in-Some.cell) (cells_left c.next.new.self) c.in-Some.ensures.steps in
    let column = c.cell_index-column.ensures in
    omega arith

pub loop-cell-preserved-then-column-at : goal.loop-cell-preserved-then-column-at
loop-cell-preserved-then-column-at g c test answers =
    let v = shown_by c.in-Some.cell in
    let at = c.args.at in
    let word = answered g.F.Fn c.args.is_word.now test c.str.result v.cell.text c.is_word.result true answers c.str.utf8 c.is_word.ensures c.str.ensures c.if-not-is_word.false in
    end_goes test at c.loop-cell.end (word_end test at (visible_cells (stored_row c.args.cells))) (cells_left c.loop-cell.cell-iterator) v (cells_left c.next.new.self) c.cell_index-column.result
    c.in-Some.ensures.steps c.cell_index-column.ensures c.if-column-at.true word (c.loop-cell.invariant test answers)
