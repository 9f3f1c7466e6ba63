use Rattle.std.proofs.Common.{◌≡◌, ◌<◌, ◌^◌, List, length, rules}
use Rattle.cell_base.specs.Row.{Row}
use Rattle.cell_edits.specs.VisibleCells.{VisibleCell, visible_cells}
use Rattle.cell_views.specs.CellRefView.{cells_left}
use Rattle.terminal_c.proofs.ToldLemmas.{line_begun, line_room}
use Rattle.terminal_c.proofs.told.telling_of.Goals as goal

pub loop-telling-init : goal.loop-telling-init
loop-telling-init c =
    let row : Row = c.args.line.now.columns in
    let cells : List VisibleCell = cells_left c.visible_cells-cells.result in
    let all : cells ≡ visible_cells row = c.visible_cells-cells.ensures.cells in
    let small : length row < 2 ^ 64 = search (rules, c.len.ensures.value, c.len.type_inv) in
    record {
      room = line_room row cells c.len.ensures.whole small all;
      told = line_begun c.in_ok-telling.telling row cells c.len.ensures.whole c.in_ok-telling.ensures all;
    }
