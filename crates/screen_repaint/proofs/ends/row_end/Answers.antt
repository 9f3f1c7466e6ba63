use Rattle.std.proofs.Common.{rules, ◌≡◌, ◌+◌, ◌≤◌, List, length, fold, ap, subst, sym, arith}
use Rattle.cell_views.specs.CellRefView.{cells_left}
use Rattle.cell_edits.specs.VisibleCells.{VisibleCell, contents, visible_cells}
use Rattle.screen_repaint.specs.Ends.{no_cells, with_cell}
use Rattle.screen_repaint.proofs.EndLemmas.{visible_count}
use Rattle.screen_repaint.proofs.ends.row_end.Goals as goal

pub loop-cells-init : goal.loop-cells-init
loop-cells-init c =
    let cells : cells_left c.visible_cells-cells.result ≡ visible_cells c.args.line.now.columns = search rules in
    let bound = visible_count 0 c.args.line.now.columns in
    let len : c.len-len.result ≡ length c.args.line.now.columns = c.len-len.ensures.value in (
      ap (λ (vs : List VisibleCell). fold with_cell no_cells (contents vs)) cells,
      subst (λ (vs : List VisibleCell). 0 + length vs ≤ c.len-len.result) (sym cells) (omega arith),
    )
