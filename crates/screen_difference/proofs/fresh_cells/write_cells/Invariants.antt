use Rattle.std.proofs.Common.{◌≡◌, length}
use Rattle.cell_views.specs.Region.{region_left}
use Rattle.screen_difference.specs.Drawing.{with_all}
use Rattle.screen_difference.specs.FreshCells.{placed}
use Rattle.screen_difference.specs.ShownCells.{passed_fresh, shown_left, side_by_side, Fits, HaveRoom}
use Rattle.screen_difference.proofs.fresh_cells.write_cells.Given as goal

-- the cells written so far and the fresh ones of the remaining cells are all fresh cells; and the remaining cells have room
abbrev pub invariant-loop-count : goal.invariant-loop-count
invariant-loop-count l = record {
  room : HaveRoom l.column (region_left l.news);
  fits : Fits l.olds;
  written : with_all l.writer (placed l.row (passed_fresh (shown_left l.olds) (side_by_side l.column (region_left l.news)))) ≡ with_all l.initial.writer (placed l.row (passed_fresh (shown_left l.initial.olds) (side_by_side l.initial.column (region_left l.initial.news))));
}

abbrev pub decreases-loop-count : goal.decreases-loop-count
decreases-loop-count l = length (region_left l.news)
