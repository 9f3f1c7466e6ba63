use Rattle.std.proofs.Common.{arith}
use Rattle.cell_views.specs.CellRefView.{shown_by}
use Rattle.cell_views.specs.Region.{region_left}
use Rattle.screen_difference.specs.ShownCells.{shown_left}
use Rattle.screen_difference.proofs.SideLemmas.{gap_passed, none_begins, on_passed}
use Rattle.screen_difference.proofs.shown_cells.ShownCells.shows.Goals as goal

pub returns-then-self-column-clause-shown : goal.returns-then-self-column-clause-shown
returns-then-self-column-clause-shown c =
    none_begins c.args.column c.pass.new.self.column (shown_left c.args.self.now) (region_left c.pass.new.self.cells) (shown_by c.args.cell.now).cell c.pass.ensures.left (omega arith)

pub returns-then-self-column-clause-passed : goal.returns-then-self-column-clause-passed
returns-then-self-column-clause-passed c =
    gap_passed c.args.column _ c.pass.new.self.column (shown_left c.args.self.now) (region_left c.pass.new.self.cells) c.pass.ensures.left (omega arith) (omega arith)

pub returns-clause-passed : goal.returns-clause-passed
returns-clause-passed c =
    let there = c.pass.ensures.there in
    on_passed c.args.column _ c.pass.new.self.column 1 (shown_left c.args.self.now) (region_left c.pass.new.self.cells) (shown_left c.pass_cell.new.self) c.pass.ensures.left (omega arith) (omega arith) c.pass_cell.ensures.passed
