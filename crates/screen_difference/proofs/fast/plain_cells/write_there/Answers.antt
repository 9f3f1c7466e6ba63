use Rattle.std.proofs.Common.{◌+◌, length, arith}
use Rattle.cell_views.specs.Region.{region_left}
use Rattle.screen_difference.specs.ShownCells.{shown_left}
use Rattle.screen_difference.proofs.SideLemmas.{run_passed}
use Rattle.screen_difference.proofs.fast.plain_cells.write_there.Goals as goal

pub returns-in-Some-clause-passed : goal.returns-in-Some-clause-passed
returns-in-Some-clause-passed c =
    let left = c.pass_plain.new.self in
    let old = c.in-Some.old in
    let there = c.requires.there in
    let stop = c.in-Some.ensures.column in
    run_passed c.args.olds.now.column left.column (c.args.column + length old.0.now) (shown_left c.args.olds.now) (region_left left.cells) old.0.now old.1.now c.in-Some.ensures.left (omega arith) (omega arith)
