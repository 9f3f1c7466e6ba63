use Rattle.std.proofs.Common.{◌+◌, ◌∙◌, List, length, ap, arith}
use Rattle.std.proofs.lemmas.List.{length-drop}
use Rattle.cell_edits.specs.VisibleCells.{VisibleCell}
use Rattle.screen_difference.specs.ShownCells.{from_column, shown_left}
use Rattle.screen_difference.proofs.SideLemmas.{from_twice, next_written}
use Rattle.screen_difference.proofs.fast.plain_cells.write_text.Goals as goal

pub loop-at-preserved : goal.loop-at-preserved
loop-at-preserved c =
    let text = c.args.text.now in
    let at = c.loop-at.at in
    let n = c.in_ok-count.count in
    let to = c.args.column + length text in
    let olds : List VisibleCell = shown_left c.loop-at.olds in
    let part = c.after.ensures.part in
    let some = c.in_ok-count.ensures.some in
    let left = ap length part in
    let after = length-drop at text in
    record {
      within = omega arith;
      fits = c.write_stretch.ensures.fits;
      passed = ap (from_column to) c.in_ok-count.ensures.passed ∙ from_twice (c.args.column + at + n) to olds (omega arith) ∙ c.loop-at.invariant.passed;
      written =
          next_written c.loop-at.writer c.write_stretch.new.writer c.args.row olds (shown_left c.write_stretch.new.olds) c.args.column at n text c.after.result.now c.args.attrs.now part (omega arith)
          c.in_ok-count.ensures.written c.in_ok-count.ensures.passed
          ∙ c.loop-at.invariant.written;
    }
