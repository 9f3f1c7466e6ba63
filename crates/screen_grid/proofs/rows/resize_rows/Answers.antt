use Rattle.std.proofs.Common.{◌<◌, ◌∙◌, [], length, length-set, arith}
use Rattle.std.proofs.lemmas.List.Edits.{map_over_more}
use Rattle.std.proofs.lemmas.List.{get_or_default}
use Rattle.cell_line.specs.LineContent.{line_of}
use Rattle.screen_grid.specs.Grid.{line_at}
use Rattle.screen_grid.specs.Rows.{widened}
use Rattle.screen_grid.proofs.LineLemmas.{line_changed}
use Rattle.screen_grid.proofs.rows.resize_rows.Goals as goal

pub loop-row-preserved : goal.loop-row-preserved
loop-row-preserved c =
    let now = c.loop-row.rows in
    let row = c.loop-row.row in
    let inside : row < length c.args.rows.now = let t = c.loop-row-test.true in let n = c.len-row-end.ensures in omega arith in
    let there : row < length now = let m = c.loop-row.invariant.len in omega arith in
    record {
      len = length-set now row c.resize.new.self ∙ c.loop-row.invariant.len;
      items = line_changed now row c.index_mut.result.now c.resize.new.self (widened c.args.width) there c.index_mut.ensures.value c.in_ok-resize.ensures.done
          ∙ map_over_more (widened c.args.width) c.args.rows.now now row (line_at now row) inside c.loop-row.invariant.items (get_or_default now row (line_of 0 []) _ there);
    }
