use Rattle.std.proofs.Common.{◌<◌, length, ◌∙◌, [], arith}
use Rattle.cell_line.specs.LineContent.{line_of}
use Rattle.screen_grid.specs.Grid.{line_at}
use Rattle.screen_grid.specs.Rows.{blanked}
use Rattle.screen_grid.proofs.LineLemmas.{all_blank}
use Rattle.screen_grid.proofs.MoveLemmas.{changed_more}
use Rattle.screen_grid.proofs.rows.blank_rows.Goals as goal

pub loop-row-preserved : goal.loop-row-preserved
loop-row-preserved c =
    let inside : c.loop-row.row < length c.args.rows.now = let t = c.loop-row-test.true in let m = c.loop-row.invariant.len in omega arith in
    record {
      len = c.in_ok-set_blanks.ensures.len ∙ c.loop-row.invariant.len;
      order = let o = c.loop-row.invariant.order in omega arith;
      items = c.in_ok-set_blanks.ensures.lines
          ∙ changed_more (blanked c.args.attrs.now) c.args.rows.now c.loop-row.rows c.args.from c.loop-row.row _ (line_of 0 []) c.loop-row.invariant.order inside c.loop-row.invariant.items (all_blank (line_at c.loop-row.rows c.loop-row.row) c.args.attrs.now);
    }
