use Rattle.std.proofs.Common.{◌<◌, [], ap, refl, length, length-set, ◌∙◌, arith}
use Rattle.cell_base.specs.Row.{plain_row}
use Rattle.cell_line.specs.LineContent.{clustered_line_of, line_of}
use Rattle.screen_grid.specs.Grid.{line_at}
use Rattle.screen_grid.specs.Rows.{cleared}
use Rattle.screen_grid.proofs.LineLemmas.{line_changed}
use Rattle.screen_grid.proofs.MoveLemmas.{changed_more}
use Rattle.screen_grid.proofs.rows.clear_rows.Goals as goal

pub loop-row-preserved : goal.loop-row-preserved
loop-row-preserved c =
    let first = c.args.rows.now in
    let now = c.loop-row.rows in
    let row = c.loop-row.row in
    let inside : row < length first = let t = c.loop-row-test.true in let r = c.requires.within in omega arith in
    let there : row < length now = let m = c.loop-row.invariant.len in omega arith in
    record {
      len = length-set now row c.reset.new.line ∙ c.loop-row.invariant.len;
      order = let o = c.loop-row.invariant.order in omega arith;
      items = line_changed now row c.index_mut-line.result.now c.reset.new.line cleared there c.index_mut-line.ensures.value (c.reset.ensures ∙ ap (λ n. clustered_line_of 0 (plain_row n)) c.len-width.ensures.value)
          ∙ changed_more cleared first now c.args.from row (cleared (line_at now row)) (line_of 0 []) c.loop-row.invariant.order inside c.loop-row.invariant.items refl;
    }
