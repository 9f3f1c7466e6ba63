use Rattle.std.proofs.Common.{◌∙◌, ap, length, arith}
use Rattle.std.proofs.lemmas.List.{length-set}
use Rattle.cell_base.specs.CellContent.{blank_cell}
use Rattle.cell_edits.proofs.RunLemmas.{blanks_more}
use Rattle.cell_edits.proofs.runs.write_blanks.Goals as goal

pub loop-at-preserved : goal.loop-at-preserved
loop-at-preserved c =
    let first = c.args.cells.now.items in
    let now = c.loop-at.cells.items in
    let at = c.loop-at.at in
    let made = c.in_ok-put_blank.ensures.items in
    let n = length-set now at (blank_cell c.args.attrs.now) in
    let k = c.loop-at.invariant.len in
    let v = c.args.cells.now.ok.0 in
    let u = c.loop-at.cells.ok.0 in
    record {
      len = ap length made ∙ n ∙ k;
      items = made ∙ blanks_more first now c.args.start at (blank_cell c.args.attrs.now) (omega arith) (omega arith) c.loop-at.invariant.items;
    }
