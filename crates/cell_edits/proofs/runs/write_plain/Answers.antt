use Rattle.std.proofs.Common.{◌∙◌, ◌+◌, ◌∷◌, [], ap, get_or, length, arith}
use Rattle.std.proofs.lemmas.List.{length-set}
use Rattle.cell_base.specs.CellContent.{cell_of}
use Rattle.cell_edits.proofs.RunLemmas.{plain_more}
use Rattle.cell_edits.proofs.runs.write_plain.Goals as goal

pub loop-index-preserved : goal.loop-index-preserved
loop-index-preserved c =
    let first = c.args.cells.now.items in
    let now = c.loop-index.cells.items in
    let i = c.loop-index.index in
    let bytes = c.args.bytes.now in
    let a = c.args.attrs.now in
    let made = c.in_ok-put_ascii.ensures.items in
    let n = length-set now (c.args.start + i) (cell_of (get_or bytes i 0 ∷ []) 1 a) in
    let v = c.args.cells.now.ok.0 in
    record {
      len = ap length made ∙ n ∙ c.loop-index.invariant.len;
      items = made ∙ plain_more first now c.args.start i 0 bytes a (omega arith) (omega arith) c.loop-index.invariant.items;
    }
