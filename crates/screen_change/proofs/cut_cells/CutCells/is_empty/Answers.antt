use Rattle.std.proofs.Common.{arith}
use Rattle.std.specs.String.{string_bytes}
use Rattle.screen_change.proofs.StepLemmas.{empty_is, filled_is}
use Rattle.screen_change.proofs.cut_cells.CutCells.is_empty.Goals as goal

pub returns-then-is_empty : goal.returns-then-is_empty
returns-then-is_empty c =
    let t = c.args.self.now in
    empty_is (string_bytes t.text) t.lens.items _ _ _ (omega (arith, t.text.bytes.ok.0)) (omega (arith, t.lens.ok.0)) c.if-is_empty.ensures c.is_empty-then-is_empty.ensures

pub returns-else-is_empty : goal.returns-else-is_empty
returns-else-is_empty c =
    let t = c.args.self.now in
    filled_is (string_bytes t.text) t.lens.items t.text.bytes.len c.is_empty.result (omega (arith, t.text.bytes.ok.0)) c.if-is_empty.false c.if-is_empty.ensures
