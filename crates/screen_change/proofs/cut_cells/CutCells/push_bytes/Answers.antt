use Rattle.std.proofs.Common.{is_ok, arith}
use Rattle.std.specs.String.{string_bytes}
use Rattle.screen_change.proofs.StepLemmas.{cut_of, pushed_if, pushed_cells}
use Rattle.screen_change.proofs.cut_cells.CutCells.push_bytes.Goals as goal

pub invariant_of-self : goal.invariant_of-self
invariant_of-self c =
    let t = c.args.self.now in
    let k = pushed_if (is_ok c.push_str.result) (string_bytes t.text) c.args.text.now (string_bytes c.push_str.new.self) t.lens.items t.sized_bytes c.push_str.ensures.bytes c.requires (cut_of t) in
    record { bytes = k.bytes_are; within = omega (arith, k.within, c.push_str.new.self.bytes.ok.0); parts = k.parts }

pub returns : goal.returns
returns c =
    let t = c.args.self.now in
    pushed_cells (string_bytes t.text) c.args.text.now (string_bytes c.push_str.new.self) t.lens.items t.sized_bytes c.in_ok-push_str.ensures.bytes (cut_of t)
