use Rattle.std.proofs.Common.{◌-◌, is_ok, arith, ap}
use Rattle.std.specs.String.{string_bytes}
use Rattle.screen_change.proofs.StepLemmas.{cut_of, grown, kept, kept_cells}
use Rattle.screen_change.proofs.cut_cells.CutCells.keep_lengths.Goals as goal

pub invariant_of-self-2 : goal.invariant_of-self-2
invariant_of-self-2 c =
    let t = c.args.self.now in
    let count = c.len.result - t.sized_bytes in
    let e = grown t.lens.items c.resize.new.self.items (is_ok c.resize.result) _ t.lens.len count (ap is_ok c.in_ok-resize.was) c.resize.ensures.items (omega (arith, t.lens.ok.0)) (omega (arith, c.len-2.ensures)) in
    let k = kept (string_bytes t.text) t.lens.items c.resize.new.self.items t.sized_bytes count e (omega (arith, c.len.ensures, t.within, t.text.bytes.ok.0)) (cut_of t) in
    record { bytes = k.bytes_are; within = omega (arith, c.len.ensures, t.within); parts = k.parts }

pub returns-clause-cells : goal.returns-clause-cells
returns-clause-cells c =
    let t = c.args.self.now in
    let count = c.len.result - t.sized_bytes in
    let e = grown t.lens.items c.resize.new.self.items (is_ok c.resize.result) _ t.lens.len count (ap is_ok c.in_ok-resize.was) c.resize.ensures.items (omega (arith, t.lens.ok.0)) (omega (arith, c.len-2.ensures)) in
    kept_cells (string_bytes t.text) t.lens.items c.resize.new.self.items t.sized_bytes count e (omega (arith, c.len.ensures, t.within, t.text.bytes.ok.0)) (cut_of t)
