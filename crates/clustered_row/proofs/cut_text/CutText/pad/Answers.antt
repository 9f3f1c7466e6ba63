use Rattle.std.proofs.Common.{◌≡◌, ◌+◌, ◌-◌, arith, rules, ap, ◌∙◌, is_ok}
use Rattle.std.proofs.lemmas.Bool.{cond-true}
use Rattle.clustered_row.proofs.StepLemmas.{sized_of, padded_if, padded_faces, resized}
use Rattle.clustered_row.proofs.cut_text.CutText.pad.Goals as goal

pub invariant_of-self : goal.invariant_of-self
invariant_of-self c =
    let t = c.args.self.now in
    let n : c.in_ok-len.len ≡ c.len.result + (c.args.to - c.columns-columns.result) = search rules in
    let k = padded_if (is_ok c.resize.result) t.text.items c.resize.new.self.items t.sizes.items t.sized_bytes t.sized_columns c.in_ok-len.len _ c.resize.ensures.items (omega (arith, t.text.ok.0)) (omega arith) (sized_of t) in
    record { bytes = k.bytes_are; columns = k.columns_are; within = k.within; parts = k.parts }

pub returns-clause-done : goal.returns-clause-done
returns-clause-done c =
    let t = c.args.self.now in
    let n : c.in_ok-len.len ≡ c.len.result + (c.args.to - c.columns-columns.result) = search rules in
    let e = c.resize.ensures.items ∙ cond-true (is_ok c.resize.result) _ _ (ap is_ok c.in_ok-resize.was) ∙ resized t.text.items 32 c.in_ok-len.len t.text.len (omega (arith, t.text.ok.0)) (omega arith) in
    padded_faces t.text.items c.resize.new.self.items t.sizes.items t.sized_bytes t.sized_columns c.args.to (c.in_ok-len.len - t.text.len) e (omega arith) (sized_of t)
