use Rattle.std.proofs.Common.{◌++◌, ℕ, List, ap, ◌∙◌, is_ok}
use Rattle.std.proofs.lemmas.Bool.{cond-true}
use Rattle.clustered_row.proofs.StepLemmas.{sized_of, pushed_if, pushed_faces}
use Rattle.std.specs.Prelude.{cond}
use Rattle.clustered_row.proofs.cut_text.CutText.push_plain.Goals as goal

pub invariant_of-self : goal.invariant_of-self
invariant_of-self c =
    let t = c.args.self.now in
    let e = c.push_bytes.ensures.items ∙ ap (λ (u : List ℕ). cond (is_ok c.push_bytes.result) (t.text.items ++ u) t.text.items) c.as_bytes.ensures.value in
    let k = pushed_if (is_ok c.push_bytes.result) t.text.items c.args.text.now c.push_bytes.new.items.items t.sizes.items t.sized_bytes t.sized_columns e c.requires (sized_of t) in
    record { bytes = k.bytes_are; columns = k.columns_are; within = k.within; parts = k.parts }

pub returns-clause-done : goal.returns-clause-done
returns-clause-done c =
    let t = c.args.self.now in
    let e = c.push_bytes.ensures.items ∙ cond-true (is_ok c.push_bytes.result) _ _ (ap is_ok c.in_ok-push_bytes.was) ∙ ap (λ (u : List ℕ). t.text.items ++ u) c.as_bytes.ensures.value in
    pushed_faces t.text.items c.args.text.now c.push_bytes.new.items.items t.sizes.items t.sized_bytes t.sized_columns e (sized_of t)
