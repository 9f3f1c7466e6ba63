use Rattle.std.proofs.Common.{◌≡◌, ◌+◌, true, arith, rules, refl, is_ok}
use Rattle.clustered_row.proofs.SizeLemmas.{columns_bound}
use Rattle.clustered_row.proofs.StepLemmas.{sized_of, covered_sized, covered_shown, grown}
use Rattle.clustered_row.proofs.cut_text.CutText.cover_more.Goals as goal

pub overflow_add-self-2 : goal.overflow_add-self-2
overflow_add-self-2 c =
    let t = c.args.self.now in
    let bound = columns_bound t.sizes.items in
    omega (arith, bound, t.bytes, t.columns, t.text.ok.0, t.text.ok.1, t.text.small)

pub invariant_of-self-2 : goal.invariant_of-self-2
invariant_of-self-2 c =
    let t = c.args.self.now in
    let ok : is_ok c.resize.result ≡ true = search rules in
    let e = grown t.sizes.items c.resize.new.self.items _ (is_ok c.resize.result) (c.len.result + c.args.count) t.sizes.len c.args.count ok c.resize.ensures.items (omega (arith, t.sizes.ok.0)) (omega arith) in
    let k = covered_sized t.text.items t.sizes.items c.resize.new.self.items t.sized_bytes t.sized_columns c.args.count _ refl e c.requires.within (sized_of t) in
    record { bytes = k.bytes_are; columns = k.columns_are; within = k.within; parts = k.parts }

pub returns-clause-faces : goal.returns-clause-faces
returns-clause-faces c =
    let t = c.args.self.now in
    let ok : is_ok c.resize.result ≡ true = search rules in
    let e = grown t.sizes.items c.resize.new.self.items _ (is_ok c.resize.result) (c.len.result + c.args.count) t.sizes.len c.args.count ok c.resize.ensures.items (omega (arith, t.sizes.ok.0)) (omega arith) in
    covered_shown t.text.items t.sizes.items c.resize.new.self.items t.sized_bytes t.sized_columns c.args.count _ refl e c.requires.within (sized_of t)
