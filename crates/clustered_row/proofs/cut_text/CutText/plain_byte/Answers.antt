use Rattle.std.proofs.Common.{arith}
use Rattle.clustered_row.proofs.StepLemmas.{sized_of, after_byte}
use Rattle.clustered_row.proofs.cut_text.CutText.plain_byte.Goals as goal

pub returns-clause-within : goal.returns-clause-within
returns-clause-within c =
    let t = c.args.self.now in
    after_byte t.text.items t.sizes.items t.sized_bytes t.sized_columns c.args.column (sized_of t) c.requires.after c.requires.within

pub overflow_add-result : goal.overflow_add-result
overflow_add-result c =
    let t = c.args.self.now in
    let k = after_byte t.text.items t.sizes.items t.sized_bytes t.sized_columns c.args.column (sized_of t) c.requires.after c.requires.within in
    omega (arith, k, t.text.ok.0, t.text.ok.1, t.text.small)
