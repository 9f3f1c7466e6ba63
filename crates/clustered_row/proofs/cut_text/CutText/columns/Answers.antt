use Rattle.std.proofs.Common.{◌≡◌, length, arith}
use Rattle.clustered_row.proofs.StepLemmas.{sized_of, columns_fit, column_count}
use Rattle.clustered_row.proofs.cut_text.CutText.columns.Goals as goal

pub overflow_add-result : goal.overflow_add-result
overflow_add-result c =
    let t = c.args.self.now in
    let n : c.len.result ≡ length t.text.items = omega (arith, t.text.ok.0) in
    let k = columns_fit t.text.items t.sizes.items t.sized_bytes t.sized_columns c.len.result (sized_of t) n in
    omega (arith, k, t.text.ok.1, t.text.small)

pub returns : goal.returns
returns c =
    let t = c.args.self.now in
    column_count t.text.items t.sizes.items t.sized_bytes t.sized_columns c.len.result (sized_of t) (omega (arith, t.text.ok.0))
