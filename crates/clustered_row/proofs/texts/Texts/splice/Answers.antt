use Rattle.std.proofs.Common.{length, arith, refl}
use Rattle.clustered_row.proofs.StepLemmas.{sized_of, column_count}
use Rattle.clustered_row.proofs.texts.Texts.splice.Goals as goal

pub overflow_add-covered : goal.overflow_add-covered
overflow_add-covered c =
    let t = c.args.self.now.cut in
    let k = column_count t.text.items t.sizes.items t.sized_bytes t.sized_columns (length t.text.items) (sized_of t) refl in
    omega (arith, k, c.requires.within, c.saturating_sub-covered.ensures, t.within, t.text.ok.0, t.text.ok.1, t.text.small)
