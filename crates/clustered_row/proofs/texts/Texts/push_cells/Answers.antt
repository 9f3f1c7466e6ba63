use Rattle.std.proofs.Common.{length, arith, refl}
use Rattle.clustered_row.proofs.StepLemmas.{sized_of, column_count, sized_columns_within}
use Rattle.clustered_row.proofs.texts.Texts.push_cells.Goals as goal

pub overflow_sub-covered : goal.overflow_sub-covered
overflow_sub-covered c =
    let t = c.args.self.now.cut in
    let k = sized_columns_within t.text.items t.sizes.items t.sized_bytes t.sized_columns (sized_of t) in
    omega (arith, k, c.columns.ensures)

pub overflow_add-covered : goal.overflow_add-covered
overflow_add-covered c =
    let t = c.args.self.now.cut in
    let k = column_count t.text.items t.sizes.items t.sized_bytes t.sized_columns (length t.text.items) (sized_of t) refl in
    omega (arith, k, c.columns.ensures, t.within, t.text.ok.0, t.text.ok.1, t.text.small)
