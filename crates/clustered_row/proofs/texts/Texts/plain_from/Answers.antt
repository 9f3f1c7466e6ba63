use Rattle.clustered_row.proofs.StepLemmas.{sized_of, sized_columns_within}
use Rattle.clustered_row.proofs.texts.Texts.plain_from.Goals as goal

pub returns-clause-within : goal.returns-clause-within
returns-clause-within c =
    let t = c.args.self.now.cut in
    sized_columns_within t.text.items t.sizes.items t.sized_bytes t.sized_columns (sized_of t)
