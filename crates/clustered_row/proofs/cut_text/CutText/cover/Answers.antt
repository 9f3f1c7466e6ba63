use Rattle.std.proofs.Common.{arith}
use Rattle.clustered_row.proofs.StepLemmas.{sized_of, after_byte}
use Rattle.clustered_row.proofs.cut_text.CutText.cover.Goals as goal

pub cover_more-requires-clause-within : goal.cover_more-requires-clause-within
cover_more-requires-clause-within c =
    let t = c.args.self.now in
    after_byte t.text.items t.sizes.items t.sized_bytes t.sized_columns c.args.to (sized_of t) (omega arith) c.requires.within
