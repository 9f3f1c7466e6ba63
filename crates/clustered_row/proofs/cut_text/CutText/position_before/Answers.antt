use Rattle.std.proofs.Common.{arith}
use Rattle.clustered_row.proofs.BetweenLemmas.{before_sized, position_of_before, bytes_before, found_whole}
use Rattle.clustered_row.proofs.StepLemmas.{sized_of, position_order}
use Rattle.clustered_row.proofs.cut_text.CutText.position_before.Goals as goal

pub returns-then-self-at-clause-bytes : goal.returns-then-self-at-clause-bytes
returns-then-self-at-clause-bytes c =
    let t = c.args.self.now in
    bytes_before t.text.items t.sizes.items t.sized_bytes t.sized_columns c.args.from c.plain_byte.result c.args.at (sized_of t) c.requires.from c.requires.order c.plain_byte.ensures.after c.plain_byte.ensures.column

pub returns-clause-position : goal.returns-clause-position
returns-clause-position c =
    let t = c.args.self.now in
    before_sized t.text.items t.sizes.items t.sized_bytes t.sized_columns c.position.result (sized_of t) c.position.ensures.position

pub returns-clause-column : goal.returns-clause-column
returns-clause-column c =
    let t = c.args.self.now in
    found_whole t.text.items t.sizes.items t.sized_bytes t.sized_columns c.position.result c.args.at (sized_of t) c.position.ensures.position c.position.ensures.columns (omega arith) c.position.ensures.cell c.requires.whole

pub returns-clause-bytes : goal.returns-clause-bytes
returns-clause-bytes c =
    let t = c.args.self.now in
    let from = position_of_before t.text.items t.sizes.items t.sized_bytes t.sized_columns c.args.from (sized_of t) c.requires.from (omega arith) in
    position_order t.sizes.items c.args.from c.position.result from c.position.ensures.position c.position.ensures.order
