use Rattle.std.proofs.Common.{arith}
use Rattle.clustered_row.specs.TextsShown.{faces}
use Rattle.clustered_row.proofs.ColumnLemmas.{counted}
use Rattle.clustered_row.proofs.columns.Columns.plain_from.Goals as goal

pub returns : goal.returns
returns c =
    let even = c.self.invariant.even in
    let count = counted (faces c.self.inside.texts) c.self.inside.runs c.args.self.now even c.self.view_is in
    let within = c.plain_from.ensures.within in
    omega (arith, even, count, within)
