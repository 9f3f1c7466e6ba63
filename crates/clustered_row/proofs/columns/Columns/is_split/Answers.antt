use Rattle.std.proofs.Common.{◌∙◌, sym, ap, arith}
use Rattle.clustered_row.specs.TextsShown.{faces}
use Rattle.clustered_row.specs.VisibleColumns.{is_split}
use Rattle.clustered_row.proofs.AskedLemmas.{split_face}
use Rattle.clustered_row.proofs.ColumnLemmas.{counted}
use Rattle.clustered_row.proofs.columns.Columns.is_split.Goals as goal

pub is_split-requires : goal.is_split-requires
is_split-requires c =
    let even = c.self.invariant.even in
    let count = counted (faces c.self.inside.texts) c.self.inside.runs c.args.self.now even c.self.view_is in
    omega (arith, even, count, c.requires)

pub returns : goal.returns
returns c =
    c.is_split.ensures ∙ sym (split_face (faces c.self.inside.texts) c.self.inside.runs c.args.at (sym c.self.invariant.even)) ∙ ap (is_split c.args.at) c.self.view_is
