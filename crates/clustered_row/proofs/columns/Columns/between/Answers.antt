use Rattle.std.proofs.Common.{◌∙◌, ap, sym, drop, take, List, arith}
use Rattle.cell_base.specs.Row.{Column}
use Rattle.clustered_row.specs.TextsShown.{faces}
use Rattle.clustered_row.specs.VisibleColumns.{is_split}
use Rattle.clustered_row.specs.VisibleRuns.{attributes_left}
use Rattle.clustered_row.specs.VisibleTexts.{faces_left}
use Rattle.clustered_row.proofs.AskedLemmas.{split_face}
use Rattle.clustered_row.proofs.BetweenLemmas.{row_between, length_between}
use Rattle.clustered_row.proofs.ColumnLemmas.{counted}
use Rattle.clustered_row.proofs.columns.Columns.between.Goals as goal

pub between-requires-clause-within : goal.between-requires-clause-within
between-requires-clause-within c =
    let even = c.self.invariant.even in
    let count = counted (faces c.self.inside.texts) c.self.inside.runs c.args.self.now even c.self.view_is in
    omega (arith, even, count, c.requires.within)

pub between-requires-clause-first : goal.between-requires-clause-first
between-requires-clause-first c =
    sym (split_face (faces c.self.inside.texts) c.self.inside.runs c.args.from (sym c.self.invariant.even)) ∙ ap (is_split c.args.from) c.self.view_is ∙ c.requires.first

pub between-requires-clause-last : goal.between-requires-clause-last
between-requires-clause-last c =
    sym (split_face (faces c.self.inside.texts) c.self.inside.runs c.args.to (sym c.self.invariant.even)) ∙ ap (is_split c.args.to) c.self.view_is ∙ c.requires.last

pub left_from-requires : goal.left_from-requires
left_from-requires c =
    let count = counted (faces c.self.inside.texts) c.self.inside.runs c.args.self.now c.self.invariant.even c.self.view_is in
    omega (arith, count, c.requires.order, c.requires.within)

pub returns-clause-row : goal.returns-clause-row
returns-clause-row c =
    row_between (faces c.self.inside.texts) (faces_left c.between.result) c.self.inside.runs (attributes_left c.left_from.result) c.args.from c.args.to c.between.ensures c.left_from.ensures
    ∙ ap (λ (r : List Column). drop c.args.from (take c.args.to r)) c.self.view_is

pub returns-clause-texts : goal.returns-clause-texts
returns-clause-texts c =
    let even = c.self.invariant.even in
    let count = counted (faces c.self.inside.texts) c.self.inside.runs c.args.self.now even c.self.view_is in
    length_between (faces c.self.inside.texts) (faces_left c.between.result) c.args.from c.args.to c.requires.order (omega (arith, even, count, c.requires.within)) c.between.ensures
