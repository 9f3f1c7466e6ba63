use Rattle.std.proofs.Common.{◌∙◌, sym, ap, arith}
use Rattle.cell_edits.specs.VisibleCells.{cell_at}
use Rattle.clustered_row.specs.TextsShown.{faces}
use Rattle.clustered_row.proofs.AskedLemmas.{cell_of_face, none_of_face}
use Rattle.clustered_row.proofs.ColumnLemmas.{counted}
use Rattle.clustered_row.proofs.columns.Columns.cell_at.Goals as goal

pub cell_at-requires : goal.cell_at-requires
cell_at-requires c =
    let even = c.self.invariant.even in
    let count = counted (faces c.self.inside.texts) c.self.inside.runs c.args.self.now even c.self.view_is in
    omega (arith, even, count, c.requires)

pub at-requires : goal.at-requires
at-requires c =
    let count = counted (faces c.self.inside.texts) c.self.inside.runs c.args.self.now c.self.invariant.even c.self.view_is in
    omega (arith, count, c.requires)

pub returns-in-None : goal.returns-in-None
returns-in-None c =
    let even = c.self.invariant.even in
    let count = counted (faces c.self.inside.texts) c.self.inside.runs c.args.self.now even c.self.view_is in
    none_of_face (faces c.self.inside.texts) c.self.inside.runs c.args.column (sym even) (omega (arith, even, count, c.requires)) c.in-None.ensures ∙ ap (cell_at c.args.column) c.self.view_is

pub returns-in-Some : goal.returns-in-Some
returns-in-Some c =
    let even = c.self.invariant.even in
    let count = counted (faces c.self.inside.texts) c.self.inside.runs c.args.self.now even c.self.view_is in
    cell_of_face (faces c.self.inside.texts) c.self.inside.runs c.args.column c.in-Some.cell.is_wide c.in-Some.cell.text.now c.at.result.now (sym even) (omega (arith, even, count, c.requires)) c.in-Some.ensures c.at.ensures
    ∙ ap (cell_at c.args.column) c.self.view_is
