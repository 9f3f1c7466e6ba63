use Rattle.std.proofs.Common.{◌∙◌, sym, ap, get_or, List, arith}
use Rattle.cell_base.specs.Row.{Column, blank}
use Rattle.clustered_row.specs.TextsShown.{faces}
use Rattle.clustered_row.specs.VisibleColumns.{column_attributes}
use Rattle.clustered_row.proofs.AskedLemmas.{attributes_face}
use Rattle.clustered_row.proofs.ColumnLemmas.{counted}
use Rattle.clustered_row.proofs.columns.Columns.attributes_at.Goals as goal

pub at-requires : goal.at-requires
at-requires c =
    let count = counted (faces c.self.inside.texts) c.self.inside.runs c.args.self.now c.self.invariant.even c.self.view_is in
    omega (arith, count, c.requires)

pub returns : goal.returns
returns c =
    let even = c.self.invariant.even in
    let count = counted (faces c.self.inside.texts) c.self.inside.runs c.args.self.now even c.self.view_is in
    let x = c.at.result.now in
    c.at.ensures
    ∙ sym (attributes_face (faces c.self.inside.texts) c.self.inside.runs c.args.column (blank x) x (sym even) (omega (arith, even, count, c.requires)))
    ∙ ap (λ (r : List Column). column_attributes (get_or r c.args.column (blank x))) c.self.view_is
