use Rattle.std.proofs.Common.{◌∙◌, ap, length, take, arith, List}
use Rattle.cell_base.specs.Row.{Column, closed_end}
use Rattle.clustered_row.specs.TextsShown.{faces}
use Rattle.clustered_row.proofs.ColumnLemmas.{cut_makes}
use Rattle.clustered_row.proofs.RowLemmas.{length-row_of}
use Rattle.clustered_row.proofs.columns.Columns.cut.Goals as goal

pub cut-requires : goal.cut-requires
cut-requires c =
    let even = c.self.invariant.even in
    let long = length-row_of (faces c.self.inside.texts) c.self.inside.runs (omega (arith, even)) in
    let shown = ap (λ (r : List Column). length r) c.self.view_is in
    let within = c.requires in
    omega (arith, long, shown, within)

pub invariant_of-self : goal.invariant_of-self
invariant_of-self c =
    let m = cut_makes (faces c.self.inside.texts) (faces c.cut.new.self) c.self.inside.runs c.cut-2.new.self c.self.invariant.even c.self.invariant.whole c.args.at c.cut.ensures.faces c.cut-2.ensures in
    record { even = m.even; whole = m.whole }

pub returns : goal.returns
returns c =
    (cut_makes (faces c.self.inside.texts) (faces c.cut.new.self) c.self.inside.runs c.cut-2.new.self c.self.invariant.even c.self.invariant.whole c.args.at c.cut.ensures.faces c.cut-2.ensures).is
    ∙ ap (λ (r : List Column). closed_end (take c.args.at r)) c.self.view_is
