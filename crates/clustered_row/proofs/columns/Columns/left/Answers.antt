use Rattle.std.proofs.Common.{◌∙◌, sym, ap, length}
use Rattle.clustered_row.specs.TextsShown.{faces}
use Rattle.clustered_row.proofs.ColumnLemmas.{counted}
use Rattle.clustered_row.proofs.columns.Columns.left.Goals as goal

pub returns-clause-texts : goal.returns-clause-texts
returns-clause-texts c =
    ap length c.left.ensures ∙ sym c.self.invariant.even ∙ counted (faces c.self.inside.texts) c.self.inside.runs c.args.self.now c.self.invariant.even c.self.view_is

pub returns-clause-runs : goal.returns-clause-runs
returns-clause-runs c = ap length c.left-2.ensures ∙ counted (faces c.self.inside.texts) c.self.inside.runs c.args.self.now c.self.invariant.even c.self.view_is
