use Rattle.std.proofs.Common.{replicate}
use Rattle.cell_base.specs.Row.{blank}
use Rattle.clustered_row.specs.VisibleRuns.{attributes_left}
use Rattle.clustered_row.specs.VisibleTexts.{faces_left}
use Rattle.clustered_row.proofs.PlainLemmas.{text_passed}
use Rattle.clustered_row.proofs.visible.ClusteredCells.pass_plain.Goals as goal

pub returns-clause-left : goal.returns-clause-left
returns-clause-left c =
    let left = c.args.self.now in
    let text = c.pass_plain-text in
    let run = c.pass_columns-attributes in
    text_passed left.column text.result.now run.result.now (faces_left left.texts) (faces_left text.new.self) (attributes_left left.runs) (attributes_left run.new.self)
    (replicate left.blanks (blank left.rest.now)) text.ensures.left run.ensures
