use Rattle.std.proofs.Common.{arith, refl}
use Rattle.clustered_row.specs.VisibleRuns.{attributes_left}
use Rattle.clustered_row.specs.VisibleTexts.{faces_left}
use Rattle.clustered_row.proofs.PlainLemmas.{blanks_passed, spaces_printable}
use Rattle.clustered_row.proofs.visible.ClusteredCells.pass_blanks.Goals as goal

pub returns-clause-left : goal.returns-clause-left
returns-clause-left c =
    let left = c.args.self.now in
    let most = c.min-count.ensures in
    blanks_passed left.column c.min-count.result left.blanks c.spaces.result.now left.rest.now (faces_left left.texts) (attributes_left left.runs)
    (c.if-not-is_empty.ensures.0 refl) c.spaces.ensures (omega (arith, c.min.ensures, most))

pub returns-clause-printable : goal.returns-clause-printable
returns-clause-printable c = spaces_printable c.min-count.result c.spaces.result.now c.spaces.ensures
