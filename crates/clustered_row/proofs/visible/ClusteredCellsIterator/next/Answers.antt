use Rattle.std.proofs.Common.{arith, ap, length}
use Rattle.clustered_row.proofs.VisibleLemmas.{none_left, next_blank}
use Rattle.clustered_row.specs.VisibleRuns.{attributes_left}
use Rattle.clustered_row.specs.VisibleTexts.{faces_left}
use Rattle.clustered_row.proofs.visible.ClusteredCellsIterator.next.Goals as goal

pub invariant_of-self-then-self-eq0 : goal.invariant_of-self-then-self-eq0
invariant_of-self-then-self-eq0 c =
    let none = ap length c.in_default.ensures.1 in
    let old = ap length c.in_default.ensures.0 in
    let small = c.args.self.now.small in
    record { covered = omega (arith, none); small = omega (arith, none, old, small) }

pub returns-then-self-eq0-clause-steps : goal.returns-then-self-eq0-clause-steps
returns-then-self-eq0-clause-steps c =
    let left = c.args.self.now in
    (none_left _ _ left.blanks left.column left.rest.now c.in_default.ensures.0 c.if-self-eq0.true, none_left _ _ left.blanks left.column left.rest.now c.in_default.ensures.1 c.if-self-eq0.true)

pub invariant_of-self-2 : goal.invariant_of-self-2
invariant_of-self-2 c =
    let none = ap length c.in_default.ensures.1 in
    let old = ap length c.in_default.ensures.0 in
    let small = c.args.self.now.small in
    record { covered = omega (arith, none); small = omega (arith, none, old, small) }

pub returns-clause-steps : goal.returns-clause-steps
returns-clause-steps c =
    let left = c.args.self.now in
    next_blank _ _ _ left.blanks left.column left.rest.now c.in_default.ensures.0 c.in_default.ensures.1 (omega arith)

pub returns-clause-goes : goal.returns-clause-goes
returns-clause-goes c =
    let left = c.args.self.now in
    let fewer = ap length (next_blank (faces_left left.texts) (faces_left c.pass.new.self) (attributes_left left.runs) left.blanks left.column left.rest.now c.in_default.ensures.0 c.in_default.ensures.1 (omega arith)) in
    record { on = λ _. (tt, tt, omega arith); keeps = tt; rests = λ _. tt }
