use Rattle.std.proofs.Common.{◌+◌, ◌≤◌, ◌∙◌, List, ℕ, length, take, ap, sym, arith}
use Rattle.std.proofs.lemmas.List.{length-take-le}
use Rattle.cell_edits.specs.VisibleCells.{VisibleCell, visible_each}
use Rattle.cell_views.specs.Region.{region_left}
use Rattle.screen_difference.specs.Drawing.{with_all}
use Rattle.screen_difference.specs.FreshCells.{placed}
use Rattle.screen_difference.specs.ShownCells.{from_column, shown_left}
use Rattle.screen_difference.proofs.SideLemmas.{from_twice, gap_fresh, gap_passed, left_fresh}
use Rattle.screen_difference.proofs.fast.plain_cells.write_stretch.Goals as goal

pub returns-then-count-gt0-clause-written : goal.returns-then-count-gt0-clause-written
returns-then-count-gt0-clause-written c =
    let at = c.args.column in
    let attrs = c.args.attrs.now in
    let n = c.min-count.result in
    let left = c.pass.new.self in
    let gap = c.gap.ensures in
    let min = c.min-count.ensures in
    let some = c.if-count-gt0.true in
    let within : n ≤ length c.args.text.now = omega arith in
    let count = length-take-le n c.args.text.now within in
    c.in_ok-push_plain.ensures
    ∙ ap (λ (cells : List VisibleCell). with_all c.args.writer.now (placed c.args.row cells)) (
    ap (λ (text : List ℕ). visible_each at text attrs) c.prefix.ensures.part
    ∙ sym (gap_fresh at left.column (shown_left c.args.olds.now) (region_left left.cells) (take n c.args.text.now) attrs c.pass.ensures.left (omega arith)))

pub returns-then-count-gt0-clause-passed : goal.returns-then-count-gt0-clause-passed
returns-then-count-gt0-clause-passed c =
    let left = c.pass.new.self in
    let gap = c.gap.ensures in
    let min = c.min-count.ensures in
    let some = c.if-count-gt0.true in
    gap_passed c.args.column (c.args.column + c.min-count.result) left.column (shown_left c.args.olds.now) (region_left left.cells) c.pass.ensures.left (omega arith) (omega arith)

pub returns-clause-written : goal.returns-clause-written
returns-clause-written c =
    let n = c.in_ok-compared.compared in
    c.in_ok-compared.ensures.written
    ∙ ap (λ (cells : List VisibleCell). with_all c.args.writer.now (placed c.args.row cells)) (
    left_fresh c.args.column (shown_left c.args.olds.now) (shown_left c.pass.new.self) (take n c.args.text.now) c.args.attrs.now c.pass.ensures.left)

pub returns-clause-passed : goal.returns-clause-passed
returns-clause-passed c =
    let to = c.args.column + c.in_ok-compared.compared in
    c.in_ok-compared.ensures.passed ∙ ap (from_column to) c.pass.ensures.left ∙ from_twice c.args.column to (shown_left c.args.olds.now) (omega arith)
