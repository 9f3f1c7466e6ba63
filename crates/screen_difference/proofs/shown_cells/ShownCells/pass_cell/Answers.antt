use Rattle.std.proofs.Common.{◌+◌, ◌∙◌, List, ap, sym}
use Rattle.std.specs.Bool.{one_answer}
use Rattle.cell_base.specs.CellContent.{CellContent}
use Rattle.cell_base.specs.SameCell.{same_cell_decides}
use Rattle.cell_edits.specs.VisibleCells.{VisibleCell}
use Rattle.cell_views.specs.CellRefView.{shown_by}
use Rattle.cell_views.specs.Region.{region_left}
use Rattle.screen_difference.specs.ShownCells.{begins_with, from_column, side_by_side}
use Rattle.screen_difference.proofs.SideLemmas.{first_begins, first_passed, some_width}
use Rattle.screen_difference.proofs.shown_cells.ShownCells.pass_cell.Goals as goal

pub returns-clause-shown : goal.returns-clause-shown
returns-clause-shown c =
    let at = c.args.self.now.column in
    let next : VisibleCell = shown_by c.in-Some.next in
    let cell : CellContent = (shown_by c.args.cell.now).cell in
    one_answer _ _ c.same_contents.ensures (same_cell_decides next.cell cell)
    ∙ sym (first_begins at next (region_left c.next.new.self) cell)
    ∙ ap (λ (cells : List VisibleCell). begins_with (side_by_side at cells) at cell) (sym c.in-Some.ensures.steps)

pub returns-clause-passed : goal.returns-clause-passed
returns-clause-passed c =
    let at = c.args.self.now.column in
    let rest : List VisibleCell = region_left c.next.new.self in
    ap (λ n. side_by_side (at + n) rest) c.width.ensures
    ∙ sym (first_passed at (shown_by c.in-Some.next) rest (some_width c.in-Some.next))
    ∙ ap (λ (cells : List VisibleCell). from_column (at + 1) (side_by_side at cells)) (sym c.in-Some.ensures.steps)
