use Rattle.std.proofs.Common.{◌∙◌, List, ap, subst, arith}
use Rattle.cell_edits.specs.VisibleCells.{VisibleCell, first_column}
use Rattle.cell_views.specs.Region.{region_left}
use Rattle.screen_difference.specs.ShownCells.{side_by_side, HaveRoom}
use Rattle.screen_difference.proofs.SideLemmas.{room_each, room_end, side_each}
use Rattle.screen_difference.proofs.shown_cells.ShownCells.pass_plain.Goals as goal

pub overflow_add-self : goal.overflow_add-self
overflow_add-self c =
    let olds : List VisibleCell = region_left c.args.self.now.cells in
    let news : List VisibleCell = region_left c.pass_plain.new.self in
    let text = c.in_ok-text.text.now in
    let small = room_end c.args.self.now.column (first_column olds) text c.in_ok-text.attrs.now news c.in_ok-text.ensures.some.0 (subst (HaveRoom c.args.self.now.column) c.in_ok-text.ensures.left c.requires) in
    omega arith

pub returns-clause-left : goal.returns-clause-left
returns-clause-left c =
    let olds : List VisibleCell = region_left c.args.self.now.cells in
    let news : List VisibleCell = region_left c.pass_plain.new.self in
    ap (side_by_side c.args.self.now.column) c.in_ok-text.ensures.left
    ∙ side_each c.args.self.now.column (first_column olds) c.in_ok-text.text.now c.in_ok-text.attrs.now news

pub returns-clause-fits : goal.returns-clause-fits
returns-clause-fits c =
    let olds : List VisibleCell = region_left c.args.self.now.cells in
    let news : List VisibleCell = region_left c.pass_plain.new.self in
    room_each c.args.self.now.column (first_column olds) c.in_ok-text.text.now c.in_ok-text.attrs.now news (subst (HaveRoom c.args.self.now.column) c.in_ok-text.ensures.left c.requires)
