use Rattle.std.proofs.Common.{List, subst}
use Rattle.cell_edits.specs.VisibleCells.{VisibleCell, first_column}
use Rattle.cell_views.specs.CellRefView.{cells_left}
use Rattle.screen_difference.specs.ShownCells.{HaveRoom}
use Rattle.screen_difference.proofs.SideLemmas.{room_end}
use Rattle.terminal_c.proofs.ToldLemmas.{text_told}
use Rattle.terminal_c.proofs.told.Telling.push_plain.Goals as goal

pub push_text_of-requires-clause-room : goal.push_text_of-requires-clause-room
push_text_of-requires-clause-room c =
    let cells : List VisibleCell = cells_left c.args.cells.now in
    room_end c.args.column (first_column cells) c.in-Some.text.now c.in-Some.attrs.now (cells_left c.pass_plain.new.self)
    c.in-Some.ensures.some.0 (subst (HaveRoom c.args.column) c.in-Some.ensures.left c.requires)

pub returns : goal.returns
returns c =
    let cells : List VisibleCell = cells_left c.args.cells.now in
    text_told c.args.self.now c.push_text_of.new.self c.args.column (first_column cells) c.in-Some.text.now c.in-Some.attrs.now cells (cells_left c.pass_plain.new.self)
    c.requires c.in-Some.ensures.left c.in-Some.ensures.some.0 c.in_ok-push_text_of.ensures
