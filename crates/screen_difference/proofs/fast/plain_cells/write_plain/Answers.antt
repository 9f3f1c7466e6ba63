use Rattle.std.proofs.Common.{List, subst}
use Rattle.cell_edits.specs.VisibleCells.{VisibleCell, first_column}
use Rattle.cell_views.specs.Region.{region_left}
use Rattle.screen_difference.specs.ShownCells.{shown_left, HaveRoom}
use Rattle.screen_difference.proofs.SideLemmas.{fewer_each, room_each, room_end, text_written}
use Rattle.screen_difference.proofs.fast.plain_cells.write_plain.Goals as goal

pub write_text-requires-clause-room : goal.write_text-requires-clause-room
write_text-requires-clause-room c =
    let news : List VisibleCell = region_left c.args.news.now in
    let left = c.in-Some.ensures.left in
    room_end c.args.column (first_column news) c.in-Some.text.now c.in-Some.attrs.now (region_left c.pass_plain.new.self) c.in-Some.ensures.some.0 (subst (HaveRoom c.args.column) left c.requires.room)

pub returns-clause-written : goal.returns-clause-written
returns-clause-written c =
    let news : List VisibleCell = region_left c.args.news.now in
    text_written c.args.writer.now c.write_text.new.writer c.args.row (shown_left c.args.olds.now) (shown_left c.write_text.new.olds) news (region_left c.pass_plain.new.self)
    c.args.column (first_column news) c.in-Some.text.now c.in-Some.attrs.now c.in-Some.ensures.left c.in_ok-write_text.ensures.written c.in_ok-write_text.ensures.passed

pub returns-clause-room : goal.returns-clause-room
returns-clause-room c =
    let news : List VisibleCell = region_left c.args.news.now in
    let left = c.in-Some.ensures.left in
    room_each c.args.column (first_column news) c.in-Some.text.now c.in-Some.attrs.now (region_left c.pass_plain.new.self) (subst (HaveRoom c.args.column) left c.requires.room)

pub returns-clause-small : goal.returns-clause-small
returns-clause-small c =
    let news : List VisibleCell = region_left c.args.news.now in
    let left = c.in-Some.ensures.left in
    room_end c.args.column (first_column news) c.in-Some.text.now c.in-Some.attrs.now (region_left c.pass_plain.new.self) c.in-Some.ensures.some.0 (subst (HaveRoom c.args.column) left c.requires.room)

pub returns-clause-fewer : goal.returns-clause-fewer
returns-clause-fewer c =
    let news : List VisibleCell = region_left c.args.news.now in
    fewer_each (first_column news) c.in-Some.text.now c.in-Some.attrs.now news (region_left c.pass_plain.new.self) c.in-Some.ensures.left c.in-Some.ensures.some.0
