use Rattle.std.proofs.Common.{◌∙◌, List, ap, sym, subst}
use Rattle.cell_base.specs.Row.{Row}
use Rattle.cell_edits.specs.VisibleCells.{VisibleCell}
use Rattle.screen_difference.specs.Drawing.{with_all}
use Rattle.screen_difference.specs.FreshCells.{placed}
use Rattle.screen_difference.specs.ShownCells.{passed_fresh, side_by_side, HaveRoom}
use Rattle.screen_difference.proofs.FreshLemmas.{region_room, row_is_fresh}
use Rattle.screen_difference.proofs.rows.write_columns.Goals as goal

pub new-olds-requires : goal.new-olds-requires
new-olds-requires c =
    let old : Row = c.args.old.now.columns in
    subst (HaveRoom c.args.x) (sym c.visible_cells_between.ensures) (region_room c.args.x c.args.x c.args.count old c.requires.whole c.requires.within c.requires.small)

pub write_cells-requires-clause-room : goal.write_cells-requires-clause-room
write_cells-requires-clause-room c =
    let new : Row = c.args.new.now.columns in
    subst (HaveRoom c.args.x) (sym c.visible_cells_between-news.ensures) (region_room c.args.x c.args.other_x c.args.count new c.requires.other_whole c.requires.other_within c.requires.small)

pub returns : goal.returns
returns c =
    let old : Row = c.args.old.now.columns in
    let new : Row = c.args.new.now.columns in
    let x = c.args.x in
    c.in_ok-write_cells.ensures
    ∙ ap (λ (cells : List VisibleCell). with_all c.args.writer.now (placed c.args.row cells)) (
    (λ i. passed_fresh ((c.new-olds.ensures.shown ∙ ap (side_by_side x) c.visible_cells_between.ensures) i) (side_by_side x (c.visible_cells_between-news.ensures i)))
    ∙ row_is_fresh x c.args.other_x c.args.count old new c.requires.whole c.requires.other_whole)
