use Rattle.std.proofs.Common.{◌∙◌, List, ap, refl, None}
use Rattle.std.specs.Prelude.{filter}
use Rattle.cell_base.specs.CellContent.{CellContent}
use Rattle.screen_change.specs.CellChanges.{cells_written}
use Rattle.screen_change.specs.Written.{Written, begun, finished, with_cells}
use Rattle.screen_change.proofs.RunLemmas.{cells_are_written}
use Rattle.cell_views.specs.OpenZones.{is_kept_by}
use Rattle.cell_edits.specs.VisibleCells.{VisibleCell, visible_cells, contents}
use Rattle.cell_line.proofs.ChangeLemmas.{all_kept}
use Rattle.cell_views.specs.StoredCells.{stored_row}
use Rattle.cell_line.proofs.changes.all_written.Goals as goal

pub returns : goal.returns
returns c =
    let cells : List VisibleCell = visible_cells (stored_row c.args.cells) in
    let written : List CellContent = contents (filter (λ v. is_kept_by None v.column) cells) in
    c.in_ok-changes.ensures
    ∙ ap finished c.in_ok-write_cells.ensures
    ∙ ap (λ (w : Written). finished (with_cells w written)) c.new-writer.ensures
    ∙ cells_are_written (begun c.args.start.now) written refl
    ∙ ap (cells_written c.args.start.now) (all_kept cells)
