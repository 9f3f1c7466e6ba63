use Rattle.std.proofs.Common.{◌++◌, ◌∙◌, List, ap, Some}
use Rattle.std.specs.Prelude.{filter}
use Rattle.cell_base.specs.Attributes.{Attributes}
use Rattle.cell_base.specs.CellContent.{CellContent}
use Rattle.screen_change.specs.CellChanges.{clear_due}
use Rattle.screen_change.specs.Written.{Written, finished, with_attributes, with_cells}
use Rattle.cell_views.specs.OpenZones.{is_kept_by}
use Rattle.cell_edits.specs.VisibleCells.{VisibleCell, visible_cells, contents}
use Rattle.cell_line.proofs.ChangeLemmas.{with_clear}
use Rattle.cell_views.specs.StoredCells.{stored_row}
use Rattle.cell_line.proofs.changes.written_before.Goals as goal

pub returns : goal.returns
returns c =
    let cells : List VisibleCell = visible_cells (stored_row c.args.cells) in
    let written : List CellContent = contents (filter (λ v. is_kept_by (Some c.args.last) v.column) cells) in
    with_clear c.args.start.now written c.args.color _ c.write_cells.new.writer
    (c.in_ok-changes.ensures
    ∙ c.in_ok-write_clear.ensures
    ∙ ap (λ (w : Written). finished w ++ clear_due c.args.color) (c.in_ok-set_attributes.ensures ∙ ap (λ (a : Attributes). with_attributes a c.write_cells.new.writer) c.requires))
    (c.in_ok-write_cells.ensures ∙ ap (λ (w : Written). with_cells w written) c.new-writer.ensures)
