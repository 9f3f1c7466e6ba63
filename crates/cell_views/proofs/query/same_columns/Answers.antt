use Rattle.std.proofs.Common.{ap}
use Rattle.cell_base.specs.Row.{Row}
use Rattle.cell_edits.specs.VisibleCells.{visible_cells, contents}
use Rattle.cell_views.proofs.VisibleLemmas.{same_rows}
use Rattle.cell_views.specs.StoredCells.{stored_row}
use Rattle.cell_views.proofs.query.same_columns.Goals as goal

pub returns : goal.returns
returns c = (
  (λ e.
      same_rows (stored_row c.args.cells) (stored_row c.args.other) c.same_contents.ensures.whole c.same_contents.ensures.other_whole
      (c.same_contents.ensures.value.0 e)),
  (λ e. c.same_contents.ensures.value.1 (ap (λ (r : Row). contents (visible_cells r)) e)),
)
