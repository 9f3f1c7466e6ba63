use Rattle.std.proofs.Common.{rules, ◌≡◌, ◌++◌, List, ap, ◌∙◌}
use Rattle.std.specs.List.{flat_map}
use Rattle.cell_base.specs.CellContent.{CellContent}
use Rattle.cell_views.specs.CellRefView.{cells_left}
use Rattle.cell_edits.specs.VisibleCells.{VisibleCell, visible_cells, row_of_visible}
use Rattle.cell_surface.specs.Cells.{cells_of}
use Rattle.cell_surface.proofs.CellLemmas.{cells_by_column}
use Rattle.cell_surface.proofs.contents.line_cells.Goals as goal

pub loop-cell-init : goal.loop-cell-init
loop-cell-init c =
    let cells : cells_left c.into_iter-cell-iterator.result ≡ visible_cells c.args.line.now.columns = search rules in
    let row : row_of_visible (cells_left c.into_iter-cell-iterator.result) ≡ c.args.line.now.columns = search rules in
    ap (λ (xs : List CellContent). xs ++ flat_map (λ (v : VisibleCell). cells_of v.cell) (cells_left c.into_iter-cell-iterator.result)) c.new-cells.ensures.items
    ∙ cells_by_column (cells_left c.into_iter-cell-iterator.result) c.args.line.now.columns cells row
