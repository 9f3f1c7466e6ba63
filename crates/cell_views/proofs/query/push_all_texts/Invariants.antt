use Rattle.std.proofs.Common.{◌≡◌, ◌++◌}
use Rattle.std.specs.String.{string_bytes}
use Rattle.cell_views.specs.StoredCells.{stored_row}
use Rattle.cell_views.specs.CellRefView.{cells_left}
use Rattle.cell_edits.specs.VisibleCells.{visible_cells, texts_joined}
use Rattle.cell_views.proofs.query.push_all_texts.Given as goal

-- the texts so far, and then those that are left, are the whole
abbrev pub invariant-loop-cell : goal.invariant-loop-cell
invariant-loop-cell l =
    string_bytes l.text ++ texts_joined (cells_left l.cell-iterator) ≡ string_bytes l.initial.text ++ texts_joined (visible_cells (stored_row l.cells))
