use Rattle.std.proofs.Common.{◌≡◌, ◌++◌}
use Rattle.std.specs.Prelude.{filter, nat_le, nat_lt, ◌&&◌}
use Rattle.std.specs.String.{string_bytes}
use Rattle.cell_views.specs.StoredCells.{stored_row}
use Rattle.cell_views.specs.CellRefView.{cells_left}
use Rattle.cell_edits.specs.VisibleCells.{cells_between, texts_joined}
use Rattle.cell_views.proofs.query.push_texts.Given as goal

-- the texts so far, and then those that are left, are the whole
abbrev pub invariant-loop-cell : goal.invariant-loop-cell
invariant-loop-cell l =
    string_bytes l.text ++ texts_joined (filter (λ v. nat_le l.start v.column && nat_lt v.column l.end) (cells_left l.cell-iterator))
    ≡ string_bytes l.initial.text ++ texts_joined (cells_between l.start l.end (stored_row l.cells))
