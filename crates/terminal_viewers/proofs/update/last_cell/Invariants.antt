use Rattle.std.proofs.Common.{◌≡◌}
use Rattle.std.specs.Prelude.{Some, fold}
use Rattle.std.specs.Option.{option_map}
use Rattle.cell_views.specs.CellRefView.{cells_left, shown_by}
use Rattle.terminal_table.specs.Led.{last_cell}
use Rattle.terminal_viewers.proofs.update.last_cell.Given as goal

-- from the cell found so far, those that are left lead to the row's last one
abbrev pub invariant-loop-cell : goal.invariant-loop-cell
invariant-loop-cell l = fold (λ _ v. Some v) (option_map shown_by l.last) (cells_left l.cell-iterator) ≡ last_cell l.line.columns
