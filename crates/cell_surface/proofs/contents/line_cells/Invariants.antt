use Rattle.std.proofs.Common.{◌≡◌, ◌++◌}
use Rattle.std.specs.List.{flat_map}
use Rattle.cell_views.specs.CellRefView.{cells_left}
use Rattle.cell_surface.specs.Cells.{cells_of, column_cells}
use Rattle.cell_surface.proofs.contents.line_cells.Given as goal

-- the cells so far, and then those of what is left, are the whole
abbrev pub invariant-loop-cell : goal.invariant-loop-cell
invariant-loop-cell l = l.cells.items ++ flat_map (λ v. cells_of v.cell) (cells_left l.cell-iterator) ≡ column_cells l.line.columns
