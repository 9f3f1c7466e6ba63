use Rattle.std.proofs.Common.{◌≡◌, map, take}
use Rattle.cell_surface.specs.Cells.{column_cells}
use Rattle.cell_surface.proofs.contents.lines_cells.Given as goal

-- the cells of the lines so far
abbrev pub invariant-loop-line : goal.invariant-loop-line
invariant-loop-line l = map (λ row. row.items) l.rows.items ≡ map column_cells (map (λ line. line.columns) (take l.line-index l.lines))
