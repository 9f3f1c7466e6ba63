use Rattle.std.proofs.Common.{◌≡◌}
use Rattle.std.specs.Prelude.{fold}
use Rattle.cell_edits.specs.VisibleCells.{visible_cells}
use Rattle.cell_views.specs.CellRefView.{cells_left}
use Rattle.screen_formats.specs.Runs.{runs_of}
use Rattle.screen_formats.specs.RunSteps.{with_cell}
use Rattle.screen_formats.proofs.runs.line_runs.Given as goal

-- the runs so far, grown by the cells that are left, are the runs of the line
abbrev pub invariant-loop-cell : goal.invariant-loop-cell
invariant-loop-cell l = fold with_cell l.runs.items (cells_left l.cell-iterator) ≡ runs_of (visible_cells l.line.columns)
