use Rattle.std.proofs.Common.{◌≡◌}
use Rattle.std.specs.Prelude.{filter, fold}
use Rattle.cell_edits.specs.VisibleCells.{visible_cells}
use Rattle.cell_views.specs.CellRefView.{cells_left}
use Rattle.screen_formats.specs.Runs.{is_in, runs_of}
use Rattle.screen_formats.specs.RunSteps.{with_cell}
use Rattle.screen_formats.proofs.runs.part_runs.Given as goal

-- the runs so far, grown by the wanted cells that are left, are the runs of the part
abbrev pub invariant-loop-cell : goal.invariant-loop-cell
invariant-loop-cell l = fold with_cell l.runs.items (filter (is_in l.part) (cells_left l.cell-iterator)) ≡ runs_of (filter (is_in l.part) (visible_cells l.line.columns))
