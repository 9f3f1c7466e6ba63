use Rattle.std.proofs.Common.{◌≡◌, ◌++◌}
use Rattle.std.specs.String.{string_bytes}
use Rattle.cell_base.specs.Row.{row_text}
use Rattle.cell_views.specs.CellRefView.{cells_left}
use Rattle.cell_edits.specs.VisibleCells.{texts_joined}
use Rattle.cell_surface.proofs.contents.push_line.Given as goal

-- the text so far, and then what is left, are the whole
abbrev pub invariant-loop-cell : goal.invariant-loop-cell
invariant-loop-cell l = string_bytes l.text ++ texts_joined (cells_left l.cell-iterator) ≡ string_bytes l.initial.text ++ row_text l.line.columns
