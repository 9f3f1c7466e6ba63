use Rattle.std.proofs.Common.{◌≡◌, ◌++◌, replicate}
use Rattle.cell_base.specs.Attributes.{plain}
use Rattle.cell_base.specs.CellContent.{blank_cell}
use Rattle.cell_edits.proofs.row.push_blanks.Given as goal

-- the blanks so far follow the cells
abbrev pub invariant-loop : goal.invariant-loop
invariant-loop l = l.cells.items ≡ l.initial.cells.items ++ replicate l.counter (blank_cell plain)
