use Rattle.std.proofs.Common.{◌≡◌, take, drop}
use Rattle.std.specs.Prelude.{map}
use Rattle.cell_edits.specs.Links.{cell_without_implicit}
use Rattle.cell_edits.proofs.row.drop_implicit_links.Given as goal

-- the cells so far, and those that are left
abbrev pub invariant-loop-cell : goal.invariant-loop-cell
invariant-loop-cell l = record {
  done : take l.cell-index l.cells ≡ map cell_without_implicit (take l.cell-index l.initial.cells);
  rest : drop l.cell-index l.cells ≡ drop l.cell-index l.initial.cells;
}
