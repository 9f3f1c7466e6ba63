-- The texts of the cells that `CutCells` holds.
use Rattle.std.specs.Prelude.{ℕ, List}
use Rattle.std.specs.String.{string_bytes}
use Rattle.screen_change.specs.Cuts.{cut_at}
use Rattle.screen_change.specs.declared.cut_cells.CutCells.{CutCells}

abbrev pub cells_of : CutCells → List (List ℕ)
cells_of cut = cut_at cut.lens.items (string_bytes cut.text)
