-- The invariant of every cell.
use Rattle.std.specs.Prelude.{◌≡◌, ◌≤◌, false}
use Rattle.cell_base.specs.CellContent.{CellContent, shows_as_space}

-- a cell takes one or two columns, and its text is one that a cell holds unchanged
pub record IsCell (cell : CellContent) : Type 0 where
  pub some : 1 ≤ cell.width
  pub most : cell.width ≤ 2
  pub shown : shows_as_space cell.text ≡ false
