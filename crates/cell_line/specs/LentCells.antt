-- The cells that a line lends.
use Rattle.std.specs.Prelude.{◌≡◌, List, length, Result}
use Rattle.std.specs.Borrow.{Lends, LendsIfOk, LendsSoOk, MutBor, Fml, Array}
use Rattle.std.specs.Global.{Vec}
use Rattle.std.specs.Vec.{with_items}
use Rattle.cell_base.specs.CellContent.{CellContent}
use Rattle.cell_base.specs.contracts.cell.Cell.{the_row as cell}
use Rattle.cell_line.specs.LineContent.{LineContent}
use Rattle.cell_line.specs.LineCalls.{cells_mut}
use Rattle.cell_line.specs.contracts.line.Line.{the_row as line}
use Rattle.std.specs.contracts.vec.Vec.{the_row as vec}
use Rattle.std.specs.contracts.alloc.Global.{the_row as global}
use Rattle.std.specs.contracts.impls.GlobalAllocator.TheImpl.{ghosts}

-- the line ends with the cells last written through the borrow, one for each column; at `Err` it stays as it was
abbrev pub LendsCells : {E : Type 0} → MutBor LineContent → Result (MutBor (List CellContent)) E → Fml
LendsCells s r =
    LendsSoOk line (Array cell 0) s r (λ new cells. length cells ≡ length s.now.columns → new ≡ cells_mut s.now cells)
    (λ new. new ≡ s.now)

-- as `LendsCells`, for the vector that holds the cells
abbrev pub LendsStored : {E : Type 0} → MutBor LineContent → Result (MutBor (Vec CellContent)) E → Fml
LendsStored s r = LendsIfOk line (vec cell global ghosts) s r (λ cells. cells_mut s.now cells.items) s.now

-- a vector ends with the cells that were last written over its own
abbrev pub LendsItems : MutBor (Vec CellContent) → MutBor (List CellContent) → Fml
LendsItems v r = Lends (vec cell global ghosts) (Array cell 0) v r (with_items v.now)
