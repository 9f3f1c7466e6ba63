use Rattle.std.proofs.Common.{◌≡◌, subst, arith}
use Rattle.std.specs.Prelude.{OnOk}
use Rattle.cell_base.specs.CellContent.{row_of_cells}
use Rattle.cell_base.specs.Row.{Row}
use Rattle.cell_edits.proofs.CutLemmas.{resize_less, resize_more}
use Rattle.cell_edits.proofs.row.resize.Goals as goal

pub returns-then-width-len : goal.returns-then-width-len
returns-then-width-len c = subst (λ (r : Row). OnOk c.cut_to.result (row_of_cells c.cut_to.new.cells.items ≡ r)) (resize_less c.args.cells.now.items c.args.width (omega arith)) c.cut_to.ensures

pub returns-else-width-len : goal.returns-else-width-len
returns-else-width-len c = subst (λ (r : Row). OnOk c.pad.result (row_of_cells c.pad.new.cells.items ≡ r)) (resize_more c.args.cells.now.items c.args.width (omega arith)) c.pad.ensures.row
