use Rattle.std.proofs.Common.{◌∙◌, ap}
use Rattle.std.specs.Global.{Vec}
use Rattle.std.specs.Prelude.{vec_len}
use Rattle.cell_base.specs.CellContent.{CellContent}
use Rattle.cell_line.proofs.StorageLemmas.{length_of_cells}
use Rattle.cell_line.proofs.line.Line.open.Goals as goal

pub returns-clause-len : goal.returns-clause-len
returns-clause-len c = ap (λ (v : Vec CellContent). vec_len v) c.replace.ensures.value ∙ length_of_cells c.self.inside c.args.self.now c.self.view_is c.if-self.false
