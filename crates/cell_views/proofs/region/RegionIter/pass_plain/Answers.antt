use Rattle.std.proofs.Common.{◌∙◌, sym}
use Rattle.cell_views.specs.CellRefView.{cells_left}
use Rattle.cell_views.proofs.LeftLemmas.{passed_first}
use Rattle.cell_views.proofs.region.RegionIter.pass_plain.Goals as goal

pub returns-clause-left : goal.returns-clause-left
returns-clause-left c =
    let left = c.args.self.now in
    let run = c.pass_plain in
    passed_first run.result (λ r. r.0.now) (λ r. r.1.now) left.half (cells_left left.cells) (cells_left run.new.self) (sym c.is_some.ensures ∙ c.if-is_some.false) run.ensures.left
