use Rattle.clustered_row.specs.VisibleCells as clustered
use Rattle.clustered_row.specs.VisibleCells.{next_column}
use Rattle.cell_views.specs.Halves.{half_left}
use Rattle.cell_views.proofs.LeftLemmas.{passed_before}
use Rattle.cell_views.proofs.visible_cells.ClusteredLeft.pass_plain.Goals as goal

pub returns-clause-left : goal.returns-clause-left
returns-clause-left c =
    let left = c.args.self.now in
    let run = c.pass_plain in
    passed_before run.result (λ r. r.0.now) (λ r. r.1.now) c.args.most (next_column left.cells) (clustered.cells_left left.cells) (clustered.cells_left run.new.self) (half_left left.half)
    run.ensures.left run.ensures.some
