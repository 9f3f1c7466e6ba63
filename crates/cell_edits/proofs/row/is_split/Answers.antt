use Rattle.std.proofs.Common.{◌≡◌, ◌<◌, ◌≤◌, ap, subst, take, zero, arith}
use Rattle.cell_base.specs.CellContent.{CellContent}
use Rattle.cell_edits.proofs.CellLemmas.{turned_on, turned_last, split_at_wide, split_at_narrow}
use Rattle.cell_edits.specs.CellList.{ends_split}
use Rattle.cell_edits.proofs.row.is_split.Goals as goal

pub loop-position-preserved : goal.loop-position-preserved
loop-position-preserved c = record {
  within = omega arith;
  turned = turned_on c.loop-position.was_split _ _ _ c.loop-position.invariant.turned (split_at_wide c.args.cells.now c.loop-position.position c.index-cells-position.result (omega arith) (omega arith)
      (subst (λ (x : CellContent). 2 ≤ x.width) c.index-cells-position.is (omega arith)));
}

pub returns-else-width-ge2 : goal.returns-else-width-ge2
returns-else-width-ge2 c = turned_last c.loop-position.was_split _ _ c.loop-position.invariant.turned (split_at_narrow c.args.cells.now c.loop-position.position c.index-cells-position.result (omega arith) (omega arith)
    (subst (λ (x : CellContent). x.width < 2) c.index-cells-position.is (omega arith)))

pub returns-after-loop-position : goal.returns-after-loop-position
returns-after-loop-position c = let none : c.loop-position.position ≡ zero = omega arith in turned_last c.loop-position.was_split _ _ c.loop-position.invariant.turned (ap (λ n. ends_split (take n c.args.cells.now)) none)
