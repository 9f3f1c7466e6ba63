use Rattle.std.proofs.Common.{◌∙◌, sym, arith}
use Rattle.cell_views.specs.Region.{region_left}
use Rattle.screen_difference.proofs.SideLemmas.{from_side}
use Rattle.screen_difference.proofs.shown_cells.ShownCells.pass.Goals as goal

pub returns-clause-left : goal.returns-clause-left
returns-clause-left c = sym (from_side c.args.column c.loop-self.self.column (region_left c.loop-self.self.cells) (omega arith)) ∙ c.loop-self.invariant.left
