use Rattle.std.specs.Bool.{one_answer}
use Rattle.cell_base.specs.SameLink.{same_link_decides}
use Rattle.cell_base.proofs.hyperlink.HyperlinkPartialEq.eq.Goals as goal

pub returns-clause-same : goal.returns-clause-same
returns-clause-same c = one_answer _ _ c.is_same.ensures (same_link_decides c.args.self.now c.args.other.now)
