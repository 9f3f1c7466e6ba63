use Rattle.cell_base.proofs.LinkLaws.{texts_in_order}
use Rattle.cell_base.proofs.hyperlink.are_writable.Goals as goal

pub returns-then-not-is_writable-clause-order : goal.returns-then-not-is_writable-clause-order
returns-then-not-is_writable-clause-order c = texts_in_order c.args.params.now.entries c.into_iter-key-iterator.ensures.into_iter_gives.5

pub returns-clause-order : goal.returns-clause-order
returns-clause-order c = texts_in_order c.args.params.now.entries c.into_iter-key-iterator.ensures.into_iter_gives.5
