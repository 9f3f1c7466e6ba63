use Rattle.escape_stream.proofs.AdvanceLemmas.{progress}
use Rattle.escape_stream.proofs.pieces.ReadingIterator.next.Goals as goal

pub returns-in-Open-clause-goes : goal.returns-in-Open-clause-goes
returns-in-Open-clause-goes c = progress c.args.self.now c.next_open.new.self c.next_open.result c.in-Open.is c.next_open.ensures
