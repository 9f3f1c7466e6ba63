use Rattle.recordings.proofs.OrderLemmas.{recordings_in_order}
use Rattle.recordings.proofs.laws.events_are_in_order.Goals as goal

pub returns : goal.returns
returns c = recordings_in_order
