use Rattle.shot.proofs.CutLemmas.{after_is, until_is}
use Rattle.shot.proofs.laws.events_are_cut_at_a_time.Goals as goal

pub returns-clause-until : goal.returns-clause-until
returns-clause-until c time events from = until_is time 0 events from

pub returns-clause-events_after : goal.returns-clause-events_after
returns-clause-events_after c time events from = after_is time 0 events from
