-- What a `Watched` holds.
use Rattle.terminal.specs.Watched.{Watched}
use Rattle.terminal.specs.declared.watched.Watched.TheInside.{Inside}

abbrev pub watched_of : {T : Type 0} → Inside T → Watched T
watched_of a = record {
  inner = a.inner;
  has_failed = a.has_failed;
  has_gone_on = a.has_gone_on;
  reads = a.reads;
  flushes = a.flushes;
  is_flushed = a.is_flushed;
}
