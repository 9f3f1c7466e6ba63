use Rattle.std.proofs.Common.{◌≡◌, ◌==◌, ◌-◌, ◌≤◌, ◌&&◌, length, take, false}
use Rattle.std.specs.Io.KnownBytes.{Appends}
use Rattle.terminal.proofs.watched.Watched.write_all.Given as goal

-- the first bytes are written, and no write was a fault
abbrev pub invariant-loop-written : goal.invariant-loop-written
invariant-loop-written g l = record {
  within : l.written ≤ length l.bytes;
  appends : Appends (g.T.Write.contents l.initial.self.inner) (g.T.Write.contents l.self.inner) (take l.written l.bytes);
  failed : l.self.has_failed ≡ l.initial.self.has_failed;
  reads : l.self.reads ≡ l.initial.self.reads;
  gone_on : l.initial.self.has_failed ≡ false → l.self.has_gone_on ≡ l.initial.self.has_gone_on;
  flushes : l.self.flushes ≡ l.initial.self.flushes;
  flushed : l.self.is_flushed ≡ ((l.written == 0) && l.initial.self.is_flushed);
}

abbrev pub decreases-loop-written : goal.decreases-loop-written
decreases-loop-written g l = length l.bytes - l.written
