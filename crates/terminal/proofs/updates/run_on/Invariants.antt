use Rattle.std.proofs.Common.{◌≡◌, ◌<◌, false, length}
use Rattle.terminal.proofs.FlushLemmas.{FlushesOn}
use Rattle.terminal.proofs.SendLemmas.{SendsOn}
use Rattle.terminal.proofs.updates.run_on.Given as goal

-- of the input that was read the updates are written
abbrev pub invariant-loop : goal.invariant-loop
invariant-loop g l = record {
  reader : l.reader.has_failed ≡ false;
  ends_reads : l.reader.has_gone_on ≡ l.initial.reader.has_gone_on;
  ends_writes : l.writer.has_gone_on ≡ l.initial.writer.has_gone_on;
  reads : l.reader.reads ≡ l.counter;
  writer : l.writer.has_failed ≡ false;
  sound : l.terminal.is_failed ≡ false;
  widths : l.terminal.surface.grid.widths ≡ l.initial.terminal.surface.grid.widths;
  room : length l.buffer ≡ 4096;
  some : 0 < l.left;
  sends : SendsOn (λ w. g.W.Widths.width_of w) l.every l.initial.terminal (g.R.Read.remaining l.initial.reader.inner) (g.R.Read.remaining l.reader.inner) (g.T.Write.contents l.initial.writer.inner) (g.T.Write.contents l.writer.inner) l.terminal l.number l.left;
  flushes : FlushesOn l.every (g.R.Read.remaining l.initial.reader.inner) (g.R.Read.remaining l.reader.inner) l.initial.writer.flushes l.writer.flushes l.left;
}
