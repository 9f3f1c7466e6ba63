use Rattle.std.proofs.Common.{◌≡◌, false, length}
use Rattle.terminal.proofs.LiveLemmas.{IsLive}
use Rattle.terminal.proofs.updates.run_live_on.Given as goal

-- of the pieces that were read the updates are written
abbrev pub invariant-loop : goal.invariant-loop
invariant-loop g l = record {
  reader : l.reader.has_failed ≡ false;
  ends_reads : l.reader.has_gone_on ≡ l.initial.reader.has_gone_on;
  ends_writes : l.writer.has_gone_on ≡ l.initial.writer.has_gone_on;
  reads : l.reader.reads ≡ l.counter;
  writer : l.writer.has_failed ≡ false;
  sound : l.terminal.is_failed ≡ false;
  widths : l.terminal.surface.grid.widths ≡ l.initial.terminal.surface.grid.widths;
  room : length l.buffer ≡ 4096;
  live : IsLive (λ w. g.W.Widths.width_of w) (λ r. g.R.Read.remaining r) (λ t. g.T.Write.contents t) l.initial.terminal l.terminal l.initial.reader l.reader l.initial.writer l.writer l.number;
}
