use Rattle.std.proofs.Common.{◌≡◌, false, length}
use Rattle.terminal.specs.Fed.{FeedsOn}
use Rattle.terminal.proofs.driver.feed_all.Given as goal

-- the bytes read so far were fed, and neither the reader nor the terminal has failed
abbrev pub invariant-loop : goal.invariant-loop
invariant-loop g l = record {
  not_failed : l.reader.has_failed ≡ false;
  ends : l.reader.has_gone_on ≡ l.initial.reader.has_gone_on;
  reads : l.reader.reads ≡ l.counter;
  sound : l.terminal.is_failed ≡ false;
  feeds : FeedsOn (λ w. g.W.Widths.width_of w) (g.R.Read.remaining l.initial.reader.inner) (g.R.Read.remaining l.reader.inner) l.initial.terminal l.terminal;
  room : length l.buffer ≡ 4096;
}
