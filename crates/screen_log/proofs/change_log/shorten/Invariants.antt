use Rattle.std.proofs.Common.{◌≡◌, take, drop, vec_len}
use Rattle.std.specs.List.{All}
use Rattle.screen_log.specs.LogView.{OwnsNothing}
use Rattle.screen_log.proofs.change_log.shorten.Given as goal

-- the first changes are the same, and the ones behind them own nothing
abbrev pub invariant-loop-changes : goal.invariant-loop-changes
invariant-loop-changes l = record {
  first : take l.len l.changes.items ≡ take l.len l.fn.changes.items;
  dropped : All OwnsNothing (drop l.len l.changes.items);
}

abbrev pub decreases-loop-changes : goal.decreases-loop-changes
decreases-loop-changes l = vec_len l.changes
