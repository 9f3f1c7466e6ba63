use Rattle.std.proofs.Common.{◌≡◌, ◌≤◌, take, drop}
use Rattle.std.specs.List.{All}
use Rattle.screen_log.specs.LogView.{OwnsNothing}
use Rattle.screen_log.proofs.change_log.drop_in_place.Given as goal

-- the changes that were passed own nothing, and the rest are unchanged
abbrev pub invariant-loop-at : goal.invariant-loop-at
invariant-loop-at l = record {
  dropped : All OwnsNothing (take l.at l.changes);
  rest : drop l.at l.changes ≡ drop l.at l.fn.changes;
  pool : l.pool ≤ 65536;
}
