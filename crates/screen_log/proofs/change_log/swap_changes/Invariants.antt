use Rattle.std.proofs.Common.{◌≡◌, ◌≤◌, ◌-◌, ◌++◌, length, take, drop}
use Rattle.screen_log.proofs.change_log.swap_changes.Given as goal

-- the first `at` changes of each list, followed by the rest of the other, are the original other
abbrev pub invariant-loop-prefix : goal.invariant-loop-prefix
invariant-loop-prefix l = record {
  within : l.at ≤ length l.prefix;
  prefix : take l.at l.prefix ++ drop l.at l.after ≡ l.fn.after;
  after : take l.at l.after ++ drop l.at l.prefix ≡ l.fn.prefix;
}

abbrev pub decreases-loop-prefix : goal.decreases-loop-prefix
decreases-loop-prefix l = length l.prefix - l.at
