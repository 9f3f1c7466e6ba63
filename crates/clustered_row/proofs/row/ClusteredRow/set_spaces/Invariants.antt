use Rattle.std.proofs.Common.{◌≡◌, ◌-◌, ◌≤◌, length, replicate}
use Rattle.cell_base.specs.Row.{blank, set_columns}
use Rattle.clustered_row.proofs.row.ClusteredRow.set_spaces.Given as goal

-- setting the remaining blanks gives the row with all blanks set
abbrev pub invariant-loop-at : goal.invariant-loop-at
invariant-loop-at l = record {
  len : length l.self ≡ length l.initial.self;
  order : l.at ≤ l.end;
  leads : set_columns l.self l.at (replicate (l.end - l.at) (blank l.attrs)) ≡ set_columns l.initial.self l.start (replicate (l.end - l.start) (blank l.attrs));
}

abbrev pub decreases-loop-at : goal.decreases-loop-at
decreases-loop-at l = l.end - l.at
