use Rattle.std.proofs.Common.{◌≡◌, ◌≤◌}
use Rattle.screen_difference.specs.Drawing.{with_all}
use Rattle.screen_difference.specs.FreshCells.{placed}
use Rattle.screen_difference.specs.ShownCells.{differing}
use Rattle.screen_difference.proofs.TextLemmas.{mixed}
use Rattle.screen_difference.proofs.fast.plain_cells.write_differing.Given as goal

-- the cells written so far, the pending ones from `from` to `at`, and those that differ from `at` on are all that differ
abbrev pub invariant-loop-at : goal.invariant-loop-at
invariant-loop-at l = record {
  order : l.from ≤ l.at;
  written : with_all l.writer (placed l.row (mixed l.column l.from l.at l.old l.text l.attrs)) ≡ with_all l.initial.writer (placed l.row (differing l.column l.old l.text l.attrs));
}
