use Rattle.std.proofs.Common.{◌≡◌, ◌≤◌, vec_len}
use Rattle.clustered_row.specs.CutTexts.{shown, bytes_left, sizes_left}
use Rattle.clustered_row.proofs.cut_text.CutText.trim.Given as goal

-- the sizes that went were those of plain cells
abbrev pub invariant-loop-self : goal.invariant-loop-self
invariant-loop-self l = record {
  faces : shown l.self ≡ shown l.initial.self;
  bytes_left : bytes_left l.self ≡ bytes_left l.initial.self;
  sizes_left : sizes_left l.initial.self ≤ sizes_left l.self;
  columns : l.self.sized_columns ≤ l.initial.self.sized_columns;
}

abbrev pub decreases-loop-self : goal.decreases-loop-self
decreases-loop-self l = vec_len l.self.sizes
