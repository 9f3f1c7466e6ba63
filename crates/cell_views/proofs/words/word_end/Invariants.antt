use Rattle.std.proofs.Common.{◌≡◌, ℕ, ◌+◌, Bool, List}
use Rattle.std.specs.Prelude.{fold, filter, nat_le}
use Rattle.cell_views.specs.StoredCells.{stored_row}
use Rattle.cell_views.specs.CellRefView.{cells_left}
use Rattle.cell_edits.specs.VisibleCells.{visible_cells}
use Rattle.cell_views.specs.Words.{Answers, prefix_words, word_end}
use Rattle.cell_views.proofs.words.word_end.Given as goal

-- the end so far, moved on over the remaining cells, is the end of the words
abbrev pub invariant-loop-cell : goal.invariant-loop-cell
invariant-loop-cell g l =
    (test : List ℕ → Bool) → Answers g.F.Fn l.is_word test
    → fold (λ _ v. v.column + 1) l.end (prefix_words test (filter (λ v. nat_le l.at v.column) (cells_left l.cell-iterator))) ≡ word_end test l.at (visible_cells (stored_row l.cells))
