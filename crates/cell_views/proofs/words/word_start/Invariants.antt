use Rattle.std.proofs.Common.{◌≡◌, ℕ, Bool, List}
use Rattle.std.specs.Prelude.{None}
use Rattle.cell_views.specs.StoredCells.{stored_row}
use Rattle.cell_views.specs.CellRefView.{cells_left}
use Rattle.cell_edits.specs.VisibleCells.{visible_cells}
use Rattle.cell_views.specs.Words.{Answers}
use Rattle.cell_views.proofs.WordLemmas.{begun_from}
use Rattle.cell_views.proofs.words.word_start.Given as goal

-- the start so far, moved on over the remaining cells, is the start of the words
abbrev pub invariant-loop-cell : goal.invariant-loop-cell
invariant-loop-cell g l =
    (test : List ℕ → Bool) → Answers g.F.Fn l.is_word test → begun_from test l.at l.start (cells_left l.cell-iterator) ≡ begun_from test l.at None (visible_cells (stored_row l.cells))
