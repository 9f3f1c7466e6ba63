-- Cells and their runs have an encoding.
use Rattle.std.proofs.Common.{ℕ, List, [], ◌∷◌}
use Rattle.std.specs.List.{AllByRecursion, concat}
use Rattle.std.proofs.lemmas.Bool.{cond_both}
use Rattle.cell_base.specs.CellContent.{CellContent}
use Rattle.cell_base.specs.SameAttributes.{same_attributes}
use Rattle.screen_change.specs.CellRuns.{CellRun, before_runs, cell_runs}
use Rattle.screen_change.specs.Texts.{stay_independent, texts}
use Rattle.terminal_render.specs.Spelling.{IsSpelledPen, IsSpelledRun}
use Rattle.terminal_render.proofs.TextLemmas.{AreSpelledRuns, run_append, run_nil}

abbrev pub AreSpelledCells : List CellContent → Type 0
AreSpelledCells = AllByRecursion (λ cell. IsSpelledRun cell.text × IsSpelledPen cell.attributes)

-- ---- runs

concat_spelled : (ts : List (List ℕ)) → AreSpelledRuns ts → IsSpelledRun (concat ts)
concat_spelled [] p = run_nil
concat_spelled (t ∷ ts) p = run_append t (concat ts) p.0 (concat_spelled ts p.1)

pub texts_spelled : (cells : List (List ℕ)) → AreSpelledRuns cells → AreSpelledRuns (texts cells)
unfolding texts
texts_spelled [] p = tt
texts_spelled (cell ∷ cells) p = cond_both (stay_independent (cell ∷ cells)) _ _ AreSpelledRuns (λ e. (concat_spelled (cell ∷ cells) p, tt)) (λ e. p)

abbrev pub AreSpelledCellRuns : List CellRun → Type 0
AreSpelledCellRuns = AllByRecursion (λ run. IsSpelledPen run.attributes × AreSpelledRuns run.cells)

before_spelled : (cell : CellContent) (runs : List CellRun) → IsSpelledRun cell.text → IsSpelledPen cell.attributes → AreSpelledCellRuns runs → AreSpelledCellRuns (before_runs cell runs)
before_spelled cell [] t a p = ((a, (t, tt)), tt)
before_spelled cell (run ∷ runs) t a p = cond_both (same_attributes cell.attributes run.attributes) _ _ AreSpelledCellRuns (λ e. ((p.0.0, (t, p.0.1)), p.1)) (λ e. ((a, (t, tt)), p))

pub runs_spelled : (cells : List CellContent) → AreSpelledCells cells → AreSpelledCellRuns (cell_runs cells)
runs_spelled [] p = tt
runs_spelled (cell ∷ cells) p = before_spelled cell (cell_runs cells) p.0.0 p.0.1 (runs_spelled cells p.1)
