use Rattle.cell_views.specs.StoredCells.{stored_row}
use Rattle.cell_views.proofs.WordLemmas.{past_end, within}
use Rattle.cell_views.proofs.words.double_click_range.Goals as goal

pub returns-then-reaches_end : goal.returns-then-reaches_end
returns-then-reaches_end g c test answers = past_end test c.args.at (stored_row c.args.cells) c.reaches_end.result c.reaches_end.ensures c.if-reaches_end.true

pub returns : goal.returns
returns g c test answers =
    within test c.args.at (stored_row c.args.cells) c.reaches_end.result c.word_start.result c.word_end.result c.word_range.result
    c.reaches_end.ensures c.if-reaches_end.false (c.word_start.ensures test answers) (c.word_end.ensures test answers) c.word_range.ensures
