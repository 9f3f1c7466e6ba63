use Rattle.cell_line.specs.LineCalls.{set_plain as plain_set}
use Rattle.cell_line.specs.LineContent.{LineContent}
use Rattle.screen_grid.proofs.LineLemmas.{line_changed}
use Rattle.screen_grid.proofs.fast.plain_texts.set_plain.Goals as goal

pub returns-clause-lines : goal.returns-clause-lines
returns-clause-lines c =
    line_changed c.args.rows.now c.args.row c.index_mut.result.now c.set_plain.new.line (λ (l : LineContent). plain_set l c.args.at c.args.text.now c.args.attrs.now) c.requires.row_in c.index_mut.ensures.value c.in_ok-set_plain.ensures.done
