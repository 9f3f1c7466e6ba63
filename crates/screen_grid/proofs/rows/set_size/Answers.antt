use Rattle.cell_line.specs.LineContent.{LineContent, with_bits}
use Rattle.screen_grid.proofs.LineLemmas.{line_changed}
use Rattle.screen_grid.proofs.rows.set_size.Goals as goal

pub returns : goal.returns
returns c = line_changed c.args.rows.now c.args.row c.index_mut.result.now c.size_line.new.line (λ (l : LineContent). with_bits l 0 c.args.size) c.requires c.index_mut.ensures.value c.size_line.ensures
