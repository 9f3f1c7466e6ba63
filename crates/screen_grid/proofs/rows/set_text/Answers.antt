use Rattle.std.proofs.Common.{length, ap, ◌∙◌, drop}
use Rattle.cell_base.specs.Cluster.{clusters}
use Rattle.cell_line.specs.LineCalls.{set_text as text_set, set_text_end, set_clusters}
use Rattle.cell_line.specs.LineContent.{LineContent}
use Rattle.screen_grid.proofs.LineLemmas.{line_is, line_changed}
use Rattle.screen_grid.proofs.rows.set_text.Goals as goal

pub returns-clause-lines : goal.returns-clause-lines
returns-clause-lines g c =
    let x = c.index_mut-line.result.now in
    let width_of = g.W.Widths.width_of c.args.w.now in
    line_changed c.args.rows.now c.args.row x c.set_text.new.line (λ (l : LineContent). text_set l c.args.at (length l.columns) c.args.text.now c.args.attrs.now width_of) c.requires.row_in c.index_mut-line.ensures.value
    (c.in_ok-column.ensures.done ∙ ap (λ w. text_set x c.args.at w c.args.text.now c.args.attrs.now width_of) c.len-width.ensures.value)

pub returns-clause-after : goal.returns-clause-after
returns-clause-after g c =
    let there = line_is c.args.rows.now c.args.row c.index_mut-line.result.now c.requires.row_in c.index_mut-line.ensures.value in
    c.in_ok-column.ensures.after ∙ ap (λ w. set_text_end c.args.at w c.args.text.now c.args.attrs.now (g.W.Widths.width_of c.args.w.now)) (c.len-width.ensures.value ∙ ap (λ (l : LineContent). length l.columns) there)

pub returns-clause-rest : goal.returns-clause-rest
returns-clause-rest g c =
    let there = line_is c.args.rows.now c.args.row c.index_mut-line.result.now c.requires.row_in c.index_mut-line.ensures.value in
    c.in_ok-column.ensures.rest ∙ ap (λ w. drop (set_clusters c.args.at w c.args.text.now c.args.attrs.now (g.W.Widths.width_of c.args.w.now)) (clusters c.args.text.now)) (c.len-width.ensures.value ∙ ap (λ (l : LineContent). length l.columns) there)
