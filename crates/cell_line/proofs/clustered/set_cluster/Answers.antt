use Rattle.std.proofs.Common.{rules, ◌≡◌, ◌+◌, ◌∙◌, sym, ap, arith}
use Rattle.cell_base.specs.CellContent.{cell_of}
use Rattle.cell_base.specs.Row.{Row, set_columns}
use Rattle.cell_edits.specs.CellList.{cell_columns}
use Rattle.cell_edits.specs.RowEdits.{padded}
use Rattle.clustered_row.proofs.SetLemmas.{count_cell}
use Rattle.cell_line.proofs.clustered.set_cluster.Goals as goal

pub set_cell-requires-clause-within : goal.set_cell-requires-clause-within
set_cell-requires-clause-within c =
    let n = count_cell c.args.text.now c.args.width c.columns_for.result c.args.attrs.now (c.columns_for.ensures.value c.args.attrs.now) c.columns_for.ensures.some c.columns_for.ensures.most in
    let e : c.in-Some.end ≡ c.args.at + c.columns_for.result = search rules in
    omega (arith, c.in_ok-pad.ensures.len)

pub returns : goal.returns
returns c =
    let columns = cell_columns (cell_of c.args.text.now c.args.width c.args.attrs.now) in
    let n = count_cell c.args.text.now c.args.width c.columns_for.result c.args.attrs.now (c.columns_for.ensures.value c.args.attrs.now) c.columns_for.ensures.some c.columns_for.ensures.most in
    let e : c.in-Some.end ≡ c.args.at + c.columns_for.result = search rules in
    c.in_ok-set_cell.ensures.done ∙ ap (λ (r : Row). set_columns r c.args.at columns) (c.in_ok-pad.ensures.row ∙ ap (λ k. padded k c.args.row.now) (e ∙ ap (λ k. c.args.at + k) (sym n)))
