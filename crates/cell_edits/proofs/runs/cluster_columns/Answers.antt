use Rattle.std.proofs.Common.{◌≤◌, ◌<◌, length, ap, sym, arith}
use Rattle.cell_base.specs.CellContent.{cell_of}
use Rattle.cell_base.specs.Row.{columns_of}
use Rattle.cell_edits.proofs.CellLemmas.{wide_is, narrow_is}
use Rattle.cell_edits.proofs.runs.cluster_columns.Goals as goal

pub returns-then-columns_for-ge2 : goal.returns-then-columns_for-ge2
returns-then-columns_for-ge2 c a =
    let cell = cell_of c.args.cluster.now c.args.width a in
    let value = c.columns_for.ensures.value a in
    let wide : 2 ≤ cell.width = omega (arith, value, c.if-columns_for-ge2.true) in
    ap (λ t. length (columns_of cell.text t a)) (sym (wide_is cell.width wide))

pub returns-else-columns_for-ge2 : goal.returns-else-columns_for-ge2
returns-else-columns_for-ge2 c a =
    let cell = cell_of c.args.cluster.now c.args.width a in
    let value = c.columns_for.ensures.value a in
    let narrow : cell.width < 2 = omega (arith, value, c.if-columns_for-ge2.false) in
    ap (λ t. length (columns_of cell.text t a)) (sym (narrow_is cell.width narrow))
