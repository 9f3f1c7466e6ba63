use Rattle.std.proofs.Common.{◌∙◌, sym, arith}
use Rattle.cell_views.proofs.ColumnLemmas.{cell_found, none_found, none_past}
use Rattle.cell_views.proofs.query.cell_read_at.Goals as goal

pub returns-then-cells-column : goal.returns-then-cells-column
returns-then-cells-column c = none_past c.args.cells.now c.args.column c.if-cells-column.true

pub returns-then-is_split : goal.returns-then-is_split
returns-then-is_split c = sym (none_found c.args.cells.now 0 c.args.column c.args.column (omega arith) (sym c.if-is_split.ensures))

pub returns : goal.returns
returns c = c.first_from.ensures ∙ sym (cell_found c.args.cells.now 0 c.args.column c.args.column (omega arith) (sym c.if-is_split.ensures))
