use Rattle.std.proofs.Common.{◌≡◌, ◌∙◌, rules, sym, subst, arith}
use Rattle.cell_views.specs.CellRefView.{cells_left, shown_by}
use Rattle.screen_change.specs.Written.{Written}
use Rattle.screen_repaint.specs.PaintedRows.{WritesOn}
use Rattle.screen_repaint.proofs.StretchLemmas.{cell_is_written}
use Rattle.screen_repaint.proofs.rows.write_next.Goals as goal

pub returns : goal.returns
returns c =
    let same : (c.write_plain.new.writer ≡ c.args.writer.now) × (cells_left c.write_plain.new.cells ≡ cells_left c.args.cells.now) = search rules in
    subst (λ (w : Written). WritesOn c.args.most w (cells_left c.args.cells.now) 1 c.push_cell.new.self (cells_left c.next.new.self)) same.0
    (cell_is_written (shown_by c.in-Some-next.cell) c.write_plain.new.writer c.push_cell.new.self c.args.most (cells_left c.args.cells.now) (cells_left c.next.new.self)
    (sym same.1 ∙ c.in-Some-next.ensures.steps)
    (let asked = c.if-most-eq0.false in omega arith)
    (search rules))
