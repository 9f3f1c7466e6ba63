use Rattle.std.proofs.Common.{◌∙◌, ap, arith}
use Rattle.cell_base.specs.CellContent.{row_of_cells}
use Rattle.cell_edits.specs.CellList.{ends_split}
use Rattle.cell_edits.proofs.CellLemmas.{length-row}
use Rattle.cell_edits.proofs.CutLemmas.{still_before, second_cut}
use Rattle.cell_edits.proofs.row.open.Goals as goal

pub returns-in_ok-cut_at-2-clause-whole : goal.returns-in_ok-cut_at-2-clause-whole
returns-in_ok-cut_at-2-clause-whole c =
    ap ends_split (still_before c.cut_at.new.cells.items c.cut_at-then-start-end.new.cells.items c.args.start c.args.end (omega arith) c.in_ok-cut_at-2.ensures.earlier) ∙ c.in_ok-cut_at.ensures.whole

pub returns-in_ok-cut_at-2-clause-before : goal.returns-in_ok-cut_at-2-clause-before
returns-in_ok-cut_at-2-clause-before c =
    ap row_of_cells (still_before c.cut_at.new.cells.items c.cut_at-then-start-end.new.cells.items c.args.start c.args.end (omega arith) c.in_ok-cut_at-2.ensures.earlier) ∙ c.in_ok-cut_at.ensures.before

pub returns-in_ok-cut_at-2-clause-after : goal.returns-in_ok-cut_at-2-clause-after
returns-in_ok-cut_at-2-clause-after c =
    let n = length-row c.args.cells.now.items in
    second_cut c.cut_at.new.cells.items c.cut_at-then-start-end.new.cells.items (row_of_cells c.args.cells.now.items) c.args.start c.args.end (omega arith) (omega arith)
    c.in_ok-cut_at.ensures.whole c.in_ok-cut_at.ensures.before c.in_ok-cut_at.ensures.after c.in_ok-cut_at-2.ensures.after
