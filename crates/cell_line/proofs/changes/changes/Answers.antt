use Rattle.std.proofs.Common.{◌∙◌, sym}
use Rattle.cell_base.specs.Row.{Row}
use Rattle.cell_edits.specs.VisibleCells.{visible_cells}
use Rattle.cell_line.proofs.ChangeLemmas.{row_of_blanks, row_before_blanks}
use Rattle.cell_views.proofs.KeptLemmas.{in_order}
use Rattle.cell_views.specs.StoredCells.{stored_row}
use Rattle.cell_line.proofs.changes.changes.Goals as goal

pub returns-in_ok-changes-in-None : goal.returns-in_ok-changes-in-None
returns-in_ok-changes-in-None c =
    let row : Row = stored_row c.args.cells in
    c.in_ok-changes-in-None.ensures
    ∙ sym (row_of_blanks c.args.start.now c.in-Some.color (visible_cells row) (in_order 0 row) (sym c.in-Some.ensures) (sym c.in-None.ensures))

pub returns-in_ok-changes-in-Some-last_non_blank : goal.returns-in_ok-changes-in-Some-last_non_blank
returns-in_ok-changes-in-Some-last_non_blank c =
    let row : Row = stored_row c.args.cells in
    c.in_ok-changes-in-Some-last_non_blank.ensures
    ∙ sym (row_before_blanks c.args.start.now c.in-Some.color c.in-Some-last_non_blank.last (visible_cells row) (in_order 0 row) (sym c.in-Some.ensures) (sym c.in-Some-last_non_blank.ensures))
