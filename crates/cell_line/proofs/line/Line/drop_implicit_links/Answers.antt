use Rattle.std.proofs.Common.{◌≡◌, ◌∙◌, List, ap, length}
use Rattle.std.specs.Prelude.{map}
use Rattle.cell_base.specs.CellContent.{CellContent, row_of_cells}
use Rattle.cell_edits.specs.Links.{cell_without_implicit, column_with, without_implicit}
use Rattle.cell_edits.proofs.LinkLemmas.{written, row_without}
use Rattle.cell_line.proofs.line.Line.drop_implicit_links.Goals as goal

pub returns-clause-done : goal.returns-clause-done
returns-clause-done c =
    let cells = c.in_ok-cells.cells in
    let same : length c.drop_implicit_links.new.cells ≡ length cells.items = c.drop_implicit_links.auto.cells ∙ ap length c.deref_mut.ensures.value in
    let columns = ap row_of_cells (written cells c.drop_implicit_links.new.cells same ∙ c.drop_implicit_links.ensures) ∙ ap (λ (xs : List CellContent). row_of_cells (map cell_without_implicit xs)) c.deref_mut.ensures.value
    ∙ row_without cells.items ∙ ap (map (column_with without_implicit)) c.in_ok-cells.ensures.cells in
    let rest = c.open.ensures.rest in
    c.in_ok-close.ensures.done ∙ (λ i. record { number = (rest i).number; bits = (rest i).bits; columns = columns i; clustered = (rest i).clustered })
