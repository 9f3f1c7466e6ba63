use Rattle.std.proofs.Common.{rules, ◌≡◌, ◌++◌, ℕ, List, ap, ◌∙◌}
use Rattle.std.specs.String.{string_bytes}
use Rattle.cell_views.specs.CellRefView.{cells_left}
use Rattle.cell_edits.specs.VisibleCells.{visible_cells, texts_joined}
use Rattle.cell_views.proofs.VisibleLemmas.{texts_of_visible}
use Rattle.cell_surface.proofs.contents.push_line.Goals as goal

pub loop-cell-init : goal.loop-cell-init
loop-cell-init c =
    let cells : cells_left c.into_iter-cell-iterator.result ≡ visible_cells c.args.line.now.columns = search rules in
    ap (λ (bytes : List ℕ). string_bytes c.args.text.now ++ bytes) (ap texts_joined cells ∙ texts_of_visible 0 c.args.line.now.columns)
