use Rattle.std.proofs.Common.{◌≡◌, false, ◌∙◌, ◌∷◌, [], sym, ap}
use Rattle.std.specs.Prelude.{map, if◌then◌else◌}
use Rattle.std.proofs.lemmas.Result.{IfOk-weaker}
use Rattle.cell_base.specs.CellContent.{row_of_cells}
use Rattle.cell_base.specs.Row.{Row}
use Rattle.cell_line.specs.LineContent.{line_of}
use Rattle.cell_edits.specs.VisibleCells.{visible_cells, contents, is_space, is_whitespace_row}
use Rattle.cell_line.specs.Wrapped.{rows_of, texts_kept}
use Rattle.cell_line.specs.OpenRows.{rows_from, texts_up_to}
use Rattle.cell_views.proofs.KeptLemmas.{in_order, kept_some}
use Rattle.cell_line.proofs.WrapLemmas.{rows_filled, texts_are_kept}
use Rattle.cell_line.proofs.line.Line.wrap.Goals as goal

pub returns : goal.returns
returns c =
    let line = c.args.self in
    let spaces : is_whitespace_row line.columns ≡ false = sym c.is_whitespace.ensures ∙ c.if-is_whitespace.false in
    let columns : row_of_cells c.in_ok-cells.cells.items ≡ line.columns = c.in_ok-cells.ensures.cells in
    let kept = texts_kept (visible_cells line.columns) in
    IfOk-weaker c.rows.result _ _
    (λ lines p. p
    ∙ ap (λ (r : Row). map (line_of c.args.seqno) (rows_from c.args.width [] (contents (texts_up_to (visible_cells r))))) columns
    ∙ ap (λ vs. map (line_of c.args.seqno) (rows_from c.args.width [] (contents vs))) (kept_some is_space (visible_cells line.columns) (in_order 0 line.columns) spaces)
    ∙ ap (map (line_of c.args.seqno)) (rows_filled c.args.width kept (texts_are_kept (visible_cells line.columns) spaces))
    ∙ sym (ap (λ t. if t then line ∷ [] else map (line_of c.args.seqno) (rows_of c.args.width kept)) spaces))
    c.rows.ensures
