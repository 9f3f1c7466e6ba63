use Rattle.std.proofs.Common.{◌≡◌, ℕ, Bool, List, Option, ◌∙◌, ◌++◌, ◌∷◌, [], true, length, sym, ap}
use Rattle.std.specs.Prelude.{map, filter, vec_len, if◌then◌else◌}
use Rattle.cell_base.specs.CellContent.{CellContent, row_of_cells}
use Rattle.cell_base.specs.Row.{Row}
use Rattle.cell_line.specs.LineContent.{LineContent, line_of}
use Rattle.cell_edits.specs.CellList.{cell_columns}
use Rattle.cell_views.specs.ReadCells.{read_from}
use Rattle.cell_line.specs.TakenCells.{taken_left}
use Rattle.cell_edits.specs.VisibleCells.{VisibleCell, visible_cells, contents, row_end_wrapped}
use Rattle.cell_line.specs.OpenRows.{breaks, rows_from, last_text}
use Rattle.cell_views.specs.OpenZones.{is_kept_by}
use Rattle.cell_edits.proofs.CellLemmas.{length-row}
use Rattle.cell_line.proofs.PlacedLemmas.{placed, rows_read}
use Rattle.cell_line.proofs.wrap.fill_rows.Goals as goal

pub loop-column-preserved-in-Continue-1 : goal.loop-column-preserved-in-Continue-1
loop-column-preserved-in-Continue-1 c =
    let lines = c.loop-column.lines.items in
    let row : Row = row_of_cells c.loop-column.open.items in
    let width = c.args.width in
    let cell = c.in-Some.cell in
    let p : ℕ → Bool = is_kept_by c.last_text-last.result in
    let v : VisibleCell = record { column = c.in-Some.column; cell = cell } in
    let left : List VisibleCell = filter (λ w. p w.column) (taken_left c.next.new.self) in
    let rest : Row → List Row = λ r. rows_from width r (contents left) in
    let there : vec_len c.loop-column.open ≡ length row = c.loop-column.open.ok.0 ∙ sym (length-row c.loop-column.open.items) in
    let kept : p c.in-Some.column ≡ true = sym c.is_kept.ensures ∙ c.if-is_kept.true in
    record {
      whole = c.in_ok-append_cell.ensures.whole;
      lines =
          placed (breaks width (length row) cell) lines c.append_cell.new.lines.items (row_end_wrapped true row) (row_of_cells c.append_cell.new.row.items) (cell_columns cell) (row ++ cell_columns cell) c.args.seqno rest
          (c.in_ok-append_cell.ensures.lines ∙ ap (λ n. if breaks width n cell then lines ++ line_of c.args.seqno (row_end_wrapped true row) ∷ [] else lines) there)
          (c.in_ok-append_cell.ensures.row ∙ ap (λ n. if breaks width n cell then cell_columns cell else row ++ cell_columns cell) there)
          ∙ ap (λ (ws : List VisibleCell). lines ++ map (line_of c.args.seqno) (rows_from width row (contents ws))) (sym (ap (λ t. if t then v ∷ left else left) kept) ∙ sym (ap (filter (λ w. p w.column)) c.in-Some.ensures.steps))
          ∙ c.loop-column.invariant.lines;
    }

pub returns : goal.returns
returns c =
    let cells = c.args.cells.items in
    let lines = c.loop-column.lines.items in
    let row : Row = row_of_cells c.loop-column.open.items in
    let width = c.args.width in
    let p : ℕ → Bool = is_kept_by c.last_text-last.result in
    c.in_ok-push.ensures.items ∙ ap (λ (l : LineContent). lines ++ l ∷ []) c.from_cells.ensures
    ∙ ap (λ (ws : List VisibleCell). lines ++ map (line_of c.args.seqno) (rows_from width row (contents (filter (λ w. p w.column) ws)))) (sym c.in-None.ensures.steps.0)
    ∙ c.loop-column.invariant.lines
    ∙ ap (λ (o : Option ℕ). map (line_of c.args.seqno) (rows_from width [] (contents (filter (λ w. is_kept_by o w.column) (read_from 0 cells))))) (c.last_text-last.ensures ∙ ap (λ (cs : List CellContent). last_text (visible_cells (row_of_cells cs))) c.deref.ensures.value)
    ∙ ap (map (line_of c.args.seqno)) (rows_read width cells c.requires)
