use Rattle.std.proofs.Common.{◌≡◌, ℕ, List, take, ap, sym, ◌∙◌}
use Rattle.std.specs.Option.{option_map}
use Rattle.cell_base.specs.CellContent.{CellContent}
use Rattle.screen_change.specs.Written.{Written, with_cells}
use Rattle.screen_repaint.specs.Ends.{End, end_of}
use Rattle.screen_repaint.specs.PaintedRows.{ended, with_changes}
use Rattle.screen_repaint.specs.Repaint.{row_cells, end_cleared}
use Rattle.screen_repaint.proofs.EndLemmas.{ends}
use Rattle.screen_repaint.proofs.PaintLemmas.{row_written, background_now}
use Rattle.screen_repaint.proofs.rows.write_row.Goals as goal

pub write_clear-requires : goal.write_clear-requires
write_clear-requires c attributes e =
    let cells : List CellContent = row_cells c.args.line.now.columns in
    (ends cells).plain attributes (sym (ap (λ (e : End). e.blanks) c.requires.end) ∙ sym c.blanks.ensures ∙ e)

pub returns : goal.returns
returns c =
    let cells : List CellContent = row_cells c.args.line.now.columns in
    let prefix : c.kept.result ≡ (end_of cells).kept = c.kept.ensures ∙ ap (λ (e : End). e.kept) c.requires.end in
    row_written c.args.writer.now c.write_clear.new.writer cells c.args.below_too (option_map (λ a. a.now.background) c.blanks.result) c.requires.ended
    (background_now c.blanks.result (end_of cells).blanks (c.blanks.ensures ∙ ap (λ (e : End). e.blanks) c.requires.end) ∙ sym (ends cells).background)
    (c.in_ok-write_clear.ensures
    ∙ ap (λ (w : Written). with_changes (end_cleared (option_map (λ a. a.now.background) c.blanks.result) c.args.below_too) (ended w)) (c.in_ok-write_cells.ensures ∙ ap (λ (n : ℕ). with_cells c.args.writer.now (take n cells)) prefix))
