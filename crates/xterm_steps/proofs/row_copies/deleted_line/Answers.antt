use Rattle.std.proofs.Common.{◌≡◌, ◌++◌, length, replicate, ap, ◌∙◌}
use Rattle.std.specs.Prelude.{min}
use Rattle.cell_base.specs.Attributes.{Attributes, blank_of}
use Rattle.cell_base.specs.Row.{Row, blank}
use Rattle.cell_base.specs.Screen.{Screen}
use Rattle.cell_edits.specs.RowEdits.{cut, cut_prefix}
use Rattle.cell_line.specs.LineContent.{LineContent}
use Rattle.cell_surface.specs.Surface.{shown_by}
use Rattle.screen_effects.specs.Display.{IsDisplay}
use Rattle.screen_effects.specs.Effect.{cursor_row}
use Rattle.xterm_table.specs.RowEdits.{blanks}
use Rattle.xterm_steps.proofs.AddLemmas.{row_width}
use Rattle.xterm_steps.proofs.CopyLemmas.{deleted_is}
use Rattle.xterm_steps.proofs.row_copies.deleted_line.Goals as goal

pub returns : goal.returns
returns g c =
    let s : Screen = (shown_by c.args.surface.now).screen in
    let row : Row = cursor_row s in
    let column = c.args.column in
    let count = c.args.count in
    let lawful : IsDisplay (shown_by c.args.surface.now) = c.dimensions-width.ensures.lawful c.requires.stays in
    let start : c.in_ok-line.line.columns ≡ row = ap (λ (l : LineContent). l.columns) c.in_ok-line.ensures ∙ c.cursor_line.ensures in
    let plain : c.blank_attributes-blank.result ≡ blank_of s.pen.background =
    c.blank_attributes-blank.ensures ∙ ap blank_of (c.background.ensures ∙ ap (λ (pen : Attributes). pen.background) c.pen.ensures) in
    let come : c.resize_and_clear.new.self.columns ≡ blanks count s =
    ap (λ (l : LineContent). l.columns) c.in_ok-resize_and_clear.ensures.done ∙ ap (λ (a : Attributes). replicate count (blank a)) plain in
    let kept : c.split_off.new.self.columns ≡ cut (min column (length row)) row =
    ap (λ (l : LineContent). l.columns) c.in_ok-deleted.ensures.kept ∙ ap (λ (r : Row). cut (min column (length r)) r) start in
    let rest : c.in_ok-deleted.deleted.columns ≡ cut_prefix (min column (length row)) row =
    ap (λ (l : LineContent). l.columns) c.in_ok-deleted.ensures.rest ∙ ap (λ (r : Row). cut_prefix (min column (length r)) r) start in
    let moved : c.in_ok-moved.moved.columns ≡ cut_prefix (min count (length (cut_prefix (min column (length row)) row))) (cut_prefix (min column (length row)) row) =
    ap (λ (l : LineContent). l.columns) c.in_ok-moved.ensures.rest ∙ ap (λ (r : Row). cut_prefix (min count (length r)) r) rest in
    let joined : c.append_line.new.self.columns ≡ cut_prefix (min count (length (cut_prefix (min column (length row)) row))) (cut_prefix (min column (length row)) row) ++ blanks count s =
    ap (λ (l : LineContent). l.columns) c.in_ok-append_line.ensures.done ∙ (λ i. moved i ++ come i) in
    ap (λ (l : LineContent). l.columns) c.in_ok-append_line-2.ensures.done
    ∙ (λ i. kept i ++ joined i)
    ∙ deleted_is row (blanks count s) s.width column count (row_width (shown_by c.args.surface.now) lawful) c.requires.within
