use Rattle.std.proofs.Common.{rules, ◌≡◌, ◌∙◌, true, false, ap, sym}
use Rattle.std.specs.Prelude.{◌&&◌, ◌==◌}
use Rattle.std.specs.List.{list_all}
use Rattle.cell_base.specs.SameAttributes.{same_attributes}
use Rattle.cell_edits.specs.VisibleCells.{first_column}
use Rattle.cell_views.specs.CellRefView.{cells_left}
use Rattle.screen_repaint.proofs.StretchLemmas.{stretch_spaces}
use Rattle.screen_repaint.proofs.fast.plain_cells.pass_plain_spaces.Goals as goal

pub returns-then-is_spaces : goal.returns-then-is_spaces
returns-then-is_spaces c =
    let same : c.eq.result ≡ same_attributes c.in_ok-text.own.now c.args.attrs.now = search rules in
    let spaces : list_all (λ byte. byte == 32) c.in_ok-text.text.now ≡ true = search rules in
    stretch_spaces (first_column (cells_left c.args.cells.now)) c.in_ok-text.text.now c.in_ok-text.own.now c.args.attrs.now (cells_left c.args.cells.now) (cells_left c.pass_plain.new.self) c.eq.result
    c.in_ok-text.ensures.left c.in_ok-text.ensures.some.0
    (same ∙ ap (λ b. b && same_attributes c.in_ok-text.own.now c.args.attrs.now) (sym spaces))

pub returns-else-is_spaces : goal.returns-else-is_spaces
returns-else-is_spaces c =
    let spaces : c.is_spaces.result ≡ false = search rules in
    let remaining : list_all (λ byte. byte == 32) c.in_ok-text.text.now ≡ false = search rules in
    stretch_spaces (first_column (cells_left c.args.cells.now)) c.in_ok-text.text.now c.in_ok-text.own.now c.args.attrs.now (cells_left c.args.cells.now) (cells_left c.pass_plain.new.self) c.is_spaces.result
    c.in_ok-text.ensures.left c.in_ok-text.ensures.some.0
    (spaces ∙ ap (λ b. b && same_attributes c.in_ok-text.own.now c.args.attrs.now) (sym remaining))
