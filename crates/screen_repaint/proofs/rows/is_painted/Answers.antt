use Rattle.std.proofs.Common.{rules, ◌≡◌, ◌<◌, ap, sym, ◌∙◌, arith}
use Rattle.std.specs.Option.{option_map}
use Rattle.cell_base.specs.declared.color.ColorAttribute.{ColorAttribute}
use Rattle.screen_change.specs.CellChanges.{clear_due}
use Rattle.screen_change.specs.CellRuns.{background_at_end}
use Rattle.screen_repaint.specs.Ends.{End, end_of}
use Rattle.screen_repaint.specs.Repaint.{are_some, go_with_blanks}
use Rattle.screen_repaint.proofs.PaintLemmas.{painted_prefix, nothing_painted, blanks_painted}
use Rattle.screen_repaint.proofs.rows.is_painted.Goals as goal

pub returns-then-kept-gt0 : goal.returns-then-kept-gt0
returns-then-kept-gt0 c pen cells below e =
    let is : c.kept.result ≡ (end_of cells).kept = c.kept.ensures ∙ ap (λ (x : End). x.kept) e in
    let some : 0 < c.kept.result = search rules in
    sym (painted_prefix pen cells (go_with_blanks (background_at_end cells) below) (omega arith))

pub returns-in-None : goal.returns-in-None
returns-in-None c pen cells below e =
    let is : c.kept.result ≡ (end_of cells).kept = c.kept.ensures ∙ ap (λ (x : End). x.kept) e in
    let none : c.kept.result ≡ 0 = search rules in
    sym
    (nothing_painted pen cells (go_with_blanks (background_at_end cells) below) (sym is ∙ none)
    (ap (λ (x : End). x.blanks) (sym e) ∙ sym c.blanks.ensures ∙ ap (option_map (λ a. a.now)) c.in-None.is))

pub returns-in-Some : goal.returns-in-Some
returns-in-Some c pen cells below e =
    let is : c.kept.result ≡ (end_of cells).kept = c.kept.ensures ∙ ap (λ (x : End). x.kept) e in
    let none : c.kept.result ≡ 0 = search rules in
    c.is_coloured.ensures
    ∙ ap (λ (k : ColorAttribute). are_some (clear_due k)) c.background.ensures
    ∙ blanks_painted pen cells below c.in-Some.attrs.now (sym is ∙ none) (ap (λ (x : End). x.blanks) (sym e) ∙ sym c.blanks.ensures ∙ ap (option_map (λ a. a.now)) c.in-Some.is)
