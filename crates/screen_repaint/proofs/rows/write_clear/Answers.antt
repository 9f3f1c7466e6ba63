use Rattle.std.proofs.Common.{◌≡◌, ap, ◌∙◌}
use Rattle.std.specs.Option.{option_map}
use Rattle.cell_base.specs.declared.color.ColorAttribute.{ColorAttribute}
use Rattle.screen_change.specs.Written.{with_change}
use Rattle.screen_change.specs.ChangeValue.{ClearToEndOfLine, ClearToEndOfScreen}
use Rattle.screen_repaint.proofs.PaintLemmas.{cleared_too, cleared_alone}
use Rattle.screen_repaint.proofs.rows.write_clear.Goals as goal

pub returns-then-below_too : goal.returns-then-below_too
returns-then-below_too c =
    let color : c.background-color.result ≡ c.in-Some.attrs.now.background = c.background-color.ensures in
    cleared_too (option_map (λ a. a.now.background) c.args.blanks) c.in-Some.attrs.now.background c.args.below_too c.in-Some.attrs.now _ c.args.writer.now
    (ap (option_map (λ a. a.now.background)) c.in-Some.is) c.if-below_too.true
    (c.requires c.in-Some.attrs.now (ap (option_map (λ a. a.now)) c.in-Some.is))
    (c.in_ok-push_clear.ensures ∙ ap (λ (k : ColorAttribute). record (with_change (ClearToEndOfScreen k) c.args.writer.now) { pen = c.in-Some.attrs.now }) color)

pub returns-in_ok-push_clear-in_default-color : goal.returns-in_ok-push_clear-in_default-color
returns-in_ok-push_clear-in_default-color c =
    let color : c.background-color.result ≡ c.in-Some.attrs.now.background = c.background-color.ensures in
    cleared_alone (option_map (λ a. a.now.background) c.args.blanks) c.in-Some.attrs.now.background c.args.below_too c.in-Some.attrs.now _ c.args.writer.now
    (ap (option_map (λ a. a.now.background)) c.in-Some.is) c.if-below_too.false
    (λ e. c.in_default-color.not-Default (color ∙ e))
    (c.requires c.in-Some.attrs.now (ap (option_map (λ a. a.now)) c.in-Some.is))
    (c.in_ok-push_clear-in_default-color.ensures ∙ ap (λ (k : ColorAttribute). record (with_change (ClearToEndOfLine k) c.args.writer.now) { pen = c.in-Some.attrs.now }) color)
