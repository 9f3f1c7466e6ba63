use Rattle.std.proofs.Common.{◌++◌, [], List, ℕ, ap, ◌∙◌}
use Rattle.std.specs.Prelude.{codes}
use Rattle.std.specs.String.{string_bytes}
use Rattle.screen_formats.specs.Tokens.{tokens_text}
use Rattle.screen_formats.specs.Svg.{rectangle}
use Rattle.screen_formats.specs.declared.escape.Markup.TheVariants.{Xml}
use Rattle.screen_formats.proofs.TokenLemmas.{written_more}
use Rattle.screen_formats.proofs.svg.push_head.Goals as goal

pub returns : goal.returns
returns c =
    let fill = c.deref.ensures ∙ c.in_ok-fill.ensures in
    let after = c.in_ok-push_rectangle.ensures ∙ ap (λ (t : List ℕ). string_bytes c.push_element.new.out ++ tokens_text Xml (rectangle (codes "0") (codes "0") c.args.width.now c.args.height.now t [])) fill in
    written_more Xml _ _ _ _ _ c.in_ok-push_svg_opening.ensures (written_more Xml _ _ _ _ _ c.in_ok-push_element.ensures after)
