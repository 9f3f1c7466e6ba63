use Rattle.std.proofs.Common.{rules, ◌≡◌, false}
use Rattle.screen_formats.specs.Colors.{has_background}
use Rattle.screen_formats.specs.Svg.{svg_background}
use Rattle.screen_formats.specs.declared.escape.Markup.TheVariants.{Xml}
use Rattle.screen_formats.proofs.TokenLemmas.{written_none}
use Rattle.screen_formats.proofs.svg.push_background.Goals as goal

pub returns-then-not-has_background : goal.returns-then-not-has_background
unfolding svg_background
returns-then-not-has_background c =
    let none : has_background c.args.run.now.attributes ≡ false = search rules in
    rw none (written_none Xml _)
