use Rattle.std.proofs.Common.{rules, ◌≡◌, false}
use Rattle.screen_formats.specs.Svg.{svg_cursor}
use Rattle.screen_formats.specs.declared.escape.Markup.TheVariants.{Xml}
use Rattle.screen_formats.proofs.TokenLemmas.{written_none}
use Rattle.screen_formats.proofs.svg.push_cursor.Goals as goal

pub returns-then-eq : goal.returns-then-eq
unfolding svg_cursor
returns-then-eq g c =
    let hidden : c.args.surface.now.grid.visible ≡ false = search rules in
    rw hidden (written_none Xml _)
