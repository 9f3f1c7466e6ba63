use Rattle.std.proofs.Common.{rules, ◌≡◌, false}
use Rattle.screen_formats.specs.Html.{html_cursor}
use Rattle.screen_formats.specs.declared.escape.Markup.TheVariants.{Html}
use Rattle.screen_formats.proofs.TokenLemmas.{written_none}
use Rattle.screen_formats.proofs.html.push_cursor.Goals as goal

pub returns-then-eq : goal.returns-then-eq
unfolding html_cursor
returns-then-eq g c =
    let hidden : c.args.surface.now.grid.visible ≡ false = search rules in
    rw hidden (written_none Html _)
