use Rattle.std.proofs.Common.{◌++◌, List, ℕ, ap, ◌∙◌}
use Rattle.std.specs.Prelude.{codes, decimal}
use Rattle.screen_formats.specs.Html.{cursor_style}
use Rattle.screen_formats.proofs.html.cursor_style.Goals as goal

pub returns : goal.returns
unfolding cursor_style
returns c =
    c.in_ok-style.ensures.ok
    ∙ ap (λ (color : List ℕ). codes "position:absolute;left:" ++ (decimal c.args.column ++ (codes "ch;top:calc(1.25em*" ++ (decimal c.args.row
    ++ (codes ");width:1ch;height:1.25em;opacity:0.5;" ++ color))))) c.in_ok-color.ensures
