use Rattle.std.proofs.Common.{◌≡◌, ◌++◌, take}
use Rattle.std.specs.List.{flat_map}
use Rattle.std.specs.String.{string_bytes}
use Rattle.screen_formats.specs.Html.{html_row}
use Rattle.screen_formats.specs.Tokens.{tokens_text}
use Rattle.screen_formats.specs.declared.escape.Markup.TheVariants.{Html}
use Rattle.screen_formats.proofs.html.push_rows.Given as goal

-- the rows so far are written
abbrev pub invariant-loop-line : goal.invariant-loop-line
invariant-loop-line l = string_bytes l.out ≡ string_bytes l.initial.out ++ tokens_text Html (flat_map (λ line. html_row line.columns) (take l.line-index l.lines))
