use Rattle.std.proofs.Common.{◌≡◌, ◌++◌, map, take}
use Rattle.std.specs.String.{string_bytes}
use Rattle.screen_formats.specs.Tokens.{tokens_text}
use Rattle.screen_formats.specs.Svg.{svg_rows}
use Rattle.screen_formats.specs.declared.escape.Markup.TheVariants.{Xml}
use Rattle.screen_formats.proofs.svg.push_rows.Given as goal

-- the rows so far are written
abbrev pub invariant-loop-row : goal.invariant-loop-row
invariant-loop-row l = string_bytes l.out ≡ string_bytes l.initial.out ++ tokens_text Xml (svg_rows 0 (map (λ line. line.columns) (take l.row l.lines)))
