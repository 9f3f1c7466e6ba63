use Rattle.std.proofs.Common.{◌≡◌, ◌++◌, take}
use Rattle.std.specs.List.{flat_map}
use Rattle.std.specs.String.{string_bytes}
use Rattle.screen_formats.specs.Tokens.{tokens_text}
use Rattle.screen_formats.specs.Svg.{svg_part}
use Rattle.screen_formats.specs.declared.escape.Markup.TheVariants.{Xml}
use Rattle.screen_formats.proofs.svg.push_parts.Given as goal

-- those of the runs so far are written
abbrev pub invariant-loop-run : goal.invariant-loop-run
invariant-loop-run l = string_bytes l.out ≡ string_bytes l.initial.out ++ tokens_text Xml (flat_map (svg_part l.is_text l.row) (take l.run-index l.runs))
