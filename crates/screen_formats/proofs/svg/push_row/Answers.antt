use Rattle.std.proofs.Common.{true, false, ◌++◌, ◌∙◌, List, ap}
use Rattle.std.specs.List.{flat_map}
use Rattle.std.specs.String.{string_bytes}
use Rattle.screen_formats.specs.Tokens.{tokens_text}
use Rattle.screen_formats.specs.Runs.{Run}
use Rattle.screen_formats.specs.Svg.{svg_part, svg_row}
use Rattle.screen_formats.specs.declared.escape.Markup.TheVariants.{Xml}
use Rattle.screen_formats.proofs.TokenLemmas.{written_more}
use Rattle.screen_formats.proofs.svg.push_row.Goals as goal

pub returns : goal.returns
unfolding svg_row
returns c =
    let first = c.deref.ensures.value ∙ c.in_ok-runs.ensures in
    let second = c.deref-2.ensures.value ∙ c.in_ok-runs.ensures in
    let papers = c.in_ok-push_parts.ensures ∙ ap (λ (runs : List Run). string_bytes c.args.out.now ++ tokens_text Xml (flat_map (svg_part false c.args.row) runs)) first in
    let texts = c.in_ok-push_parts-2.ensures ∙ ap (λ (runs : List Run). string_bytes c.push_parts.new.out ++ tokens_text Xml (flat_map (svg_part true c.args.row) runs)) second in
    written_more Xml _ _ _ _ _ papers texts
