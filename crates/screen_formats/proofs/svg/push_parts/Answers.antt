use Rattle.std.proofs.Common.{rules, ◌≡◌, ◌<◌, ◌≤◌, ◌++◌, ◌∙◌, List, length, get_or, ap}
use Rattle.std.specs.List.{flat_map}
use Rattle.std.specs.String.{string_bytes}
use Rattle.std.proofs.lemmas.List.{take_all}
use Rattle.screen_formats.specs.Tokens.{tokens_text}
use Rattle.screen_formats.specs.Runs.{Run}
use Rattle.screen_formats.specs.Svg.{svg_part}
use Rattle.screen_formats.specs.declared.escape.Markup.TheVariants.{Xml}
use Rattle.screen_formats.proofs.TokenLemmas.{written_item, written_none}
use Rattle.screen_formats.proofs.svg.push_parts.Goals as goal

pub loop-run-init : goal.loop-run-init
loop-run-init c = written_none Xml _

pub loop-run-preserved : goal.loop-run-preserved
loop-run-preserved c =
    let less : c.loop-run.run-index < length c.args.runs.now = search rules in
    let item : get_or c.args.runs.now c.loop-run.run-index c.run-item.result ≡ c.run-item.result = search rules in
    written_item Xml (svg_part c.args.is_text c.args.row) c.args.runs.now c.loop-run.run-index c.run-item.result _ _ _ less item c.loop-run.invariant c.in_ok-push_part.ensures

pub returns : goal.returns
returns c =
    let all : length c.args.runs.now ≤ c.loop-run.run-index = search rules in
    c.loop-run.invariant ∙ ap (λ (runs : List Run). string_bytes c.args.out.now ++ tokens_text Xml (flat_map (svg_part c.args.is_text c.args.row) runs)) (take_all c.loop-run.run-index c.args.runs.now all)
