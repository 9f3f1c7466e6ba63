use Rattle.std.proofs.Common.{rules, ◌≡◌, ◌<◌, ◌≤◌, ◌++◌, ◌∙◌, List, length, get_or, ap, sym}
use Rattle.std.specs.List.{flat_map}
use Rattle.std.specs.String.{string_bytes}
use Rattle.std.proofs.lemmas.List.{take_all}
use Rattle.std.proofs.lemmas.List.Folds.{flat_map-map}
use Rattle.cell_line.specs.LineContent.{LineContent}
use Rattle.screen_formats.specs.Html.{html_row}
use Rattle.screen_formats.specs.Tokens.{tokens_text}
use Rattle.screen_formats.specs.declared.escape.Markup.TheVariants.{Html}
use Rattle.screen_formats.proofs.TokenLemmas.{written_item, written_none}
use Rattle.screen_formats.proofs.html.push_rows.Goals as goal

pub loop-line-init : goal.loop-line-init
loop-line-init c = written_none Html _

pub loop-line-preserved : goal.loop-line-preserved
loop-line-preserved c =
    let less : c.loop-line.line-index < length c.args.lines.now = search rules in
    let item : get_or c.args.lines.now c.loop-line.line-index c.line-item.result ≡ c.line-item.result = search rules in
    written_item Html (λ (line : LineContent). html_row line.columns) c.args.lines.now c.loop-line.line-index c.line-item.result _ _ _ less item c.loop-line.invariant c.in_ok-push_row.ensures

pub returns : goal.returns
returns c =
    let all : length c.args.lines.now ≤ c.loop-line.line-index = search rules in
    c.loop-line.invariant
    ∙ ap (λ (lines : List LineContent). string_bytes c.args.out.now ++ tokens_text Html (flat_map (λ line. html_row line.columns) lines)) (take_all c.loop-line.line-index c.args.lines.now all)
    ∙ ap (λ tokens. string_bytes c.args.out.now ++ tokens_text Html tokens) (sym (flat_map-map html_row (λ line. line.columns) c.args.lines.now))
