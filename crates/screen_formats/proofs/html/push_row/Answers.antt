use Rattle.std.proofs.Common.{rules, ◌≡◌, ◌<◌, ◌≤◌, ◌∙◌, length, get_or}
use Rattle.screen_formats.specs.Html.{html_run}
use Rattle.screen_formats.specs.declared.escape.Markup.TheVariants.{Html}
use Rattle.screen_formats.proofs.TokenLemmas.{written_all, written_item, written_none}
use Rattle.screen_formats.proofs.html.push_row.Goals as goal

pub loop-run-init : goal.loop-run-init
loop-run-init c = written_none Html _

pub loop-run-preserved : goal.loop-run-preserved
loop-run-preserved c =
    let items = c.deref-run-items.result.now in
    let less : c.loop-run.run-index < length items = search rules in
    let item : get_or items c.loop-run.run-index c.run-item.result ≡ c.run-item.result = search rules in
    written_item Html html_run items c.loop-run.run-index c.run-item.result _ _ _ less item c.loop-run.invariant c.in_ok-push_run.ensures

pub returns : goal.returns
returns c =
    let items = c.deref-run-items.result.now in
    let all : length items ≤ c.loop-run.run-index = search rules in
    written_all Html html_run items _ c.loop-run.run-index _ _ _ _ all (c.deref-run-items.ensures.value ∙ c.in_ok-runs.ensures) c.loop-run.invariant c.in_ok-push_words.ensures
