use Rattle.std.proofs.Common.{rules, ◌≡◌, ◌<◌, length, get_or}
use Rattle.screen_formats.specs.declared.escape.Markup.TheVariants.{Xml}
use Rattle.screen_formats.proofs.TokenLemmas.{written_none}
use Rattle.screen_formats.proofs.SvgLemmas.{row_written}
use Rattle.screen_formats.proofs.svg.push_rows.Goals as goal

pub loop-row-init : goal.loop-row-init
loop-row-init c = written_none Xml _

pub loop-row-preserved : goal.loop-row-preserved
loop-row-preserved c =
    let less : c.loop-row.row < length c.args.lines.now = search rules in
    let item : get_or c.args.lines.now c.loop-row.row c.index-lines-row.result ≡ c.index-lines-row.result = search rules in
    row_written c.args.lines.now c.loop-row.row c.index-lines-row.result _ _ _ less item c.loop-row.invariant c.in_ok-push_row.ensures
