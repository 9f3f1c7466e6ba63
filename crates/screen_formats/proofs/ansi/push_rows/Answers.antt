use Rattle.std.proofs.Common.{rules, ◌≡◌, ◌<◌, ◌++◌, ◌∙◌, length, get_or, ap}
use Rattle.std.specs.String.{string_bytes}
use Rattle.cell_surface.specs.Surface.{shown_by}
use Rattle.screen_formats.specs.Ansi.{ansi_row_at}
use Rattle.screen_formats.proofs.AnsiLemmas.{row_written}
use Rattle.screen_formats.proofs.ansi.push_rows.Goals as goal

pub loop-row-preserved : goal.loop-row-preserved
loop-row-preserved g c =
    let less : c.loop-row.row < length c.args.lines.now = search rules in
    let item : get_or c.args.lines.now c.loop-row.row c.index-lines-row.result ≡ c.index-lines-row.result = search rules in
    row_written (shown_by c.args.surface.now).screen c.args.lines.now c.loop-row.row c.index-lines-row.result _ _ _ less item c.loop-row.invariant
    (c.in_ok-push_row_at.ensures ∙ ap (λ cursor. string_bytes c.loop-row.out ++ ansi_row_at cursor c.index-lines-row.result.columns) c.cursor_in.ensures)
