use Rattle.std.proofs.Common.{◌++◌, ◌∙◌, List, ap, sym}
use Rattle.std.specs.String.{string_bytes}
use Rattle.cell_base.specs.Row.{Row}
use Rattle.cell_surface.specs.Surface.{shown_by}
use Rattle.screen_formats.specs.Tokens.{tokens_text}
use Rattle.screen_formats.specs.Svg.{column_units, row_units, svg_head, svg_rows}
use Rattle.screen_formats.specs.declared.escape.Markup.TheVariants.{Xml}
use Rattle.screen_formats.proofs.TokenLemmas.{written_more}
use Rattle.screen_formats.proofs.SvgLemmas.{length-columns}
use Rattle.screen_formats.proofs.svg.write_svg.Goals as goal

pub returns : goal.returns
returns g c =
    let screen = (shown_by c.args.surface.now).screen in
    let width = c.deref.ensures ∙ c.in_ok-width.ensures ∙ ap column_units c.dimensions-width.ensures.width in
    let count = c.dimensions-width.ensures.height ∙ sym (length-columns c.args.surface.now.grid.lines) in
    let height = c.deref-2.ensures ∙ c.in_ok-height.ensures ∙ ap row_units count in
    let prefix = c.in_ok-push_head.ensures ∙ (λ i. string_bytes c.args.out.now ++ tokens_text Xml (svg_head (width i) (height i) (c.title.ensures i))) in
    let rows = c.in_ok-push_rows.ensures ∙ ap (λ (rows : List Row). string_bytes c.push_head.new.out ++ tokens_text Xml (svg_rows 0 rows)) c.screen_lines.ensures.rows in
    let closed = written_more Xml _ _ _ _ _ c.in_ok-push_cursor.ensures c.in_ok-push_end.ensures in
    written_more Xml _ _ _ _ _ prefix (written_more Xml _ _ _ _ _ rows closed)
