use Rattle.std.proofs.Common.{◌++◌, ◌∷◌, [], List, ℕ, ap, ◌∙◌}
use Rattle.std.specs.Prelude.{codes}
use Rattle.std.specs.String.{string_bytes}
use Rattle.cell_base.specs.Row.{Row}
use Rattle.screen_formats.specs.Html.{html_rows}
use Rattle.screen_formats.specs.Tokens.{Opening, tokens_text}
use Rattle.screen_formats.specs.declared.escape.Markup.TheVariants.{Html}
use Rattle.screen_formats.proofs.TokenLemmas.{written_more}
use Rattle.screen_formats.proofs.html.write_html.Goals as goal

pub returns : goal.returns
returns g c =
    let style = c.deref.ensures ∙ c.in_ok-style.ensures in
    let opened = c.in_ok-push_opening.ensures ∙ ap (λ (t : List ℕ). string_bytes c.args.out.now ++ tokens_text Html (Opening (codes "pre") ((codes "class", codes "screen") ∷ (codes "style", t) ∷ []) ∷ [])) style in
    let rows = c.in_ok-push_rows.ensures ∙ ap (λ (rows : List Row). string_bytes c.push_opening.new.out ++ tokens_text Html (html_rows rows)) c.screen_lines.ensures.rows in
    let closed = written_more Html _ _ _ _ _ c.in_ok-push_closing.ensures c.in_ok-push_words.ensures in
    written_more Html _ _ _ _ _ opened (written_more Html _ _ _ _ _ rows (written_more Html _ _ _ _ _ c.in_ok-push_cursor.ensures closed))
