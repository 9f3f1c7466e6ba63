use Rattle.std.proofs.Common.{◌++◌, ap, sym, ◌∙◌}
use Rattle.std.specs.String.{string_bytes}
use Rattle.screen_formats.specs.Html.{html_element, html_run, html_style, is_boxed}
use Rattle.screen_formats.specs.Tokens.{tokens_text}
use Rattle.screen_formats.specs.declared.escape.Markup.TheVariants.{Html}
use Rattle.screen_formats.proofs.html.push_run.Goals as goal

pub returns : goal.returns
unfolding html_run
returns c =
    let words = c.deref.ensures ∙ c.in_ok-words.ensures in
    let style = c.deref-2.ensures ∙ c.in_ok-style.ensures ∙ ap (λ is_set. html_style c.run.inside.attrs.now is_set c.run.inside.columns) (c.is_boxed.ensures ∙ ap is_boxed (sym c.run.view_is)) in
    c.in_ok-push_html_element.ensures
    ∙ (λ i. string_bytes c.args.out.now ++ tokens_text Html (html_element (c.link_uri.ensures i) (words i) (style i) (c.deref-3.ensures i)))
    ∙ ap (λ run. string_bytes c.args.out.now ++ tokens_text Html (html_run run)) c.run.view_is
