use Rattle.std.proofs.Common.{rules, ◌≡◌, ◌++◌, ◌∷◌, [], List, ℕ, false, length, ap, ◌∙◌}
use Rattle.std.specs.Prelude.{◌==◌, codes}
use Rattle.std.specs.String.{string_bytes}
use Rattle.screen_formats.specs.Links.{link_uri}
use Rattle.screen_formats.specs.Tokens.{Opening, tokens_text}
use Rattle.screen_formats.specs.Svg.{svg_text_of}
use Rattle.screen_formats.specs.declared.escape.Markup.TheVariants.{Xml}
use Rattle.screen_formats.proofs.TokenLemmas.{written_more}
use Rattle.screen_formats.proofs.svg.push_text.Goals as goal

pub returns : goal.returns
unfolding svg_text_of
returns c =
    let uri : c.link_uri-uri.result.now ≡ link_uri c.args.run.now.attributes = search rules in
    let some : (length (link_uri c.args.run.now.attributes) == 0) ≡ false = search rules in
    let opened = c.in_ok-push_opening.ensures ∙ ap (λ (t : List ℕ). string_bytes c.args.out.now ++ tokens_text Xml (Opening (codes "a") ((codes "href", t) ∷ []) ∷ [])) uri in
    rw some (written_more Xml _ _ _ _ _ opened (written_more Xml _ _ _ _ _ c.in_ok-push_letters-2.ensures c.in_ok-push_closing.ensures))
