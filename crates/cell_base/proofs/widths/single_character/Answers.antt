use Rattle.std.proofs.Common.{rules, ◌≡◌, ◌∙◌, ◌++◌, ◌∷◌, ℕ, List, ap, sym, length}
use Rattle.std.specs.Prelude.{encode_utf8}
use Rattle.std.specs.Str.{chars}
use Rattle.std.proofs.lemmas.Str.{chars_past_char, chars-nil}
use Rattle.std.proofs.lemmas.List.{nil_from_length}
use Rattle.cell_base.proofs.widths.single_character.Goals as goal

pub returns-then-is_empty : goal.returns-then-is_empty
returns-then-is_empty c =
    let text = c.args.text.now in
    let first = c.in_ok-first.first in
    let rest = c.as_str.result.now in
    let parts : text ≡ encode_utf8 first ++ rest = sym c.chars-characters.ensures.rest ∙ c.in_ok-first.ensures.steps.0 ∙ ap (λ t. encode_utf8 first ++ t) (sym c.as_str.ensures) in
    let none : length rest ≡ 0 = search rules in
    (chars_past_char text rest first c.utf8.text parts ∙ ap (λ (cs : List ℕ). first ∷ cs) (ap chars (nil_from_length rest none) ∙ chars-nil), c.if-first-gt160.true)
