use Rattle.std.proofs.Common.{◌∙◌, ◌++◌, ap, sym, subst, take, drop, IsCharBoundary}
use Rattle.std.specs.Prelude.{IsUtf8}
use Rattle.std.proofs.lemmas.Str.{IsUtf8-drop, IsUtf8-take}
use Rattle.text_clusters.proofs.TextLemmas.{joined_clusters}
use Rattle.screen_effects.specs.Parts.{IsAtControl, plain_part}
use Rattle.screen_effects.proofs.TextLemmas.{parts_cut, control_next, prefix_stands, cut_boundary}
use Rattle.screen_effects.specs.Strokes.{text_parts}
use Rattle.screen_effects.proofs.text.split_at_control.Goals as goal

pub split_at-requires : goal.split_at-requires
split_at-requires c = subst (IsCharBoundary c.args.text.now) (sym c.plain_len.ensures) (cut_boundary c.args.text.now)

pub returns-clause-parts : goal.returns-clause-parts
returns-clause-parts c =
    let text = c.args.text.now in
    parts_cut text ∙ (λ i. plain_part (sym (c.split_at.ensures.front ∙ ap (λ n. take n text) c.plain_len.ensures) i) ++ text_parts (sym (c.split_at.ensures.back ∙ ap (λ n. drop n text) c.plain_len.ensures) i))

pub returns-clause-stands : goal.returns-clause-stands
returns-clause-stands c =
    let text = c.args.text.now in
    prefix_stands text c.split_at.result.0.now (c.split_at.ensures.front ∙ ap (λ n. take n text) c.plain_len.ensures) (joined_clusters c.split_at.result.0.now (subst IsUtf8 (sym (c.split_at.ensures.front ∙ ap (λ n. take n text) c.plain_len.ensures)) (IsUtf8-take text _ c.utf8.text (cut_boundary text))))

pub returns-clause-control : goal.returns-clause-control
returns-clause-control c =
    let text = c.args.text.now in
    subst IsAtControl (sym (c.split_at.ensures.back ∙ ap (λ n. drop n text) c.plain_len.ensures)) (control_next text)

pub returns-clause-utf8 : goal.returns-clause-utf8
returns-clause-utf8 c =
    let text = c.args.text.now in
    subst IsUtf8 (sym (c.split_at.ensures.back ∙ ap (λ n. drop n text) c.plain_len.ensures)) (IsUtf8-drop text _ c.utf8.text (cut_boundary text))
