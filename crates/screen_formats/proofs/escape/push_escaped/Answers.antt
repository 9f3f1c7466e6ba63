use Rattle.std.proofs.Common.{◌++◌, ap, ◌∙◌}
use Rattle.std.specs.String.{string_bytes}
use Rattle.std.proofs.lemmas.Str.{IsUtf8-past_char}
use Rattle.screen_formats.specs.Escape.{escaped_char}
use Rattle.screen_formats.proofs.EscapeLemmas.{char_pushed, all_pushed}
use Rattle.screen_formats.proofs.escape.push_escaped.Goals as goal

pub loop-c-preserved : goal.loop-c-preserved
loop-c-preserved c =
    let so_far = c.loop-c.invariant in
    let parts = c.in-Some.ensures.steps.0 in
    let pushed = c.in_ok-push_char.ensures ∙ ap (λ d. string_bytes c.loop-c.out ++ escaped_char d) c.held.ensures in
    (IsUtf8-past_char _ _ c.in-Some.c so_far.0 parts, char_pushed c.args.markup c.in-Some.c _ _ _ _ _ so_far.0 parts pushed so_far.1)

pub returns : goal.returns
returns c = all_pushed c.args.markup _ _ _ c.in-None.ensures.steps.0.0 c.loop-c.invariant.1
