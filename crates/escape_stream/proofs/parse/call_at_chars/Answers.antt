use Rattle.std.proofs.Common.{map, ap, sym, subst, rules, of_calls}
use Rattle.std.proofs.lemmas.Str.{IsUtf8-past_char, chars_past_char}
use Rattle.std.specs.Str.{IsUtf8}
use Rattle.escape_stream.specs.declared.action.Action.TheVariants.{Print}
use Rattle.escape_stream.specs.StreamAction.{print}
use Rattle.escape_stream.proofs.PendingLemmas.{called_none, called_next}
use Rattle.escape_stream.proofs.JoinLemmas.{no_chars}
use Rattle.escape_stream.proofs.parse.call_at_chars.Goals as goal

pub loop-first-init : goal.loop-first-init
loop-first-init g c =
    let all = c.chars-characters.ensures.rest in
    (search (rules, of_calls), subst IsUtf8 (sym all) c.utf8.text, λ last then. rw (sym all) then)

pub loop-character-init : goal.loop-character-init
loop-character-init g c =
    let held = c.loop-first.invariant in
    let parts = c.in-Some.ensures.steps.0 in
    (search (rules, of_calls), IsUtf8-past_char _ _ c.in-Some.first held.1 parts, λ last then. held.2 last (called_next _ c.loop-first.callback c.callback.new.self last (Print c.in-Some.first) _ _ (ap (map print) (chars_past_char _ _ c.in-Some.first held.1 parts)) (search rules) then))

pub loop-character-preserved : goal.loop-character-preserved
loop-character-preserved g c =
    let held = c.loop-character.invariant in
    let parts = c.in-Some-next.ensures.steps.0 in
    (search (rules, of_calls), IsUtf8-past_char _ _ c.in-Some-next.character held.1 parts, λ last then. held.2 last (called_next _ c.loop-character.callback c.callback-in-Some-next.new.self last (Print c.in-Some-next.character) _ _ (ap (map print) (chars_past_char _ _ c.in-Some-next.character held.1 parts)) (search rules) then))

pub loop-first-preserved : goal.loop-first-preserved
loop-first-preserved g c =
    let held = c.loop-character.invariant in
    let same = c.in_default-next.ensures.steps.0.1 in
    (held.0, rw same held.1, λ last then. held.2 last (rw (sym same) then))

pub returns-clause-called : goal.returns-clause-called
returns-clause-called g c = c.loop-first.invariant.2 c.loop-first.callback (rw (no_chars _ c.in_default.ensures.steps.0.0) (called_none _ c.loop-first.callback))
