use Rattle.std.proofs.Common.{◌++◌, ◌∙◌, map, ap, sym, append-nil}
use Rattle.std.proofs.lemmas.Str.{IsUtf8-past_char, chars_past_char}
use Rattle.escape_stream.specs.declared.action.Action.TheVariants.{Print}
use Rattle.escape_stream.specs.StreamAction.{print}
use Rattle.escape_stream.specs.StreamActionView.{value_of}
use Rattle.escape_stream.proofs.FirstLemmas.{one_pushed}
use Rattle.escape_stream.proofs.JoinLemmas.{no_chars}
use Rattle.escape_stream.proofs.first.push_prints.Goals as goal

pub loop-character-preserved : goal.loop-character-preserved
loop-character-preserved c =
    let held = c.loop-character.invariant in
    let parts = c.in-Some.ensures.steps.0 in (
      IsUtf8-past_char _ _ c.in-Some.character held.0 parts,
      one_pushed c.loop-character.actions.items _ (Print c.in-Some.character) _ c.in_ok-push.ensures.items
          ∙ ap (λ l. map value_of c.loop-character.actions.items ++ map print l) (sym (chars_past_char _ _ c.in-Some.character held.0 parts))
          ∙ held.1,
    )

pub returns : goal.returns
returns c =
    sym (append-nil (map value_of c.loop-character.actions.items))
    ∙ ap (λ l. map value_of c.loop-character.actions.items ++ map print l) (sym (no_chars _ c.in-None.ensures.steps.0.0))
    ∙ c.loop-character.invariant.1
