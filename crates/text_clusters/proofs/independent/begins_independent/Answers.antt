use Rattle.std.proofs.Common.{◌∙◌, ap, sym}
use Rattle.std.specs.Str.{chars}
use Rattle.std.proofs.lemmas.Str.{chars_past_char, chars-nil}
use Rattle.std.proofs.lemmas.List.{nil_from_length}
use Rattle.text_clusters.specs.Independent.{is_independent_first, begins_independent}
use Rattle.text_clusters.proofs.independent.begins_independent.Goals as goal

pub returns-in-None : goal.returns-in-None
unfolding begins_independent
returns-in-None c = sym (ap is_independent_first (ap chars (sym c.chars.ensures.rest ∙ nil_from_length _ c.in-None.ensures.steps.0.0) ∙ chars-nil))

pub returns-in-Some : goal.returns-in-Some
unfolding begins_independent
returns-in-Some c =
    c.joins_none.ensures ∙ sym (ap is_independent_first (chars_past_char c.args.text.now _ c.in-Some.character c.utf8.text (sym c.chars.ensures.rest ∙ c.in-Some.ensures.steps.0)))
