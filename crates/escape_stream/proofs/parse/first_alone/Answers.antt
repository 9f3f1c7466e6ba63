use Rattle.std.proofs.Common.{sym, ◌∙◌}
use Rattle.escape_stream.proofs.JoinLemmas.{one_char, more_chars}
use Rattle.escape_stream.proofs.parse.first_alone.Goals as goal

pub returns-in-None-clause-one : goal.returns-in-None-clause-one
returns-in-None-clause-one c = one_char c.args.text.now _ c.in_ok-first.first c.utf8.text (sym c.chars-characters.ensures.rest ∙ c.in_ok-first.ensures.steps.0) c.in-None.ensures.steps.0.0

pub returns-in-Some-clause-remaining : goal.returns-in-Some-clause-remaining
returns-in-Some-clause-remaining c = λ _ e h. more_chars c.args.text.now _ _ c.in_ok-first.first c.in-Some._second e c.utf8.text (sym c.chars-characters.ensures.rest ∙ c.in_ok-first.ensures.steps.0) c.in-Some.ensures.steps.0 h
