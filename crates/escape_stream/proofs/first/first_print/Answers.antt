use Rattle.std.proofs.Common.{map, ap, sym, ◌∙◌}
use Rattle.std.specs.Prelude.{None}
use Rattle.std.specs.Str.{chars}
use Rattle.std.proofs.lemmas.Str.{chars_past_char}
use Rattle.escape_stream.specs.StreamAction.{print}
use Rattle.escape_stream.specs.Parsing.{first_of}
use Rattle.escape_stream.proofs.JoinLemmas.{no_chars}
use Rattle.escape_stream.proofs.first.first_print.Goals as goal

pub returns-in-Some : goal.returns-in-Some
returns-in-Some c = sym (ap (λ l. first_of None (map print l)) (chars_past_char _ _ c.in-Some.character c.utf8.text (sym c.chars.ensures.rest ∙ c.in-Some.ensures.steps.0)))

pub returns-in-None : goal.returns-in-None
returns-in-None c = sym (ap (λ l. first_of None (map print l)) (ap chars (sym c.chars.ensures.rest) ∙ no_chars _ c.in-None.ensures.steps.0.0))
