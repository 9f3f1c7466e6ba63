use Rattle.std.proofs.Common.{◌∙◌, sym}
use Rattle.std.proofs.lemmas.Str.{IsUtf8-from_is_utf8, is_utf8-from_IsUtf8}
use Rattle.std.proofs.lemmas.Bool.{and_left, and_from, false_from_ne_true}
use Rattle.cell_base.proofs.link_reading.as_texts.Goals as goal

pub returns-in_default-clause-variant : goal.returns-in_default-clause-variant
returns-in_default-clause-variant c = sym (and_left _ _ (false_from_ne_true _ (λ t. c.in_default.ensures.cases.0 (IsUtf8-from_is_utf8 _ t))))

pub returns-then-are_texts-clause-variant : goal.returns-then-are_texts-clause-variant
returns-then-are_texts-clause-variant c = sym (and_from _ _ (is_utf8-from_IsUtf8 _ c.in-Ok.ensures.cases.1) (sym c.are_texts.ensures ∙ c.if-are_texts.true))
