use Rattle.std.proofs.Common.{ap, sym, ◌∙◌}
use Rattle.std.specs.Prelude.{is_none, slice_get}
use Rattle.std.specs.Str.{chars}
use Rattle.std.proofs.lemmas.Str.{is_utf8-from_IsUtf8}
use Rattle.escape_framing.proofs.KindLemmas.{fault_is, first_is}
use Rattle.escape_framing.proofs.characters.kind_of.Goals as goal

pub returns-in-Some : goal.returns-in-Some
returns-in-Some c =
    let text = c.in-Ok.ensures.cases in (
      is_utf8-from_IsUtf8 c.args.bytes.now text.1,
      first_is (chars c.args.bytes.now) c.in-Some.c (sym c.in-Some.is ∙ c.next.ensures.steps.2 ∙ ap (λ l. slice_get (chars l) 0) (c.chars.ensures.rest ∙ text.0)),
    )

pub returns-in-None-error_len : goal.returns-in-None-error_len
returns-in-None-error_len c =
    let k = c.in-Err.ensures.cases in
    let f = fault_is c.args.bytes.now _ _ c.requires k.0 k.1 c.in-Err.ensures.fault in
    (f.0, ap is_none (sym f.1 ∙ sym c.error_len.ensures ∙ c.in-None-error_len.is))

pub returns-in-Some-error_len : goal.returns-in-Some-error_len
returns-in-Some-error_len c =
    let k = c.in-Err.ensures.cases in
    let f = fault_is c.args.bytes.now _ _ c.requires k.0 k.1 c.in-Err.ensures.fault in
    (f.0, ap is_none (sym f.1 ∙ sym c.error_len.ensures ∙ c.in-Some-error_len.is))
