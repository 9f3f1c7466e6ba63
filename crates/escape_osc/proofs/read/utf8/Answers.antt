use Rattle.std.proofs.Common.{sym, ◌∙◌, ap}
use Rattle.std.proofs.lemmas.Str.{IsUtf8-string_bytes}
use Rattle.escape_osc.specs.Reading.{utf8_reading}
use Rattle.escape_osc.proofs.ReadingLemmas.{utf8_yes}
use Rattle.escape_osc.proofs.read.utf8.Goals as goal

pub returns-in-Ok : goal.returns-in-Ok
returns-in-Ok c = sym (utf8_yes _ (IsUtf8-string_bytes c.in-Ok.text)) ∙ ap (λ v. utf8_reading v.items) c.in-Ok.ensures.ok
