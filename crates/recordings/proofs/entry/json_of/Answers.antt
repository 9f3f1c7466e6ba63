use Rattle.std.proofs.Common.{◌≡◌, ◌∙◌, List, ℕ, Bool, true, false, None, sym, refl, ap}
use Rattle.std.specs.Str.{IsUtf8, is_utf8}
use Rattle.std.proofs.lemmas.Str.{IsUtf8-from_is_utf8, is_utf8-from_IsUtf8}
use Rattle.json.specs.Json.{document}
use Rattle.recordings.specs.Events.{json_of}
use Rattle.recordings.proofs.entry.json_of.Goals as goal

of_text : (line : List ℕ) → IsUtf8 line → document line ≡ json_of line
of_text line utf8 = rw (is_utf8-from_IsUtf8 line utf8) refl

of_bytes : (line : List ℕ) → (IsUtf8 line → ⊥) → None ≡ json_of line
of_bytes line not_utf8 = by_test (is_utf8 line) refl
  where
    by_test : (b : Bool) → is_utf8 line ≡ b → None ≡ json_of line
    by_test true e = absurd (not_utf8 (IsUtf8-from_is_utf8 line e))
    by_test false e = rw e refl

pub returns-in_default : goal.returns-in_default
returns-in_default c = of_bytes c.args.line.now c.in_default.ensures.cases.0

pub returns-in-Ok-parse : goal.returns-in-Ok-parse
returns-in-Ok-parse c =
    sym c.in-Ok-parse.ensures.ok ∙ ap document c.in-Ok.ensures.cases.0 ∙ of_text c.args.line.now c.in-Ok.ensures.cases.1
