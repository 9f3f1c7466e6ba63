-- Prints in turn are one text.
use Rattle.std.proofs.Common.{◌≡◌, ℕ, List, [], ◌∷◌, ◌++◌, map, fold, sym, ◌∙◌, append_assoc}
use Rattle.std.specs.Prelude.{encode_utf8, encode_utf8_all}
use Rattle.escape_stream.specs.StreamAction.{print}
use Rattle.terminal_table.specs.History.{Event, Act}
use Rattle.terminal_table.specs.Logged.{events_logged}
use Rattle.terminal_table.specs.Meaning.{View, event_done}
use Rattle.terminal_table.proofs.ListLemmas.{append_nil}

abbrev pub prints : List ℕ → List Event
prints cs = map Act (map print cs)

pub with_text : (width_of : List ℕ → ℕ) (v : View) (cs : List ℕ) → fold (event_done width_of) v (prints cs) ≡ record v { held = v.held ++ encode_utf8_all cs }
with_text width_of v [] = λ i. record v { held = sym (append_nil v.held) i }
with_text width_of v (c ∷ cs) = with_text width_of (record v { held = v.held ++ encode_utf8 c }) cs ∙ (λ i. record v { held = append_assoc v.held (encode_utf8 c) (encode_utf8_all cs) i })

pub text_logged : (width_of : List ℕ → ℕ) (v : View) (cs : List ℕ) (remaining : List Event) → events_logged width_of v (prints cs ++ remaining) ≡ events_logged width_of (record v { held = v.held ++ encode_utf8_all cs }) remaining
text_logged width_of v [] remaining = λ i. events_logged width_of (record v { held = sym (append_nil v.held) i }) remaining
text_logged width_of v (c ∷ cs) remaining = text_logged width_of (record v { held = v.held ++ encode_utf8 c }) cs remaining ∙ (λ i. events_logged width_of (record v { held = append_assoc v.held (encode_utf8 c) (encode_utf8_all cs) i }) remaining)
