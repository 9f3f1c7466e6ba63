-- A command that can be written reads back from its body; one that reads back and holds no control can be written.
use Rattle.std.proofs.Common.{◌≡◌, ℕ, ◌<◌, ◌==◌, Bool, true, false, cond, List, [], ◌∷◌, codes, refl, ap, sym, subst, ◌∙◌, inl, inr, Some, None, option_map, arith, unwrap_or}
use Rattle.std.specs.List.{AllByRecursion}
use Rattle.std.specs.Str.{IsUtf8, bytes_eq}
use Rattle.std.specs.Option.{option_and_then}
use Rattle.std.proofs.lemmas.Bool.{cases_Bool, false≢true}
use Rattle.std.proofs.lemmas.Bool.Decides.{nat_tests}
use Rattle.std.proofs.lemmas.Slice.Eq.{bytes_eq-Decides}
use Rattle.text_clusters.specs.Controls.{holds_c1}
use Rattle.escape_osc.specs.Command.{Command, set_icon_name_and_window_title, set_icon_name, set_window_title, current_working_directory, set_hyperlink, set_selection, query_selection, clear_selection, unspecified}
use Rattle.escape_osc.specs.Parts.{semicolon, any_holds_c1}
use Rattle.escape_osc.specs.Reading.{utf8_reading, base64_reading, data_reading, fitting_reading, osc_reading}
use Rattle.escape_osc.specs.Selection.{letters_of, selection_reading}
use Rattle.escape_osc.specs.Text.{base64_of}
use Rattle.escape_osc.specs.Writable.{ReadsBack, LacksControls, IsSelection, IsWritable}
use Rattle.escape_osc.proofs.ReadingLemmas.{utf8_yes}
use Rattle.escape_osc.proofs.C1Lemmas.{holds_c1-cons}
use Rattle.escape_osc.proofs.Base64Lemmas.{is_symbol, IsSymbol, base64_each, base64_decoded, utf8_bytes}
use Rattle.escape_osc.proofs.C1Lemmas.{ascii_lacks_c1}
use Rattle.escape_osc.proofs.SelectionLemmas.{selection_known}
use Rattle.escape_osc.proofs.ReadBack.{link_value, clear_back, lettered_back, code_text_back, zero_is_text, one_is_text, two_is_text, seven_is_text}

-- ---- commands that can be written read back

single_lacks_c1 : (b : ℕ) → holds_c1 (b ∷ []) ≡ false
unfolding holds_c1
single_lacks_c1 b = refl

text_lacks_c1 : (code : ℕ) (text : List ℕ) → code < 128 → holds_c1 (code ∷ 59 ∷ text) ≡ false → holds_c1 text ≡ false
text_lacks_c1 code text small h = sym (holds_c1-cons code (59 ∷ text) small ∙ holds_c1-cons 59 text (omega arith)) ∙ h

selection_value : (bits : ℕ) → IsSelection bits → selection_reading (letters_of bits) ≡ Some bits
selection_value bits h = selection_known bits h.named h.some

pub symbol_piece : (b : ℕ) → IsSymbol b → (b == semicolon) ≡ false
symbol_piece b h = grind (arith, nat_tests)

symbol_small : (b : ℕ) → IsSymbol b → b < 128
symbol_small b h = grind (arith, nat_tests)

question : (is_symbol 63 ≡ true) → false ≡ true
question h = h

pub each_weaker : (P Q : ℕ → Type 0) → ((b : ℕ) → P b → Q b) → (text : List ℕ) → AllByRecursion P text → AllByRecursion Q text
each_weaker P Q w [] h = tt
each_weaker P Q w (b ∷ text) h = (w b h.0, each_weaker P Q w text h.1)

pub not_question : (text : List ℕ) → AllByRecursion IsSymbol text → bytes_eq text (codes "?") ≡ false
not_question text h = elim (cases_Bool (bytes_eq text (codes "?"))) [
  | inl is ↦
      let same : text ≡ codes "?" = (bytes_eq-Decides text (codes "?")).0 is in
      let asks : AllByRecursion IsSymbol (codes "?") = subst (AllByRecursion IsSymbol) same h in
      absurd (false≢true (question asks.0))
  | inr other ↦ other
]

sets : (bits : ℕ) (text : List ℕ) → IsUtf8 text → data_reading bits (base64_of text) ≡ Some (set_selection bits text)
unfolding data_reading base64_reading
sets bits text utf8 =
    let bytes = utf8_bytes text utf8 in
    rw (not_question (base64_of text) (base64_each text))
    (ap (λ found. option_map (set_selection bits) (option_and_then utf8_reading found)) (base64_decoded text bytes)
    ∙ ap (option_map (set_selection bits)) (utf8_yes text utf8))

asks : (bits : ℕ) → data_reading bits (codes "?") ≡ Some (query_selection bits)
unfolding data_reading
asks bits = refl

unspecified_back : (parts : List (List ℕ)) (b : Bool) → fitting_reading parts ≡ None → cond b (unspecified parts) (unwrap_or (fitting_reading parts) (unspecified parts)) ≡ unspecified parts
unspecified_back parts true h = refl
unspecified_back parts false h = ap (λ found. unwrap_or found (unspecified parts)) h

pub writable_back : (command : Command) → IsWritable command → ReadsBack command
writable_back (set_icon_name_and_window_title text) w =
    code_text_back set_icon_name_and_window_title 48 text refl (single_lacks_c1 48) w.spelling (text_lacks_c1 48 text (omega arith) w.clean.no_c1) zero_is_text
writable_back (set_icon_name text) w = code_text_back set_icon_name 49 text refl (single_lacks_c1 49) w.spelling (text_lacks_c1 49 text (omega arith) w.clean.no_c1) one_is_text
writable_back (set_window_title text) w = code_text_back set_window_title 50 text refl (single_lacks_c1 50) w.spelling (text_lacks_c1 50 text (omega arith) w.clean.no_c1) two_is_text
writable_back (current_working_directory text) w = code_text_back current_working_directory 55 text refl (single_lacks_c1 55) w.spelling (text_lacks_c1 55 text (omega arith) w.clean.no_c1) seven_is_text
writable_back (set_hyperlink link) w = link_value link w.spelling w.clean.no_c1
writable_back (set_selection bits text) w =
    let symbols = base64_each text in
    lettered_back bits (base64_of text) (set_selection bits text) (selection_value bits w.spelling.0)
    (each_weaker IsSymbol (λ b. (b == semicolon) ≡ false) symbol_piece (base64_of text) symbols)
    (ascii_lacks_c1 (base64_of text) (each_weaker IsSymbol (λ b. b < 128) symbol_small (base64_of text) symbols))
    (sets bits text w.spelling.1)
writable_back (query_selection bits) w = lettered_back bits (codes "?") (query_selection bits) (selection_value bits w.spelling) (refl, tt) (single_lacks_c1 63) (asks bits)
writable_back (clear_selection bits) w = clear_back bits (selection_value bits w.spelling)
writable_back (unspecified parts) w = ap osc_reading w.spelling.0 ∙ unspecified_back parts (any_holds_c1 parts) w.spelling.1

-- ---- texts

code_lacks_c1 : (code : ℕ) (text : List ℕ) → code < 128 → holds_c1 text ≡ false → holds_c1 (code ∷ 59 ∷ text) ≡ false
code_lacks_c1 code text small h = holds_c1-cons code (59 ∷ text) small ∙ holds_c1-cons 59 text (omega arith) ∙ h

pub text_writable : (text : List ℕ) → IsUtf8 text → LacksControls text
    → IsWritable (set_icon_name_and_window_title text) × IsWritable (set_icon_name text) × IsWritable (set_window_title text) × IsWritable (current_working_directory text)
text_writable text u h = (
  record { spelling = u; clean = record { no_c0 = h.no_c0; no_c1 = code_lacks_c1 48 text (omega arith) h.no_c1 } },
  record { spelling = u; clean = record { no_c0 = h.no_c0; no_c1 = code_lacks_c1 49 text (omega arith) h.no_c1 } },
  record { spelling = u; clean = record { no_c0 = h.no_c0; no_c1 = code_lacks_c1 50 text (omega arith) h.no_c1 } },
  record { spelling = u; clean = record { no_c0 = h.no_c0; no_c1 = code_lacks_c1 55 text (omega arith) h.no_c1 } },
)
