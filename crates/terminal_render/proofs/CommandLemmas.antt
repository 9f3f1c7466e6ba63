-- Commands that were read from a body without C0 controls and DEL: their links are carried, and their titles are plain.
use Rattle.std.proofs.Common.{◌≡◌, ℕ, true, false, ◌&&◌, List, [], ◌∷◌, ◌++◌, map, codes, refl, sym, ◌∙◌, Option, Some, None, option_map, Ok, arith}
use Rattle.std.specs.Prelude.{⊤, not, unwrap_or, IfSome, Result, Err, option_and_then}
use Rattle.std.specs.List.{AllByRecursion, list_all}
use Rattle.std.specs.Str.{bytes_eq, is_utf8}
use Rattle.std.specs.Result.{result_ok}
use Rattle.std.specs.Char.{is_ascii_control}
use Rattle.std.proofs.lemmas.Bool.{cond_both, or_parts}
use Rattle.std.proofs.lemmas.Bool.Decides.{nat_tests}
use Rattle.std.proofs.lemmas.Str.{IsUtf8-from_is_utf8}
use Rattle.text_clusters.specs.Controls.{holds_c1}
use Rattle.cell_base.specs.declared.link_error.LinkError.{LinkError}
use Rattle.cell_base.specs.Link.{Link, Param}
use Rattle.cell_base.specs.LinkText.{param_text, params_text, link_text, link_reading, IsReadBack}
use Rattle.cell_base.proofs.LinkLaws.{body_back}
use Rattle.escape_framing.specs.Bytes.{taken}
use Rattle.escape_osc.specs.Command.{Command, set_icon_name_and_window_title, set_icon_name, set_window_title, current_working_directory, set_hyperlink, set_selection, clear_selection, unspecified}
use Rattle.escape_osc.specs.Parts.{parts_of, joined, any_holds_c1}
use Rattle.escape_osc.specs.Reading.{text_reading, utf8_reading, base64_reading, data_reading, clear_reading, lettered_reading, selection_command, link_command, coded_reading, fitting_reading, osc_reading}
use Rattle.escape_osc.specs.Selection.{selection_reading}
use Rattle.escape_osc.proofs.ByteLemmas.{each-prefix, each-back, each_joined, joined_each, none_passes, link_parts_each}
use Rattle.escape_osc.proofs.C1Lemmas.{LacksC1, holds_c1-cons, holds_c1-joint, any_holds_c1-joined, each_lacks_c1, link_parts_lack_c1}
use Rattle.escape_osc.proofs.SplitLemmas.{parts_each}
use Rattle.terminal_render.specs.Links.{is_plain_text, is_plain_param, has_plain_texts, is_carried}
use Rattle.terminal_render.proofs.LinkLemmas.{is_read_back}
use Rattle.terminal_table.specs.Functions.{command_function}
use Rattle.terminal_render.specs.Spelling.{IsSpelledTitle, IsSpelledRequest}

-- ---- texts

-- no C0 control and no DEL
abbrev pub IsPlain : ℕ → Type 0
IsPlain b = is_ascii_control b ≡ false

abbrev pub ArePlain : List ℕ → Type 0
ArePlain bytes = AllByRecursion IsPlain bytes

plain_text : (text : List ℕ) → ArePlain text → holds_c1 text ≡ false → is_plain_text text ≡ true
plain_text text c0 c1 = λ i. not (none_passes is_ascii_control text c0 i) && not (c1 i)

joined_plain : (parts : List (List ℕ)) → AllByRecursion ArePlain parts → any_holds_c1 parts ≡ false → is_plain_text (joined parts) ≡ true
joined_plain parts c0 c1 = plain_text (joined parts) (joined_each IsPlain 59 parts refl c0) (sym (any_holds_c1-joined 59 parts (omega arith)) ∙ c1)

-- ---- links

params_plain : (ps : List Param) → AllByRecursion ArePlain (map param_text ps) → AllByRecursion LacksC1 (map param_text ps) → list_all is_plain_param ps ≡ true
params_plain [] c0 c1 = refl
params_plain (p ∷ ps) c0 c1 =
    let free = or_parts (holds_c1 p.0) (holds_c1 p.1) (sym (holds_c1-joint p.0 61 p.1 (omega arith)) ∙ c1.0) in
    let key = plain_text p.0 (each-prefix IsPlain p.0 (61 ∷ p.1) c0.0) free.0 in
    let value = plain_text p.1 (each-back IsPlain p.0 (61 ∷ p.1) c0.0).1 free.1 in
    let rest = params_plain ps c0.1 c1.1 in
    λ i. (key i && value i) && rest i

link_plain : (link : Link) → ArePlain (link_text link) → holds_c1 (link_text link) ≡ false → has_plain_texts link ≡ true
unfolding link_text
link_plain link c0 c1 =
    let params = params_text link.params in
    let free = or_parts (holds_c1 params) (holds_c1 link.uri) (sym (holds_c1-joint params 59 link.uri (omega arith)) ∙ sym (holds_c1-cons 59 (params ++ 59 ∷ link.uri) (omega arith)) ∙ sym (holds_c1-cons 56 (59 ∷ (params ++ 59 ∷ link.uri)) (omega arith)) ∙ c1) in
    let prefix = each-prefix IsPlain params (59 ∷ link.uri) c0.1.1 in
    let uri = plain_text link.uri (each-back IsPlain params (59 ∷ link.uri) c0.1.1).1 free.1 in
    let each = params_plain link.params (each_joined IsPlain 58 (map param_text link.params) prefix) (each_lacks_c1 (map param_text link.params) (any_holds_c1-joined 58 (map param_text link.params) (omega arith) ∙ free.0)) in
    λ i. each i && uri i

-- links that are read from some parts read back
abbrev ReadBack : List (List ℕ) → Type 0
ReadBack parts = (link : Link) → link_reading parts ≡ Ok (Some link) → IsReadBack link

link_carried : (parts : List (List ℕ)) (link : Option Link) → ReadBack parts → AllByRecursion ArePlain parts → any_holds_c1 parts ≡ false → link_reading parts ≡ Ok link → is_carried link ≡ true
unfolding is_carried
link_carried parts None back c0 c1 e = refl
link_carried parts (Some link) back c0 c1 e =
    let same = is_read_back link (back link e) in
    let plain = link_plain link (link_parts_each IsPlain refl refl refl refl parts (Some link) e c0) (link_parts_lack_c1 parts (Some link) e c1) in
    λ i. same i && plain i

-- ---- commands

abbrev pub IsSpelledCommand : Command → Type 0
IsSpelledCommand (set_icon_name_and_window_title text) = IsSpelledTitle text
IsSpelledCommand (set_window_title text) = IsSpelledTitle text
IsSpelledCommand (set_hyperlink link) = is_carried link ≡ true
IsSpelledCommand _ = ⊤

pub command_request : (c : Command) → IsSpelledCommand c → IsSpelledRequest (command_function c)
command_request (set_icon_name_and_window_title text) h = h
command_request (set_window_title text) h = h
command_request (set_hyperlink link) h = h
command_request _ h = tt

-- the command that was read, if there is one, has an encoding
abbrev Reads : Option Command → Type 0
Reads found = IfSome found IsSpelledCommand

text_read : (make : List ℕ → Command) (rest : List (List ℕ)) → ((text : List ℕ) → IsSpelledTitle text → IsSpelledCommand (make text)) → AllByRecursion ArePlain rest → any_holds_c1 rest ≡ false → Reads (option_map make (text_reading rest))
unfolding text_reading utf8_reading
text_read make [] k c0 c1 = tt
text_read make (part ∷ rest) k c0 c1 =
    let text = joined (part ∷ rest) in
    cond_both (is_utf8 text) (Some text) None (λ found. Reads (option_map make found)) (λ e. k text (record { utf8 = IsUtf8-from_is_utf8 text e; plain = joined_plain (part ∷ rest) c0 c1 })) (λ e. tt)

link_read : (parts : List (List ℕ)) → ReadBack parts → AllByRecursion ArePlain parts → any_holds_c1 parts ≡ false → Reads (option_map set_hyperlink (result_ok (link_reading parts)))
link_read parts back c0 c1 = by_reading (link_reading parts) refl
  where
    by_reading : (read : Result (Option Link) LinkError) → link_reading parts ≡ read → Reads (option_map set_hyperlink (result_ok read))
    by_reading (Ok link) e = link_carried parts link back c0 c1 e
    by_reading (Err error) e = tt

other_read : {X : Type 0} (make : X → Command) → ((x : X) → IsSpelledCommand (make x)) → (found : Option X) → Reads (option_map make found)
other_read make h None = tt
other_read make h (Some x) = h x

data_read : (bits : ℕ) (text : List ℕ) → Reads (data_reading bits text)
unfolding data_reading
data_read bits text = cond_both (bytes_eq text (codes "?")) _ _ Reads (λ e. tt) (λ e. other_read (set_selection bits) (λ x. tt) (base64_reading text))

selection_read : (rest : List (List ℕ)) → Reads (selection_command rest)
unfolding selection_command clear_reading lettered_reading
selection_read [] = tt
selection_read (letters ∷ []) = other_read clear_selection (λ x. tt) (selection_reading letters)
selection_read (letters ∷ text ∷ []) = by_bits (selection_reading letters)
  where
    by_bits : (found : Option ℕ) → Reads (option_and_then (λ bits. data_reading bits text) found)
    by_bits None = tt
    by_bits (Some bits) = data_read bits text
selection_read (letters ∷ text ∷ more ∷ rest) = tt

coded_read : (code : List ℕ) (rest : List (List ℕ)) → ReadBack (code ∷ rest) → AllByRecursion ArePlain (code ∷ rest) → any_holds_c1 (code ∷ rest) ≡ false → Reads (coded_reading code rest (code ∷ rest))
unfolding coded_reading link_command
coded_read code rest back c0 c1 =
    let remaining : any_holds_c1 rest ≡ false = (or_parts (holds_c1 code) (any_holds_c1 rest) c1).1 in
    cond_both (bytes_eq code (codes "0")) _ _ Reads (λ e. text_read set_icon_name_and_window_title rest (λ text h. h) c0.1 remaining)
    (λ e.
    cond_both (bytes_eq code (codes "1")) _ _ Reads (λ e. other_read set_icon_name (λ x. tt) (text_reading rest))
    (λ e.
    cond_both (bytes_eq code (codes "2")) _ _ Reads (λ e. text_read set_window_title rest (λ text h. h) c0.1 remaining)
    (λ e.
    cond_both (bytes_eq code (codes "7")) _ _ Reads (λ e. other_read current_working_directory (λ x. tt) (text_reading rest))
    (λ e.
    cond_both (bytes_eq code (codes "8")) _ _ Reads (λ e. link_read (code ∷ rest) back c0 c1)
    (λ e.
    cond_both (bytes_eq code (codes "52")) _ _ Reads (λ e. selection_read rest) (λ e. tt))))))

fitting_spelled : (parts : List (List ℕ)) → ReadBack parts → AllByRecursion ArePlain parts → any_holds_c1 parts ≡ false → IsSpelledCommand (unwrap_or (fitting_reading parts) (unspecified parts))
fitting_spelled [] back c0 c1 = tt
fitting_spelled (code ∷ rest) back c0 c1 = by_reading (coded_reading code rest (code ∷ rest)) (coded_read code rest back c0 c1)
  where
    by_reading : (found : Option Command) → Reads found → IsSpelledCommand (unwrap_or found (unspecified (code ∷ rest)))
    by_reading None h = tt
    by_reading (Some command) h = h

-- with U+0080 to U+009F the parts fit no code
pub read_spelled : (body : List ℕ) → ArePlain body → IsSpelledCommand (osc_reading (parts_of body))
read_spelled body h =
    cond_both (any_holds_c1 (parts_of body)) (unspecified (parts_of body)) (unwrap_or (fitting_reading (parts_of body)) (unspecified (parts_of body))) IsSpelledCommand (λ e. tt)
    (λ e. fitting_spelled (parts_of body) (λ link ok. body_back body (Some link) ok) (parts_each IsPlain body h) e)

-- ---- bodies

plain_byte : (b : ℕ) → not (is_ascii_control b) ≡ true → IsPlain b
plain_byte b e = grind (arith, nat_tests)

-- the bytes of a body that are taken are no controls
pub taken_plain : (body : List ℕ) → ArePlain (taken body)
taken_plain [] = tt
taken_plain (b ∷ body) = cond_both (not (is_ascii_control b)) _ _ ArePlain (λ e. (plain_byte b e, taken_plain body)) (λ e. taken_plain body)
