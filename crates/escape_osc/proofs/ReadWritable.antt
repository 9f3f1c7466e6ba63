-- A command that reads back and holds no control can be written; and so can a command that was read from a body without controls.
use Rattle.std.proofs.Common.{◌≡◌, ℕ, ◌<◌, ◌==◌, true, false, List, [], ◌∷◌, ◌++◌, codes, refl, ap, sym, subst, ◌∙◌, inl, inr, Option, Some, None, option_map, Ok, arith}
use Rattle.std.specs.List.{AllByRecursion}
use Rattle.std.specs.Str.{IsUtf8, bytes_eq, is_utf8}
use Rattle.std.specs.Option.{option_and_then}
use Rattle.std.specs.Result.{result_ok}
use Rattle.std.specs.Char.{is_ascii_control}
use Rattle.std.proofs.lemmas.Bool.{cases_Bool, or_from}
use Rattle.std.proofs.lemmas.Option.{same_Some}
use Rattle.std.proofs.lemmas.Str.{IsUtf8-from_is_utf8}
use Rattle.std.proofs.lemmas.List.Splits.{join_with_byte-slice_split}
use Rattle.text_clusters.specs.Controls.{holds_c1}
use Rattle.base64.specs.Engines.{standard}
use Rattle.base64.specs.GeneralPurpose.{IsBytes, decoded_of}
use Rattle.cell_base.specs.Link.{Link}
use Rattle.cell_base.specs.LinkText.{text_of_link, link_reading}
use Rattle.escape_osc.specs.Command.{Command, set_icon_name_and_window_title, set_icon_name, set_window_title, current_working_directory, set_hyperlink, set_selection, query_selection, clear_selection, unspecified}
use Rattle.escape_osc.specs.Parts.{semicolon, parts_of, joined, any_holds_c1}
use Rattle.escape_osc.specs.Reading.{utf8_reading, text_reading, base64_reading, data_reading, clear_reading, lettered_reading, selection_command, link_command, coded_reading, fitting_reading, osc_reading}
use Rattle.escape_osc.specs.Selection.{letters, letters_of, selection_reading}
use Rattle.escape_osc.specs.Text.{base64_of, body_of}
use Rattle.escape_osc.specs.Writable.{ReadsBack, LacksControls, IsSelection, IsReadableLink, HasSpelling, IsWritable}
use Rattle.escape_osc.proofs.Cases.{option_cases}
use Rattle.escape_osc.proofs.C1Lemmas.{any_holds_c1-joined, holds_c1-cons, link_parts_lack_c1, ascii_lacks_c1, holds_c1-joint, each_lacks_c1, LacksC1}
use Rattle.escape_osc.proofs.SplitLemmas.{IsPiece, parts_of-at, parts_of-some, parts_each}
use Rattle.escape_osc.proofs.Base64Lemmas.{each_byte, IsSymbol, base64_each}
use Rattle.escape_osc.proofs.WritableBack.{symbol_piece, each_weaker, not_question}
use Rattle.escape_osc.proofs.ByteLemmas.{each-append, each_fails, none_passes, link_parts_each}
use Rattle.escape_osc.proofs.SelectionLemmas.{selection_named, letters_ascii, letter_bytes}
use Rattle.escape_osc.proofs.ReadBack.{link_parts, eight_is_link, result_cases, fifty_two_is_selection, clear_parts, lettered_parts, is_code, utf8_same, body_back, data_body, parts_bytes, zero_is_text, one_is_text, two_is_text, seven_is_text}

-- ---- The meaning of parts without U+0080 to U+009F

-- the parts stay `unspecified`, or fit a code
pub data Meant (first : List ℕ) (rest : List (List ℕ)) (command : Command) : Type 0 where
  left : coded_reading first rest (first ∷ rest) ≡ None → unspecified (first ∷ rest) ≡ command → Meant first rest command
  fitted : coded_reading first rest (first ∷ rest) ≡ Some command → Meant first rest command

meant : (first : List ℕ) (rest : List (List ℕ)) (command : Command) → any_holds_c1 (first ∷ rest) ≡ false → osc_reading (first ∷ rest) ≡ command → Meant first rest command
meant first rest command lacks is = elim (option_cases (coded_reading first rest (first ∷ rest))) [
  | inl none ↦ left none (rw (lacks, none) at is)
  | inr (found, some) ↦
      let e : found ≡ command = rw (lacks, some) at is in
      fitted (some ∙ ap Some e)
]

body_lacks : (body : List ℕ) → holds_c1 body ≡ false → any_holds_c1 (parts_of body) ≡ false
body_lacks body h = any_holds_c1-joined 59 (parts_of body) (omega arith) ∙ ap holds_c1 (join_with_byte-slice_split 59 body) ∙ h

-- ---- The command that a code gives is never `unspecified`

abbrev IsKnown : Command → Type 0
IsKnown (unspecified parts) = ⊥
IsKnown _ = Unit {0}

made_known : {X : Type 0} (make : X → Command) → ((x : X) → IsKnown (make x)) → (found : Option X) (command : Command) → option_map make found ≡ Some command → IsKnown command
made_known make h None command e = cc
made_known make h (Some x) command e = subst IsKnown (same_Some _ _ e) (h x)

data_known : (bits : ℕ) (text : List ℕ) (command : Command) → data_reading bits text ≡ Some command → IsKnown command
unfolding data_reading
data_known bits text command e = elim (cases_Bool (bytes_eq text (codes "?"))) [
  | inl asks ↦ subst IsKnown (same_Some _ _ (rw asks at e)) tt
  | inr sets ↦ made_known (set_selection bits) (λ x. tt) (base64_reading text) command (rw sets at e)
]

selection_known_command : (rest : List (List ℕ)) (command : Command) → selection_command rest ≡ Some command → IsKnown command
unfolding selection_command clear_reading lettered_reading
selection_known_command [] command e = cc
selection_known_command (letters ∷ []) command e = made_known clear_selection (λ x. tt) (selection_reading letters) command e
selection_known_command (letters ∷ text ∷ []) command e = elim (option_cases (selection_reading letters)) [
  | inl none ↦ cc (rw none at e)
  | inr (bits, some) ↦ data_known bits text command (rw some at e)
]
selection_known_command (letters ∷ text ∷ more ∷ rest) command e = cc

coded_known : (code : List ℕ) (rest parts : List (List ℕ)) (command : Command) → coded_reading code rest parts ≡ Some command → IsKnown command
unfolding coded_reading link_command
coded_known code rest parts command is = elim (cases_Bool (bytes_eq code (codes "0"))) [
  | inl c0 ↦ made_known set_icon_name_and_window_title (λ x. tt) (text_reading rest) command (rw c0 at is)
  | inr n0 ↦ elim (cases_Bool (bytes_eq code (codes "1"))) [
    | inl c1 ↦ made_known set_icon_name (λ x. tt) (text_reading rest) command (rw (n0, c1) at is)
    | inr n1 ↦ elim (cases_Bool (bytes_eq code (codes "2"))) [
      | inl c2 ↦ made_known set_window_title (λ x. tt) (text_reading rest) command (rw (n0, n1, c2) at is)
      | inr n2 ↦ elim (cases_Bool (bytes_eq code (codes "7"))) [
        | inl c7 ↦ made_known current_working_directory (λ x. tt) (text_reading rest) command (rw (n0, n1, n2, c7) at is)
        | inr n7 ↦ elim (cases_Bool (bytes_eq code (codes "8"))) [
          | inl c8 ↦ made_known set_hyperlink (λ x. tt) (result_ok (link_reading parts)) command (rw (n0, n1, n2, n7, c8) at is)
          | inr n8 ↦ elim (cases_Bool (bytes_eq code (codes "52"))) [
            | inl c52 ↦ selection_known_command rest command (rw (n0, n1, n2, n7, n8, c52) at is)
            | inr n52 ↦ cc (rw (n0, n1, n2, n7, n8, n52) at is)
          ]
        ]
      ]
    ]
  ]
]

-- ---- A command that reads back

text_spelled : (make : List ℕ → Command) (code : ℕ) (text : List ℕ) → (code == semicolon) ≡ false → ((parts : List (List ℕ)) → unspecified parts ≡ make text → ⊥)
    → ((x : List ℕ) → make x ≡ make text → x ≡ text) → ((rest parts : List (List ℕ)) → coded_reading (code ∷ []) rest parts ≡ option_map make (text_reading rest))
    → holds_c1 (code ∷ 59 ∷ text) ≡ false → osc_reading (parts_of (code ∷ semicolon ∷ text)) ≡ make text → IsUtf8 text
unfolding text_reading utf8_reading
text_spelled make code text other differs same reads lacks is =
    let whole : parts_of (code ∷ semicolon ∷ text) ≡ (code ∷ []) ∷ parts_of text = parts_of-at (code ∷ []) text (other, tt) in
    let none : any_holds_c1 ((code ∷ []) ∷ parts_of text) ≡ false = ap any_holds_c1 (sym whole) ∙ body_lacks (code ∷ 59 ∷ text) lacks in
    elim (meant (code ∷ []) (parts_of text) (make text) none (ap osc_reading (sym whole) ∙ is)) [
      | left n e ↦ absurd (differs _ e)
      | fitted e ↦ by (parts_of text) (join_with_byte-slice_split 59 text) (sym (reads (parts_of text) ((code ∷ []) ∷ parts_of text)) ∙ e)
    ]
  where
    by : (parts : List (List ℕ)) → joined parts ≡ text → option_map make (text_reading parts) ≡ Some (make text) → IsUtf8 text
    by [] s e = cc
    by (part ∷ rest) s e = elim (cases_Bool (is_utf8 (joined (part ∷ rest)))) [
      | inl h ↦ subst IsUtf8 s (IsUtf8-from_is_utf8 (joined (part ∷ rest)) h)
      | inr h ↦ cc (rw h at e)
    ]

link_spelled : (link : Option Link) → holds_c1 (text_of_link link) ≡ false → ReadsBack (set_hyperlink link) → IsReadableLink link
unfolding link_command
link_spelled link lacks is =
    let split = link_parts link in
    let whole : parts_of (text_of_link link) ≡ codes "8" ∷ split.0 = split.1 in
    let none : any_holds_c1 (codes "8" ∷ split.0) ≡ false = ap any_holds_c1 (sym whole) ∙ body_lacks (text_of_link link) lacks in
    elim (meant (codes "8") split.0 (set_hyperlink link) none (ap osc_reading (sym whole) ∙ is)) [
      | left n e ↦ cc
      | fitted e ↦
          let found : option_map set_hyperlink (result_ok (link_reading (codes "8" ∷ split.0))) ≡ Some (set_hyperlink link) = sym (eight_is_link split.0 (codes "8" ∷ split.0)) ∙ e in
          elim (result_cases (link_reading (codes "8" ∷ split.0))) [
            | inl (other, ok) ↦
                let same : set_hyperlink other ≡ set_hyperlink link = same_Some _ _ (rw ok at found) in
                let links : other ≡ link = cc in
                ap link_reading whole ∙ ok ∙ ap Ok links
            | inr (error, err) ↦ cc (rw err at found)
          ]
    ]

named : (text : List ℕ) (found bits : ℕ) → selection_reading text ≡ Some found → found ≡ bits → IsSelection bits
named text found bits is same = let both = selection_named text found is in subst IsSelection same (record { named = both.0; some = both.1 })

clear_spelled : (bits : ℕ) → holds_c1 (body_of (clear_selection bits)) ≡ false → ReadsBack (clear_selection bits) → IsSelection bits
unfolding selection_command clear_reading
clear_spelled bits lacks is =
    let whole = clear_parts bits in
    let none : any_holds_c1 (codes "52" ∷ letters_of bits ∷ []) ≡ false = ap any_holds_c1 (sym whole) ∙ body_lacks (body_of (clear_selection bits)) lacks in
    elim (meant (codes "52") (letters_of bits ∷ []) (clear_selection bits) none (ap osc_reading (sym whole) ∙ is)) [
      | left n e ↦ cc
      | fitted e ↦
          let found : option_map clear_selection (selection_reading (letters_of bits)) ≡ Some (clear_selection bits) = sym (fifty_two_is_selection (letters_of bits ∷ []) (codes "52" ∷ letters_of bits ∷ [])) ∙ e in
          elim (option_cases (selection_reading (letters_of bits))) [
            | inl nothing ↦ cc (rw nothing at found)
            | inr (other, some) ↦
                let same : clear_selection other ≡ clear_selection bits = same_Some _ _ (rw some at found) in
                named (letters_of bits) other bits some cc
          ]
    ]

-- a text after the letters: the letters read as a selection, and the text as its data
lettered_spelled : (bits : ℕ) (text : List ℕ) (command : Command) → IsKnown command → IsPiece text → holds_c1 (codes "52;" ++ (letters_of bits ++ semicolon ∷ text)) ≡ false
    → osc_reading (parts_of (codes "52;" ++ (letters_of bits ++ semicolon ∷ text))) ≡ command
    → (other : ℕ) × ((selection_reading (letters_of bits) ≡ Some other) × (data_reading other text ≡ Some command))
unfolding selection_command lettered_reading
lettered_spelled bits text command known piece lacks is =
    let whole = lettered_parts bits text piece in
    let none : any_holds_c1 (codes "52" ∷ letters_of bits ∷ text ∷ []) ≡ false = ap any_holds_c1 (sym whole) ∙ body_lacks (codes "52;" ++ (letters_of bits ++ semicolon ∷ text)) lacks in
    elim (meant (codes "52") (letters_of bits ∷ text ∷ []) command none (ap osc_reading (sym whole) ∙ is)) [
      | left n e ↦ absurd (subst IsKnown (sym e) known)
      | fitted e ↦
          let found : option_and_then (λ b. data_reading b text) (selection_reading (letters_of bits)) ≡ Some command =
          sym (fifty_two_is_selection (letters_of bits ∷ text ∷ []) (codes "52" ∷ letters_of bits ∷ text ∷ [])) ∙ e in
          elim (option_cases (selection_reading (letters_of bits))) [
            | inl nothing ↦ cc (rw nothing at found)
            | inr (other, some) ↦ (other, (some, rw some at found))
          ]
    ]

query_data : (other bits : ℕ) → data_reading other (codes "?") ≡ Some (query_selection bits) → other ≡ bits
unfolding data_reading
query_data other bits e = let same : query_selection other ≡ query_selection bits = same_Some _ _ e in cc

query_spelled : (bits : ℕ) → holds_c1 (body_of (query_selection bits)) ≡ false → ReadsBack (query_selection bits) → IsSelection bits
query_spelled bits lacks is =
    let found = lettered_spelled bits (codes "?") (query_selection bits) tt (refl, tt) lacks is in
    named (letters_of bits) found.0 bits found.1.0 (query_data found.0 bits found.1.1)

set_data : (other bits : ℕ) (text : List ℕ) → data_reading other (base64_of text) ≡ Some (set_selection bits text) → (other ≡ bits) × IsUtf8 text
unfolding data_reading base64_reading utf8_reading
set_data other bits text e = by (decoded_of standard (base64_of text)) (rw (not_question (base64_of text) (base64_each text)) at e)
  where
    by : (found : Option (List ℕ)) → option_map (set_selection other) (option_and_then utf8_reading found) ≡ Some (set_selection bits text) → (other ≡ bits) × IsUtf8 text
    by None q = cc
    by (Some bytes) q = elim (cases_Bool (is_utf8 bytes)) [
      | inl h ↦
          let same : set_selection other bytes ≡ set_selection bits text = same_Some _ _ (rw h at q) in
          let texts : bytes ≡ text = cc in
          (cc, subst IsUtf8 texts (IsUtf8-from_is_utf8 bytes h))
      | inr h ↦ cc (rw h at q)
    ]

set_spelled : (bits : ℕ) (text : List ℕ) → holds_c1 (body_of (set_selection bits text)) ≡ false → ReadsBack (set_selection bits text) → IsSelection bits × IsUtf8 text
set_spelled bits text lacks is =
    let piece : IsPiece (base64_of text) = each_weaker IsSymbol (λ b. (b == semicolon) ≡ false) symbol_piece (base64_of text) (base64_each text) in
    let found = lettered_spelled bits (base64_of text) (set_selection bits text) tt piece lacks is in
    let both = set_data found.0 bits text found.1.1 in
    (named (letters_of bits) found.0 bits found.1.0 both.0, both.1)

parts_spelled_by : (parts split : List (List ℕ)) → (split ≡ [] → ⊥) → any_holds_c1 split ≡ false → osc_reading split ≡ unspecified parts → (split ≡ parts) × (fitting_reading parts ≡ None)
parts_spelled_by parts [] some lacks is = absurd (some refl)
parts_spelled_by parts (first ∷ rest) some lacks is = elim (meant first rest (unspecified parts) lacks is) [
  | left n e ↦
      let same : first ∷ rest ≡ parts = cc in
      (same, ap fitting_reading (sym same) ∙ n)
  | fitted e ↦ absurd (coded_known first rest (first ∷ rest) (unspecified parts) e)
]

pub back_writable : (command : Command) → ReadsBack command → LacksControls (body_of command) → IsWritable command
back_writable command is lacks = record { spelling = spelled command is lacks.no_c1; clean = lacks }
  where
    spelled : (c : Command) → ReadsBack c → holds_c1 (body_of c) ≡ false → HasSpelling c
    spelled (set_icon_name_and_window_title text) r h = text_spelled set_icon_name_and_window_title 48 text refl (λ parts e. cc) (λ x e. cc) zero_is_text h r
    spelled (set_icon_name text) r h = text_spelled set_icon_name 49 text refl (λ parts e. cc) (λ x e. cc) one_is_text h r
    spelled (set_window_title text) r h = text_spelled set_window_title 50 text refl (λ parts e. cc) (λ x e. cc) two_is_text h r
    spelled (current_working_directory text) r h = text_spelled current_working_directory 55 text refl (λ parts e. cc) (λ x e. cc) seven_is_text h r
    spelled (set_hyperlink link) r h = link_spelled link h r
    spelled (set_selection bits text) r h = set_spelled bits text h r
    spelled (query_selection bits) r h = query_spelled bits h r
    spelled (clear_selection bits) r h = clear_spelled bits h r
    spelled (unspecified parts) r h = parts_spelled_by parts (parts_of (joined parts)) (parts_of-some (joined parts)) (body_lacks (joined parts) h) r

-- ---- What is read from a body without controls

abbrev IsPlain : ℕ → Type 0
IsPlain b = is_ascii_control b ≡ false

plain : (text : List ℕ) → AllByRecursion IsPlain text → holds_c1 text ≡ false → LacksControls text
plain text c0 c1 = record { no_c0 = none_passes is_ascii_control text c0; no_c1 = c1 }

each_plain : (text : List ℕ) → LacksControls text → AllByRecursion IsPlain text
each_plain text h = each_fails is_ascii_control text h.no_c0

kept_clean : (command : Command) (body : List ℕ) → body_of command ≡ body → LacksControls body → LacksControls (body_of command)
kept_clean command body e h = subst LacksControls (sym e) h

text_body : (make : List ℕ → Command) (code : List ℕ) (rest : List (List ℕ)) (command : Command) → ((text : List ℕ) → body_of (make text) ≡ code ++ semicolon ∷ text)
    → option_map make (text_reading rest) ≡ Some command → body_of command ≡ joined (code ∷ rest)
unfolding text_reading
text_body make code [] command body h = cc
text_body make code (part ∷ rest) command body h = elim (option_cases (utf8_reading (joined (part ∷ rest)))) [
  | inl none ↦ cc (rw none at h)
  | inr (text, some) ↦
      let e : make text ≡ command = same_Some _ _ (rw some at h) in
      ap body_of (sym e) ∙ body text ∙ ap (λ t. code ++ semicolon ∷ t) (sym (utf8_same _ text some))
]

letters_plain : (bits : ℕ) → AllByRecursion IsPlain (letters_of bits)
unfolding letters_of
letters_plain bits = letter_bytes IsPlain letters bits
    (refl, (refl, (refl, (refl, (refl, (refl, (refl, (refl, (refl, (refl, (refl, (refl, (refl, tt)))))))))))))

letters_clean : (bits : ℕ) → LacksControls (codes "52;" ++ letters_of bits)
letters_clean bits = plain (codes "52;" ++ letters_of bits)
    (each-append IsPlain (codes "52;") (letters_of bits) (refl, (refl, (refl, tt))) (letters_plain bits))
    (ascii_lacks_c1 (codes "52;" ++ letters_of bits) (each-append (λ b. b < 128) (codes "52;") (letters_of bits) (omega arith, (omega arith, (omega arith, tt))) (letters_ascii bits)))

lettered_clean : (bits : ℕ) (text : List ℕ) → LacksControls text → LacksControls (codes "52;" ++ (letters_of bits ++ semicolon ∷ text))
lettered_clean bits text h = plain (codes "52;" ++ (letters_of bits ++ semicolon ∷ text))
    (each-append IsPlain (codes "52;") (letters_of bits ++ semicolon ∷ text) (refl, (refl, (refl, tt))) (each-append IsPlain (letters_of bits) (semicolon ∷ text) (letters_plain bits) (refl, each_plain text h)))
    (holds_c1-cons 53 _ (omega arith) ∙ holds_c1-cons 50 _ (omega arith) ∙ holds_c1-cons 59 _ (omega arith)
    ∙ holds_c1-joint (letters_of bits) 59 text (omega arith)
    ∙ or_from (holds_c1 (letters_of bits)) (holds_c1 text) (ascii_lacks_c1 (letters_of bits) (letters_ascii bits)) h.no_c1)

selection_clean : (rest : List (List ℕ)) (command : Command) → AllByRecursion IsBytes rest → AllByRecursion LacksControls rest → selection_command rest ≡ Some command → LacksControls (body_of command)
unfolding selection_command clear_reading lettered_reading
selection_clean [] command bytes clean is = cc
selection_clean (letters ∷ []) command bytes clean is = elim (option_cases (selection_reading letters)) [
  | inl none ↦ cc (rw none at is)
  | inr (bits, some) ↦
      let e : clear_selection bits ≡ command = same_Some _ _ (rw some at is) in
      subst (λ c. LacksControls (body_of c)) e (letters_clean bits)
]
selection_clean (letters ∷ text ∷ []) command bytes clean is = elim (option_cases (selection_reading letters)) [
  | inl none ↦ cc (rw none at is)
  | inr (bits, some) ↦ kept_clean command _ (data_body bits text command bytes.1.0 (rw some at is)) (lettered_clean bits text clean.1.0)
]
selection_clean (letters ∷ text ∷ more ∷ rest) command bytes clean is = cc

link_clean : (parts : List (List ℕ)) (command : Command) → AllByRecursion (AllByRecursion IsPlain) parts → any_holds_c1 parts ≡ false → link_command parts ≡ Some command → LacksControls (body_of command)
unfolding link_command
link_clean parts command plains lacks is = elim (result_cases (link_reading parts)) [
  | inl (link, ok) ↦
      let e : set_hyperlink link ≡ command = same_Some _ _ (rw ok at is) in
      subst (λ c. LacksControls (body_of c)) e
      (plain (text_of_link link) (link_parts_each IsPlain refl refl refl refl parts link ok plains) (link_parts_lack_c1 parts link ok lacks))
  | inr (error, err) ↦ cc (rw err at is)
]

coded_clean : (code : List ℕ) (rest : List (List ℕ)) (command : Command) → AllByRecursion IsBytes (code ∷ rest) → AllByRecursion (AllByRecursion IsPlain) (code ∷ rest)
    → AllByRecursion LacksControls (code ∷ rest) → any_holds_c1 (code ∷ rest) ≡ false → LacksControls (joined (code ∷ rest))
    → coded_reading code rest (code ∷ rest) ≡ Some command → LacksControls (body_of command)
unfolding coded_reading
coded_clean code rest command bytes plains clean lacks whole is =
    let after : (make : List ℕ → Command) (name : List ℕ) → bytes_eq code name ≡ true → ((text : List ℕ) → body_of (make text) ≡ name ++ semicolon ∷ text)
    → option_map make (text_reading rest) ≡ Some command → LacksControls (body_of command) =
    λ make name same body h. kept_clean command (joined (code ∷ rest)) (text_body make code rest command (λ text. body text ∙ ap (λ c. c ++ semicolon ∷ text) (sym (is_code code name same))) h) whole in
    elim (cases_Bool (bytes_eq code (codes "0"))) [
      | inl c0 ↦ after set_icon_name_and_window_title (codes "0") c0 (λ text. refl) (rw c0 at is)
      | inr n0 ↦ elim (cases_Bool (bytes_eq code (codes "1"))) [
        | inl c1 ↦ after set_icon_name (codes "1") c1 (λ text. refl) (rw (n0, c1) at is)
        | inr n1 ↦ elim (cases_Bool (bytes_eq code (codes "2"))) [
          | inl c2 ↦ after set_window_title (codes "2") c2 (λ text. refl) (rw (n0, n1, c2) at is)
          | inr n2 ↦ elim (cases_Bool (bytes_eq code (codes "7"))) [
            | inl c7 ↦ after current_working_directory (codes "7") c7 (λ text. refl) (rw (n0, n1, n2, c7) at is)
            | inr n7 ↦ elim (cases_Bool (bytes_eq code (codes "8"))) [
              | inl c8 ↦ link_clean (code ∷ rest) command plains lacks (rw (n0, n1, n2, n7, c8) at is)
              | inr n8 ↦ elim (cases_Bool (bytes_eq code (codes "52"))) [
                | inl c52 ↦ selection_clean rest command bytes.1 clean.1 (rw (n0, n1, n2, n7, n8, c52) at is)
                | inr n52 ↦ cc (rw (n0, n1, n2, n7, n8, n52) at is)
              ]
            ]
          ]
        ]
      ]
    ]

both_clean : (parts : List (List ℕ)) → AllByRecursion (AllByRecursion IsPlain) parts → AllByRecursion LacksC1 parts → AllByRecursion LacksControls parts
both_clean [] h k = tt
both_clean (part ∷ parts) h k = (plain part h.0 k.0, both_clean parts h.1 k.1)

parts_clean : (parts : List (List ℕ)) → (parts ≡ [] → ⊥) → AllByRecursion IsBytes parts → AllByRecursion (AllByRecursion IsPlain) parts → any_holds_c1 parts ≡ false → LacksControls (joined parts)
    → LacksControls (body_of (osc_reading parts))
parts_clean [] some bytes plains lacks whole = absurd (some refl)
parts_clean (first ∷ rest) some bytes plains lacks whole = elim (meant first rest (osc_reading (first ∷ rest)) lacks refl) [
  | left n e ↦ kept_clean (osc_reading (first ∷ rest)) (joined (first ∷ rest)) (ap body_of (sym e)) whole
  | fitted e ↦ coded_clean first rest (osc_reading (first ∷ rest)) bytes plains (both_clean (first ∷ rest) plains (each_lacks_c1 (first ∷ rest) lacks)) lacks whole e
]

-- a command that was read from a body without controls can be written
pub read_writable : (body : List ℕ) → IsBytes body → LacksControls body → IsWritable (osc_reading (parts_of body))
read_writable body b h =
    let bytes : AllByRecursion IsBytes (parts_of body) = parts_bytes (parts_of body) (parts_each (λ x. x < 256) body (each_byte body b)) in
    let plains : AllByRecursion (AllByRecursion IsPlain) (parts_of body) = parts_each IsPlain body (each_plain body h) in
    let whole : LacksControls (joined (parts_of body)) = subst LacksControls (sym (join_with_byte-slice_split 59 body)) h in
    back_writable (osc_reading (parts_of body)) (body_back body b)
    (parts_clean (parts_of body) (parts_of-some body) bytes plains (body_lacks body h.no_c1) whole)
