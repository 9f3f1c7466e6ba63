-- A command that was read reads back equal from its text.
use Rattle.std.proofs.Common.{◌≡◌, ℕ, ◌==◌, true, false, List, [], ◌∷◌, ◌++◌, codes, refl, ap, sym, ◌∙◌, inl, inr, Option, Some, None, option_map, Result, Ok, Err, subst, ◌⊎◌, ◌<◌, arith}
use Rattle.std.specs.List.{AllByRecursion}
use Rattle.std.specs.Str.{IsUtf8, bytes_eq, is_utf8}
use Rattle.escape_osc.proofs.ReadingLemmas.{utf8_yes}
use Rattle.std.specs.Option.{option_and_then}
use Rattle.std.proofs.lemmas.Bool.{cases_Bool}
use Rattle.std.proofs.lemmas.Option.{same_Some}
use Rattle.std.proofs.lemmas.Slice.Eq.{bytes_eq-Decides}
use Rattle.std.proofs.lemmas.List.Splits.{join_with_byte-slice_split}
use Rattle.std.specs.Result.{result_ok}
use Rattle.text_clusters.specs.Controls.{holds_c1}
use Rattle.cell_base.specs.Link.{Link}
use Rattle.cell_base.specs.LinkText.{link_text, text_of_link, link_reading}
use Rattle.cell_base.specs.declared.link_error.LinkError.{LinkError}
use Rattle.cell_base.proofs.LinkLaws.{body_back as link_body_back}
use Rattle.base64.specs.Engines.{standard}
use Rattle.base64.specs.GeneralPurpose.{IsBytes, decoded_of}
use Rattle.escape_osc.proofs.Base64Lemmas.{bytes_each, each_byte, base64_exact}
use Rattle.escape_osc.proofs.SelectionLemmas.{selection_back, letters_piece, letters_ascii}
use Rattle.escape_osc.specs.Selection.{letters_of, selection_reading}
use Rattle.escape_osc.specs.Command.{Command, set_icon_name_and_window_title, set_icon_name, set_window_title, current_working_directory, set_hyperlink, set_selection, query_selection, clear_selection, unspecified}
use Rattle.escape_osc.specs.Parts.{semicolon, parts_of, joined, any_holds_c1}
use Rattle.escape_osc.specs.Reading.{utf8_reading, text_reading, base64_reading, data_reading, clear_reading, lettered_reading, selection_command, link_command, coded_reading, osc_reading}
use Rattle.escape_osc.specs.Text.{base64_of, body_of}
use Rattle.escape_osc.specs.Writable.{ReadsBack}
use Rattle.escape_osc.proofs.C1Lemmas.{any_holds_c1-joined, link_parts_lack_c1, ascii_lacks_c1, each_lacks_c1, any_lacks_c1}
use Rattle.escape_osc.proofs.Cases.{option_cases}
use Rattle.escape_osc.proofs.SplitLemmas.{IsPiece, parts_of-at, parts_of-piece, parts_of-joined, pieces, parts_of-some, parts_each}

-- parts that a body can have
abbrev pub ArePieces : List (List ℕ) → Type 0
ArePieces parts = AllByRecursion IsPiece parts

-- ---- where the body is that of the parts

same_body : (command : Command) (first : List ℕ) (rest : List (List ℕ)) → ArePieces (first ∷ rest) → osc_reading (first ∷ rest) ≡ command
    → body_of command ≡ joined (first ∷ rest) → ReadsBack command
same_body command first rest are is body =
    ap (λ b. osc_reading (parts_of b)) body ∙ ap osc_reading (parts_of-joined first rest are.0 are.1) ∙ is

pub utf8_same : (bytes text : List ℕ) → utf8_reading bytes ≡ Some text → bytes ≡ text
unfolding utf8_reading
utf8_same bytes text h = elim (cases_Bool (is_utf8 bytes)) [
  | inl is ↦ same_Some _ _ (rw is at h)
  | inr other ↦ cc (rw other at h)
]

-- a text after a code
text_back : (make : List ℕ → Command) (code : List ℕ) (rest : List (List ℕ)) (command : Command) → ((text : List ℕ) → body_of (make text) ≡ code ++ semicolon ∷ text)
    → ArePieces (code ∷ rest) → osc_reading (code ∷ rest) ≡ command → option_map make (text_reading rest) ≡ Some command → ReadsBack command
unfolding text_reading
text_back make code [] command body are is h = cc
text_back make code (part ∷ rest) command body are is h = elim (option_cases (utf8_reading (joined (part ∷ rest)))) [
  | inl none ↦ cc (rw none at h)
  | inr (text, some) ↦
      let e : make text ≡ command = same_Some _ _ (rw some at h) in
      same_body command code (part ∷ rest) are is
      (ap body_of (sym e) ∙ body text ∙ ap (λ t. code ++ semicolon ∷ t) (sym (utf8_same _ text some)))
]

-- ---- the commands that a code and the parts after it read as

pub fits : (first : List ℕ) (rest : List (List ℕ)) (command : Command) → any_holds_c1 (first ∷ rest) ≡ false → coded_reading first rest (first ∷ rest) ≡ Some command → osc_reading (first ∷ rest) ≡ command
fits first rest command lacks is = rw (lacks, is) refl

-- ---- links

text_of_link_begins : (link : Option Link) → (rest : List ℕ) × (text_of_link link ≡ 56 ∷ 59 ∷ rest)
unfolding link_text
text_of_link_begins None = (59 ∷ [], refl)
text_of_link_begins (Some link) = (_, refl)

pub link_parts : (link : Option Link) → (rest : List (List ℕ)) × (parts_of (text_of_link link) ≡ codes "8" ∷ rest)
link_parts link =
    let begins = text_of_link_begins link in
    (parts_of begins.0, ap parts_of begins.1 ∙ parts_of-at (codes "8") begins.0 (refl, tt))

pub eight_is_link : (rest parts : List (List ℕ)) → coded_reading (codes "8") rest parts ≡ link_command parts
unfolding coded_reading
eight_is_link rest parts = refl

ok_some : (r : Result (Option Link) LinkError) (link : Option Link) → r ≡ Ok link → result_ok r ≡ Some link
ok_some r link h = rw h refl

-- a link that its own text gives
pub link_value : (link : Option Link) → link_reading (parts_of (text_of_link link)) ≡ Ok link → holds_c1 (text_of_link link) ≡ false → ReadsBack (set_hyperlink link)
unfolding link_command
link_value link is lacks =
    let split = link_parts link in
    let whole : parts_of (text_of_link link) ≡ codes "8" ∷ split.0 = split.1 in
    let clean : any_holds_c1 (parts_of (text_of_link link)) ≡ false =
    any_holds_c1-joined 59 (parts_of (text_of_link link)) (omega arith)
    ∙ ap holds_c1 (join_with_byte-slice_split 59 (text_of_link link)) ∙ lacks in
    let reads : coded_reading (codes "8") split.0 (codes "8" ∷ split.0) ≡ Some (set_hyperlink link) =
    eight_is_link split.0 (codes "8" ∷ split.0)
    ∙ ap (λ ps. option_map set_hyperlink (result_ok (link_reading ps))) (sym whole)
    ∙ ap (option_map set_hyperlink) (ok_some _ link is) in
    ap osc_reading whole ∙ fits (codes "8") split.0 (set_hyperlink link) (ap any_holds_c1 (sym whole) ∙ clean) reads

link_back : (parts : List (List ℕ)) (link : Option Link) → parts_of (joined parts) ≡ parts → any_holds_c1 parts ≡ false → link_reading parts ≡ Ok link → ReadsBack (set_hyperlink link)
link_back parts link same lacks is =
    link_value link (link_body_back (joined parts) link (ap link_reading same ∙ is)) (link_parts_lack_c1 parts link is lacks)

pub result_cases : (r : Result (Option Link) LinkError) → ((link : Option Link) × (r ≡ Ok link)) ⊎ ((e : LinkError) × (r ≡ Err e))
result_cases (Ok link) = inl (link, refl)
result_cases (Err e) = inr (e, refl)

link_case : (parts : List (List ℕ)) (command : Command) → parts_of (joined parts) ≡ parts → any_holds_c1 parts ≡ false → link_command parts ≡ Some command → ReadsBack command
unfolding link_command
link_case parts command same lacks is = elim (result_cases (link_reading parts)) [
  | inl (link, ok) ↦
      let e : set_hyperlink link ≡ command = same_Some _ _ (rw ok at is) in
      subst ReadsBack e (link_back parts link same lacks ok)
  | inr (error, err) ↦ cc (rw err at is)
]

-- ---- selections

pub fifty_two_is_selection : (rest parts : List (List ℕ)) → coded_reading (codes "52") rest parts ≡ selection_command rest
unfolding coded_reading
fifty_two_is_selection rest parts = refl

code_lacks_c1 : holds_c1 (codes "52") ≡ false
unfolding holds_c1
code_lacks_c1 = refl

question_lacks_c1 : holds_c1 (codes "?") ≡ false
unfolding holds_c1
question_lacks_c1 = refl

letters_lack_c1 : (bits : ℕ) → holds_c1 (letters_of bits) ≡ false
letters_lack_c1 bits = ascii_lacks_c1 (letters_of bits) (letters_ascii bits)

selection_fits : (rest : List (List ℕ)) (command : Command) → any_holds_c1 rest ≡ false → selection_command rest ≡ Some command → osc_reading (codes "52" ∷ rest) ≡ command
selection_fits rest command lacks is =
    fits (codes "52") rest command (rw (code_lacks_c1, lacks) refl) (fifty_two_is_selection rest (codes "52" ∷ rest) ∙ is)

pub clear_parts : (bits : ℕ) → parts_of (body_of (clear_selection bits)) ≡ codes "52" ∷ letters_of bits ∷ []
clear_parts bits =
    parts_of-at (codes "52") (letters_of bits) (refl, (refl, tt))
    ∙ ap (λ parts. codes "52" ∷ parts) (parts_of-piece (letters_of bits) (letters_piece bits))

pub lettered_parts : (bits : ℕ) (text : List ℕ) → IsPiece text → parts_of (codes "52;" ++ (letters_of bits ++ semicolon ∷ text)) ≡ codes "52" ∷ letters_of bits ∷ text ∷ []
lettered_parts bits text p =
    parts_of-at (codes "52") (letters_of bits ++ semicolon ∷ text) (refl, (refl, tt))
    ∙ ap (λ parts. codes "52" ∷ parts) (parts_of-at (letters_of bits) text (letters_piece bits) ∙ ap (λ parts. letters_of bits ∷ parts) (parts_of-piece text p))

pub clear_back : (bits : ℕ) → selection_reading (letters_of bits) ≡ Some bits → ReadsBack (clear_selection bits)
unfolding selection_command clear_reading
clear_back bits is =
    ap osc_reading (clear_parts bits)
    ∙ selection_fits (letters_of bits ∷ []) (clear_selection bits) (rw (letters_lack_c1 bits) refl) (ap (option_map clear_selection) is)

pub lettered_back : (bits : ℕ) (text : List ℕ) (command : Command) → selection_reading (letters_of bits) ≡ Some bits → IsPiece text → holds_c1 text ≡ false
    → data_reading bits text ≡ Some command → osc_reading (parts_of (codes "52;" ++ (letters_of bits ++ semicolon ∷ text))) ≡ command
unfolding selection_command lettered_reading
lettered_back bits text command is p lacks does =
    ap osc_reading (lettered_parts bits text p)
    ∙ selection_fits (letters_of bits ∷ text ∷ []) command (rw (letters_lack_c1 bits, lacks) refl)
    (ap (option_and_then (λ b. data_reading b text)) is ∙ does)

base64_back : (bits : ℕ) (text : List ℕ) (command : Command) → IsBytes text → option_map (set_selection bits) (base64_reading text) ≡ Some command
    → body_of command ≡ codes "52;" ++ (letters_of bits ++ semicolon ∷ text)
unfolding base64_reading
base64_back bits text command b is = elim (option_cases (decoded_of standard text)) [
  | inl none ↦ cc (rw none at is)
  | inr (bytes, some) ↦ elim (option_cases (utf8_reading bytes)) [
    | inl none ↦ cc (rw (some, none) at is)
    | inr (shown, utf8) ↦
        let e : set_selection bits shown ≡ command = same_Some _ _ (rw (some, utf8) at is) in
        let same : base64_of shown ≡ text = ap base64_of (sym (utf8_same bytes shown utf8)) ∙ base64_exact text bytes b some in
        ap body_of (sym e) ∙ ap (λ t. codes "52;" ++ (letters_of bits ++ semicolon ∷ t)) same
  ]
]

pub data_body : (bits : ℕ) (text : List ℕ) (command : Command) → IsBytes text → data_reading bits text ≡ Some command
    → body_of command ≡ codes "52;" ++ (letters_of bits ++ semicolon ∷ text)
unfolding data_reading
data_body bits text command b is = elim (cases_Bool (bytes_eq text (codes "?"))) [
  | inl asks ↦
      let e : query_selection bits ≡ command = same_Some _ _ (rw asks at is) in
      let same : text ≡ codes "?" = (bytes_eq-Decides text (codes "?")).0 asks in
      ap body_of (sym e) ∙ ap (λ t. codes "52;" ++ (letters_of bits ++ semicolon ∷ t)) (sym same)
  | inr sets ↦ base64_back bits text command b (rw sets at is)
]

selection_case : (rest : List (List ℕ)) (command : Command) → ArePieces rest → AllByRecursion IsBytes rest → any_holds_c1 rest ≡ false → selection_command rest ≡ Some command → ReadsBack command
unfolding selection_command clear_reading lettered_reading
selection_case [] command are bytes lacks is = cc
selection_case (text ∷ []) command are bytes lacks is = elim (option_cases (selection_reading text)) [
  | inl none ↦ cc (rw none at is)
  | inr (bits, some) ↦
      let e : clear_selection bits ≡ command = same_Some _ _ (rw some at is) in
      subst ReadsBack e (clear_back bits (selection_back text bits some))
]
selection_case (letters ∷ text ∷ []) command are bytes lacks is = elim (option_cases (selection_reading letters)) [
  | inl none ↦ cc (rw none at is)
  | inr (bits, some) ↦
      let does : data_reading bits text ≡ Some command = rw some at is in
      let clean = each_lacks_c1 (letters ∷ text ∷ []) lacks in
      ap (λ b. osc_reading (parts_of b)) (data_body bits text command bytes.1.0 does)
      ∙ lettered_back bits text command (selection_back letters bits some) are.1.0 clean.1.0 does
]
selection_case (letters ∷ text ∷ more ∷ rest) command are bytes lacks is = cc

-- ---- every command that was read

pub is_code : (code name : List ℕ) → bytes_eq code name ≡ true → code ≡ name
is_code code name h = (bytes_eq-Decides code name).0 h

coded_back : (code : List ℕ) (rest : List (List ℕ)) (command : Command) → ArePieces (code ∷ rest) → AllByRecursion IsBytes (code ∷ rest) → any_holds_c1 (code ∷ rest) ≡ false
    → coded_reading code rest (code ∷ rest) ≡ Some command → ReadsBack command
unfolding coded_reading
coded_back code rest command are bytes lacks is =
    let reads : osc_reading (code ∷ rest) ≡ command = fits code rest command lacks is in
    let after : (make : List ℕ → Command) (name : List ℕ) → bytes_eq code name ≡ true → ((text : List ℕ) → body_of (make text) ≡ name ++ semicolon ∷ text)
    → option_map make (text_reading rest) ≡ Some command → ReadsBack command =
    λ make name same body h. text_back make code rest command (λ text. body text ∙ ap (λ c. c ++ semicolon ∷ text) (sym (is_code code name same))) are reads h in
    elim (cases_Bool (bytes_eq code (codes "0"))) [
      | inl c0 ↦ after set_icon_name_and_window_title (codes "0") c0 (λ text. refl) (rw c0 at is)
      | inr n0 ↦ elim (cases_Bool (bytes_eq code (codes "1"))) [
        | inl c1 ↦ after set_icon_name (codes "1") c1 (λ text. refl) (rw (n0, c1) at is)
        | inr n1 ↦ elim (cases_Bool (bytes_eq code (codes "2"))) [
          | inl c2 ↦ after set_window_title (codes "2") c2 (λ text. refl) (rw (n0, n1, c2) at is)
          | inr n2 ↦ elim (cases_Bool (bytes_eq code (codes "7"))) [
            | inl c7 ↦ after current_working_directory (codes "7") c7 (λ text. refl) (rw (n0, n1, n2, c7) at is)
            | inr n7 ↦ elim (cases_Bool (bytes_eq code (codes "8"))) [
              | inl c8 ↦ link_case (code ∷ rest) command (parts_of-joined code rest are.0 are.1) lacks (rw (n0, n1, n2, n7, c8) at is)
              | inr n8 ↦ elim (cases_Bool (bytes_eq code (codes "52"))) [
                | inl c52 ↦
                    let clean = each_lacks_c1 (code ∷ rest) lacks in
                    selection_case rest command are.1 bytes.1 (any_lacks_c1 rest clean.1) (rw (n0, n1, n2, n7, n8, c52) at is)
                | inr n52 ↦ cc (rw (n0, n1, n2, n7, n8, n52) at is)
              ]
            ]
          ]
        ]
      ]
    ]

parts_back : (first : List ℕ) (rest : List (List ℕ)) → ArePieces (first ∷ rest) → AllByRecursion IsBytes (first ∷ rest) → ReadsBack (osc_reading (first ∷ rest))
parts_back first rest are bytes = elim (cases_Bool (any_holds_c1 (first ∷ rest))) [
  | inl holds ↦
      let e : osc_reading (first ∷ rest) ≡ unspecified (first ∷ rest) = rw holds refl in
      subst ReadsBack (sym e) (same_body (unspecified (first ∷ rest)) first rest are e refl)
  | inr lacks ↦ elim (option_cases (coded_reading first rest (first ∷ rest))) [
    | inl none ↦
        let e : osc_reading (first ∷ rest) ≡ unspecified (first ∷ rest) = rw (lacks, none) refl in
        subst ReadsBack (sym e) (same_body (unspecified (first ∷ rest)) first rest are e refl)
    | inr (command, some) ↦
        let e : osc_reading (first ∷ rest) ≡ command = fits first rest command lacks some in
        subst ReadsBack (sym e) (coded_back first rest command are bytes lacks some)
  ]
]

split_back : (parts : List (List ℕ)) → (parts ≡ [] → ⊥) → ArePieces parts → AllByRecursion IsBytes parts → ReadsBack (osc_reading parts)
split_back [] some are bytes = absurd (some refl)
split_back (first ∷ rest) some are bytes = parts_back first rest are bytes

pub parts_bytes : (parts : List (List ℕ)) → AllByRecursion (AllByRecursion (λ b. b < 256)) parts → AllByRecursion IsBytes parts
parts_bytes [] h = tt
parts_bytes (part ∷ parts) h = (bytes_each part h.0, parts_bytes parts h.1)

-- a command that was read from a body reads back
pub body_back : (body : List ℕ) → IsBytes body → ReadsBack (osc_reading (parts_of body))
body_back body b =
    split_back (parts_of body) (parts_of-some body) (pieces body) (parts_bytes (parts_of body) (parts_each (λ b. b < 256) body (each_byte body b)))

-- ---- texts

text_some : (parts : List (List ℕ)) → (parts ≡ [] → ⊥) → text_reading parts ≡ utf8_reading (joined parts)
unfolding text_reading
text_some [] some = absurd (some refl)
text_some (part ∷ parts) some = refl

-- a text reads back from after its code, which is one digit
pub code_text_back : (make : List ℕ → Command) (code : ℕ) (text : List ℕ) → (code == semicolon) ≡ false → holds_c1 (code ∷ []) ≡ false → IsUtf8 text → holds_c1 text ≡ false
    → ((rest parts : List (List ℕ)) → coded_reading (code ∷ []) rest parts ≡ option_map make (text_reading rest))
    → osc_reading (parts_of (code ∷ semicolon ∷ text)) ≡ make text
code_text_back make code text other code_lacks utf8 lacks reads =
    let same : joined (parts_of text) ≡ text = join_with_byte-slice_split 59 text in
    let clean : any_holds_c1 (parts_of text) ≡ false = any_holds_c1-joined 59 (parts_of text) (omega arith) ∙ ap holds_c1 same ∙ lacks in
    let whole : text_reading (parts_of text) ≡ Some text = text_some (parts_of text) (parts_of-some text) ∙ ap utf8_reading same ∙ utf8_yes text utf8 in
    ap osc_reading (parts_of-at (code ∷ []) text (other, tt))
    ∙ fits (code ∷ []) (parts_of text) (make text) (rw (code_lacks, clean) refl)
    (reads (parts_of text) ((code ∷ []) ∷ parts_of text) ∙ ap (option_map make) whole)

pub zero_is_text : (rest parts : List (List ℕ)) → coded_reading (codes "0") rest parts ≡ option_map set_icon_name_and_window_title (text_reading rest)
unfolding coded_reading
zero_is_text rest parts = refl

pub one_is_text : (rest parts : List (List ℕ)) → coded_reading (codes "1") rest parts ≡ option_map set_icon_name (text_reading rest)
unfolding coded_reading
one_is_text rest parts = refl

pub two_is_text : (rest parts : List (List ℕ)) → coded_reading (codes "2") rest parts ≡ option_map set_window_title (text_reading rest)
unfolding coded_reading
two_is_text rest parts = refl

pub seven_is_text : (rest parts : List (List ℕ)) → coded_reading (codes "7") rest parts ≡ option_map current_working_directory (text_reading rest)
unfolding coded_reading
seven_is_text rest parts = refl
