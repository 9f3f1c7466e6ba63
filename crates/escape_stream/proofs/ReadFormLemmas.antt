-- The read form of a list has the same bytes as the list.
use Rattle.std.proofs.Common.{◌≡◌, ℕ, Bool, true, false, cond, List, [], ◌∷◌, ◌++◌, map, refl, ap, sym, ◌∙◌, append_assoc}
use Rattle.std.specs.Prelude.{encode_utf8, encode_utf8_all}
use Rattle.std.specs.Str.{IsUtf8, chars}
use Rattle.std.proofs.lemmas.Str.{encodes-chars}
use Rattle.csi_codec.specs.declared.escapes.Esc.{Esc}
use Rattle.csi_codec.specs.Escapes.{esc_text}
use Rattle.escape_stream.specs.StreamAction.{StreamAction, print, print_string, control, enter, data_byte, exit, command, csi, esc}
use Rattle.escape_stream.specs.StreamText.{action_text, closes_string, is_terminator_pair, texts_after}
use Rattle.escape_stream.specs.StreamWritable.{terminator_before, read_form_after, HasTexts, ReadFormsEncodeAlike}

characters_text : (cs : List ℕ) (remaining : List StreamAction) → texts_after false (map print cs ++ remaining) ≡ encode_utf8_all cs ++ texts_after false remaining
characters_text [] remaining = refl
characters_text (c ∷ cs) remaining = ap (λ rest. encode_utf8 c ++ rest) (characters_text cs remaining) ∙ sym (append_assoc (encode_utf8 c) (encode_utf8_all cs) (texts_after false remaining))

text_characters : (text : List ℕ) (remaining : List StreamAction) → IsUtf8 text → texts_after false (map print (chars text) ++ remaining) ≡ text ++ texts_after false remaining
text_characters text remaining h = characters_text (chars text) remaining ∙ ap (λ bytes. bytes ++ texts_after false remaining) (encodes-chars text h)

pair_after : (e : Esc) (v : Bool) (read remaining : List StreamAction) → texts_after false read ≡ texts_after false remaining → is_terminator_pair e ≡ v
    → texts_after true (terminator_before true v ++ esc e ∷ [] ++ read) ≡ cond v [] (esc_text e) ++ texts_after false remaining
pair_after e true read remaining same h = ap (λ v. cond v [] (esc_text e) ++ texts_after false read) h ∙ same
pair_after e false read remaining same h = ap (λ rest. esc_text e ++ rest) same

pub same_bytes : (closed : Bool) (actions : List StreamAction) → HasTexts actions → texts_after closed (read_form_after closed actions) ≡ texts_after closed actions
same_bytes true [] h = refl
same_bytes false [] h = refl
same_bytes true (print character ∷ remaining) h = ap (λ rest. action_text (print character) ++ rest) (same_bytes (closes_string (print character)) remaining h)
same_bytes true (control number ∷ remaining) h = ap (λ rest. action_text (control number) ++ rest) (same_bytes (closes_string (control number)) remaining h)
same_bytes true (enter header byte ∷ remaining) h = ap (λ rest. action_text (enter header byte) ++ rest) (same_bytes (closes_string (enter header byte)) remaining h)
same_bytes true (data_byte byte ∷ remaining) h = ap (λ rest. action_text (data_byte byte) ++ rest) (same_bytes (closes_string (data_byte byte)) remaining h)
same_bytes true (exit ∷ remaining) h = ap (λ rest. action_text exit ++ rest) (same_bytes (closes_string exit) remaining h)
same_bytes true (command c ∷ remaining) h = ap (λ rest. action_text (command c) ++ rest) (same_bytes (closes_string (command c)) remaining h)
same_bytes true (csi a ∷ remaining) h = ap (λ rest. action_text (csi a) ++ rest) (same_bytes (closes_string (csi a)) remaining h)
same_bytes true (print_string text ∷ remaining) h = text_characters text (read_form_after false remaining) h.0 ∙ ap (λ rest. text ++ rest) (same_bytes false remaining h.1)
same_bytes true (esc e ∷ remaining) h = pair_after e (is_terminator_pair e) (read_form_after false remaining) remaining (same_bytes false remaining h) refl
same_bytes false (print character ∷ remaining) h = ap (λ rest. action_text (print character) ++ rest) (same_bytes (closes_string (print character)) remaining h)
same_bytes false (control number ∷ remaining) h = ap (λ rest. action_text (control number) ++ rest) (same_bytes (closes_string (control number)) remaining h)
same_bytes false (enter header byte ∷ remaining) h = ap (λ rest. action_text (enter header byte) ++ rest) (same_bytes (closes_string (enter header byte)) remaining h)
same_bytes false (data_byte byte ∷ remaining) h = ap (λ rest. action_text (data_byte byte) ++ rest) (same_bytes (closes_string (data_byte byte)) remaining h)
same_bytes false (exit ∷ remaining) h = ap (λ rest. action_text exit ++ rest) (same_bytes (closes_string exit) remaining h)
same_bytes false (command c ∷ remaining) h = ap (λ rest. action_text (command c) ++ rest) (same_bytes (closes_string (command c)) remaining h)
same_bytes false (csi a ∷ remaining) h = ap (λ rest. action_text (csi a) ++ rest) (same_bytes (closes_string (csi a)) remaining h)
same_bytes false (print_string text ∷ remaining) h = text_characters text (read_form_after false remaining) h.0 ∙ ap (λ rest. text ++ rest) (same_bytes false remaining h.1)
same_bytes false (esc e ∷ remaining) h = ap (λ rest. esc_text e ++ rest) (same_bytes false remaining h)

pub read_forms-lem : ReadFormsEncodeAlike
read_forms-lem actions h = same_bytes false actions h
