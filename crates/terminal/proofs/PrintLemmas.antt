-- A writable list and the list that is read from its bytes print equal texts.
use Rattle.std.proofs.Common.{◌≡◌, ℕ, Bool, true, false, Option, Some, None, List, [], ◌∷◌, ◌++◌, map, refl, ap, ◌∙◌, append-nil}
use Rattle.std.specs.Prelude.{encode_utf8, encode_utf8_all}
use Rattle.std.specs.Str.{chars}
use Rattle.std.proofs.lemmas.Grind.{flat_map-append}
use Rattle.std.proofs.lemmas.Str.{encodes-chars}
use Rattle.escape_stream.specs.StreamAction.{StreamAction, print, print_string, control, enter, data_byte, exit, command, csi, esc, printed}
use Rattle.escape_stream.specs.StreamText.{closes_string, is_string_terminator}
use Rattle.escape_stream.specs.StreamWritable.{HasTexts, IsWritable, IsWritableAfter, characters_of, read_form, read_form_after, terminator_before}
use Rattle.terminal_render.specs.EncodedSizes.{prints_in}

has_texts : (before : Option ℕ) (actions : List StreamAction) → IsWritableAfter before actions → HasTexts actions
has_texts None [] w = tt
has_texts None (print character ∷ remaining) w = has_texts None remaining w.1
has_texts None (print_string text ∷ remaining) w = (w.0.utf8, has_texts None remaining w.1)
has_texts None (control number ∷ remaining) w = has_texts None remaining w.1
has_texts None (enter header byte ∷ remaining) w = has_texts (Some byte) remaining w.1
has_texts None (data_byte byte ∷ remaining) w = absurd w.0
has_texts None (exit ∷ remaining) w = absurd w.0
has_texts None (command c ∷ remaining) w = has_texts None remaining w.1
has_texts None (csi a ∷ remaining) w = has_texts None remaining w.1
has_texts None (esc e ∷ remaining) w = has_texts None remaining w.1
has_texts (Some before) [] w = absurd w
has_texts (Some before) (print character ∷ remaining) w = absurd w
has_texts (Some before) (print_string text ∷ remaining) w = absurd w
has_texts (Some before) (control number ∷ remaining) w = absurd w
has_texts (Some before) (enter header byte ∷ remaining) w = absurd w
has_texts (Some before) (data_byte byte ∷ remaining) w = has_texts (Some byte) remaining w.1
has_texts (Some before) (exit ∷ remaining) w = has_texts None remaining w
has_texts (Some before) (command c ∷ remaining) w = absurd w
has_texts (Some before) (csi a ∷ remaining) w = absurd w
has_texts (Some before) (esc e ∷ remaining) w = absurd w

terminator_prints : (closed stands : Bool) → prints_in (terminator_before closed stands) ≡ []
terminator_prints true true = refl
terminator_prints true false = refl
terminator_prints false stands = refl

characters_print : (characters : List ℕ) → prints_in (map print characters) ≡ encode_utf8_all characters
characters_print [] = refl
characters_print (c ∷ characters) = ap (λ text. encode_utf8 c ++ text) (characters_print characters)

action_prints : (a : StreamAction) → HasTexts (a ∷ []) → prints_in (characters_of a) ≡ printed a
action_prints (print character) h = append-nil (encode_utf8 character)
action_prints (print_string text) h = characters_print (chars text) ∙ encodes-chars text h.0
action_prints (control number) h = refl
action_prints (enter header byte) h = refl
action_prints (data_byte byte) h = refl
action_prints exit h = refl
action_prints (command c) h = refl
action_prints (csi a) h = refl
action_prints (esc e) h = refl

first_has : (a : StreamAction) (remaining : List StreamAction) → HasTexts (a ∷ remaining) → HasTexts (a ∷ []) × HasTexts remaining
first_has (print character) remaining h = (tt, h)
first_has (print_string text) remaining h = ((h.0, tt), h.1)
first_has (control number) remaining h = (tt, h)
first_has (enter header byte) remaining h = (tt, h)
first_has (data_byte byte) remaining h = (tt, h)
first_has exit remaining h = (tt, h)
first_has (command c) remaining h = (tt, h)
first_has (csi a) remaining h = (tt, h)
first_has (esc e) remaining h = (tt, h)

read_prints : (closed : Bool) (actions : List StreamAction) → HasTexts actions → prints_in (read_form_after closed actions) ≡ prints_in actions
read_prints closed [] h = terminator_prints closed false
read_prints closed (a ∷ remaining) h =
    let prefix = terminator_before closed (is_string_terminator a) in
    let after = read_form_after (closes_string a) remaining in
    let has = first_has a remaining h in
    let first = flat_map-append printed prefix (characters_of a) ∙ ap (λ text. text ++ prints_in (characters_of a)) (terminator_prints closed (is_string_terminator a)) ∙ action_prints a has.0 in
    flat_map-append printed (prefix ++ characters_of a) after ∙ (λ i. first i ++ read_prints (closes_string a) remaining has.1 i)

pub prints_stay : (actions : List StreamAction) → IsWritable actions → prints_in (read_form actions) ≡ prints_in actions
prints_stay actions w = read_prints false actions (has_texts None actions w)
