-- The text of actions (ECMA-48 5.2 to 5.4; device control strings 8.3.27, operating system commands 8.3.89, ST
-- 8.3.143).
use Rattle.std.specs.Prelude.{◌≡◌, ℕ, List, [], ◌∷◌, ◌++◌, Bool, true, false, ◌&&◌, if◌then◌else◌, encode_utf8}
use Rattle.csi_codec.specs.Sequences.{csi_text}
use Rattle.csi_codec.specs.Escapes.{esc_text}
use Rattle.csi_codec.specs.declared.escapes.EscCode.TheVariants as code
use Rattle.csi_codec.specs.declared.escapes.Esc.{Esc}
use Rattle.csi_codec.specs.declared.escapes.Esc.TheVariants as pair
use Rattle.escape_osc.specs.Text as osc
use Rattle.escape_stream.specs.StreamAction.{StreamAction, print, print_string, control, enter, data_byte, exit}
use Rattle.escape_stream.specs.StreamAction.{command, csi, esc}

-- the bytes of one action: a print in UTF-8, a control its byte, a device control string its opening, data and ESC \
abbrev pub action_text : StreamAction → List ℕ
action_text (print character) = encode_utf8 character
action_text (print_string text) = text
action_text (control number) = number ∷ []
action_text (enter header byte) = 27 ∷ 80 ∷ (header ++ byte ∷ [])
action_text (data_byte byte) = byte ∷ []
action_text exit = 27 ∷ 92 ∷ []
action_text (command c) = osc.text_of c
action_text (csi a) = csi_text a
action_text (esc e) = esc_text e

-- whether the text of an action ends in a string terminator that closes it
abbrev pub closes_string : StreamAction → Bool
closes_string (command c) = true
closes_string exit = true
closes_string (print character) = false
closes_string (print_string text) = false
closes_string (control number) = false
closes_string (enter header byte) = false
closes_string (data_byte byte) = false
closes_string (csi a) = false
closes_string (esc e) = false

-- whether an ESC pair is the string terminator
abbrev pub is_terminator_pair : Esc → Bool
is_terminator_pair (pair.Code code.StringTerminator) = true
is_terminator_pair _ = false

abbrev pub is_string_terminator : StreamAction → Bool
is_string_terminator (esc e) = is_terminator_pair e
is_string_terminator (print character) = false
is_string_terminator (print_string text) = false
is_string_terminator (control number) = false
is_string_terminator (enter header byte) = false
is_string_terminator (data_byte byte) = false
is_string_terminator exit = false
is_string_terminator (command c) = false
is_string_terminator (csi a) = false

-- the bytes of an action, where `closed` says whether the action before it closed a string: the terminator is not
-- written twice
abbrev pub text_after : Bool → StreamAction → List ℕ
text_after closed a = if closed && is_string_terminator a then [] else action_text a

-- the bytes of actions, where `closed` says whether the action before them closed a string
abbrev pub texts_after : Bool → List StreamAction → List ℕ
texts_after closed [] = []
texts_after closed (a ∷ remaining) = text_after closed a ++ texts_after (closes_string a) remaining

-- the bytes of a list of actions: their texts joined, where a string terminator directly after an operating system
-- command or the end of a device control string is not written again
abbrev pub stream_text : List StreamAction → List ℕ
stream_text actions = texts_after false actions

-- ---- Laws

-- whether the last action closes a string
abbrev pub ends_closed : Bool → List StreamAction → Bool
ends_closed closed [] = closed
ends_closed closed (a ∷ remaining) = ends_closed (closes_string a) remaining

-- whether the first action is a string terminator
abbrev pub begins_terminated : List StreamAction → Bool
begins_terminated [] = false
begins_terminated (a ∷ remaining) = is_string_terminator a

-- the text of two joined lists is their texts joined, unless the first ends in what closes a string and the second
-- begins with a string terminator
abbrev pub TextsJoin : Type 0
TextsJoin =
    (a b : List StreamAction) → (ends_closed false a && begins_terminated b) ≡ false
    → stream_text (a ++ b) ≡ stream_text a ++ stream_text b
