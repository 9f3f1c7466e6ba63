-- An action of a stream as a value, and how an action joins a list of them.
use Rattle.std.specs.Prelude.{ℕ, List, [], ◌∷◌, ◌++◌, Bool, true, false, ◌&&◌, if◌then◌else◌, encode_utf8}
use Rattle.csi_codec.specs.Actions as codec
use Rattle.csi_codec.specs.declared.escapes.Esc.{Esc}
use Rattle.escape_osc.specs.Command.{Command}

-- a constructor for each variant of `Action` and of `DeviceControlMode`: texts as bytes, a control by its number, boxed
-- parts without where they lie in memory
pub data StreamAction : Type 0 where
  print : (character : ℕ) → StreamAction
  print_string : (text : List ℕ) → StreamAction
  control : (number : ℕ) → StreamAction
  enter : (header : List ℕ) (byte : ℕ) → StreamAction
  data_byte : (byte : ℕ) → StreamAction
  exit : StreamAction
  command : Command → StreamAction
  csi : codec.Action → StreamAction
  esc : Esc → StreamAction

-- whether an action prints characters
abbrev pub is_print : StreamAction → Bool
is_print (print character) = true
is_print (print_string text) = true
is_print (control number) = false
is_print (enter header byte) = false
is_print (data_byte byte) = false
is_print exit = false
is_print (command c) = false
is_print (csi a) = false
is_print (esc e) = false

-- the characters that an action prints, in UTF-8
abbrev pub printed : StreamAction → List ℕ
printed (print character) = encode_utf8 character
printed (print_string text) = text
printed (control number) = []
printed (enter header byte) = []
printed (data_byte byte) = []
printed exit = []
printed (command c) = []
printed (csi a) = []
printed (esc e) = []

-- an action after another: a print after a print is one with it
abbrev pub joined_pair : StreamAction → StreamAction → List StreamAction
joined_pair last next =
    if is_print last && is_print next then print_string (printed last ++ printed next) ∷ [] else last ∷ next ∷ []

-- an action after a list of them
abbrev pub appended : List StreamAction → StreamAction → List StreamAction
appended [] next = next ∷ []
appended (last ∷ []) next = joined_pair last next
appended (first ∷ second ∷ remaining) next = first ∷ appended (second ∷ remaining) next
