-- What the parts of an operating system command mean (ECMA-48, 8.3.89; xterm's control sequences, operating system
-- commands; OSC 8 is the convention for links in terminals).
use Rattle.std.specs.Prelude.{ℕ, List, [], ◌∷◌, codes, Option, Some, None, option_map, unwrap_or, if◌then◌else◌}
use Rattle.std.specs.Option.{option_and_then}
use Rattle.std.specs.Result.{result_ok}
use Rattle.std.specs.Str.{is_utf8, bytes_eq}
use Rattle.base64.specs.Engines.{standard}
use Rattle.base64.specs.GeneralPurpose.{decoded_of}
use Rattle.cell_base.specs.LinkText.{link_reading}
use Rattle.escape_osc.specs.Command.{Command, set_icon_name_and_window_title, set_icon_name, set_window_title}
use Rattle.escape_osc.specs.Command.{current_working_directory, set_hyperlink, set_selection, query_selection}
use Rattle.escape_osc.specs.Command.{clear_selection, unspecified}
use Rattle.escape_osc.specs.Parts.{joined, any_holds_c1}
use Rattle.escape_osc.specs.Selection.{selection_reading}

-- the bytes, where they are UTF-8
unfoldable pub utf8_reading : List ℕ → Option (List ℕ)
utf8_reading bytes = if is_utf8 bytes then Some bytes else None

-- the text of the parts after a code, of which there is at least one: they are joined again
unfoldable pub text_reading : List (List ℕ) → Option (List ℕ)
text_reading [] = None
text_reading (part ∷ rest) = utf8_reading (joined (part ∷ rest))

-- the text that canonical base64 (RFC 4648, section 4) encodes
unfoldable pub base64_reading : List ℕ → Option (List ℕ)
base64_reading text = option_and_then utf8_reading (decoded_of standard text)

-- the command of the text after the letters: `?` asks for the selection, base64 sets it
unfoldable pub data_reading : ℕ → List ℕ → Option Command
data_reading bits text = if bytes_eq text (codes "?") then Some (query_selection bits)
    else option_map (set_selection bits) (base64_reading text)

-- the command of letters with nothing after them
unfoldable pub clear_reading : List ℕ → Option Command
clear_reading letters = option_map clear_selection (selection_reading letters)

-- the command of letters with a text after them
unfoldable pub lettered_reading : List ℕ → List ℕ → Option Command
lettered_reading letters text = option_and_then (λ bits. data_reading bits text) (selection_reading letters)

-- the command of the parts after `52`: the letters of a selection, and at most one more part
unfoldable pub selection_command : List (List ℕ) → Option Command
selection_command [] = None
selection_command (letters ∷ []) = clear_reading letters
selection_command (letters ∷ text ∷ []) = lettered_reading letters text
selection_command (letters ∷ text ∷ more ∷ rest) = None

-- the command of the parts of an OSC 8: a link, or the end of one
unfoldable pub link_command : List (List ℕ) → Option Command
link_command parts = option_map set_hyperlink (result_ok (link_reading parts))

-- the command of a code, the parts after it and all parts, if they fit
unfoldable pub coded_reading : List ℕ → List (List ℕ) → List (List ℕ) → Option Command
coded_reading code rest parts =
    if bytes_eq code (codes "0") then option_map set_icon_name_and_window_title (text_reading rest)
    else if bytes_eq code (codes "1") then option_map set_icon_name (text_reading rest)
    else if bytes_eq code (codes "2") then option_map set_window_title (text_reading rest)
    else if bytes_eq code (codes "7") then option_map current_working_directory (text_reading rest)
    else if bytes_eq code (codes "8") then link_command parts
    else if bytes_eq code (codes "52") then selection_command rest
    else None

-- the command of all parts, if they fit: the first part is the code
abbrev pub fitting_reading : List (List ℕ) → Option Command
fitting_reading [] = None
fitting_reading (code ∷ rest) = coded_reading code rest (code ∷ rest)

-- the command of parts; parts that do not fit, or that hold one of U+0080 to U+009F, are unspecified
abbrev pub osc_reading : List (List ℕ) → Command
osc_reading parts = if any_holds_c1 parts then unspecified parts
    else unwrap_or (fitting_reading parts) (unspecified parts)
