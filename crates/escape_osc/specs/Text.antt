-- The text of an operating system command (ECMA-48, 8.3.89 and 8.3.143): ESC ], its body, ESC \.
use Rattle.std.specs.Prelude.{ℕ, List, [], ◌∷◌, ◌++◌, codes, map}
use Rattle.std.specs.Str.Lossy.{utf8_lossy}
use Rattle.base64.specs.Engines.{standard}
use Rattle.base64.specs.GeneralPurpose.{encode_of}
use Rattle.cell_base.specs.LinkText.{text_of_link}
use Rattle.escape_osc.specs.Command.{Command, set_icon_name_and_window_title, set_icon_name, set_window_title}
use Rattle.escape_osc.specs.Command.{current_working_directory, set_hyperlink, set_selection, query_selection}
use Rattle.escape_osc.specs.Command.{clear_selection, unspecified}
use Rattle.escape_osc.specs.Parts.{semicolon, joined}
use Rattle.escape_osc.specs.Selection.{letters_of}

-- base64 of some bytes
unfoldable pub base64_of : List ℕ → List ℕ
base64_of bytes = encode_of standard bytes

-- the body: the code, `;`, and the text, the link, or the selection and its data; else the parts
abbrev pub body_of : Command → List ℕ
body_of (set_icon_name_and_window_title text) = codes "0;" ++ text
body_of (set_icon_name text) = codes "1;" ++ text
body_of (set_window_title text) = codes "2;" ++ text
body_of (current_working_directory text) = codes "7;" ++ text
body_of (set_hyperlink link) = text_of_link link
body_of (set_selection bits text) = codes "52;" ++ (letters_of bits ++ semicolon ∷ base64_of text)
body_of (query_selection bits) = codes "52;" ++ (letters_of bits ++ codes ";?")
body_of (clear_selection bits) = codes "52;" ++ letters_of bits
body_of (unspecified parts) = joined parts

-- the body as text, with U+FFFD in place of each ill-formed sequence of bytes in a part
abbrev pub shown_body : Command → List ℕ
shown_body (unspecified parts) = joined (map utf8_lossy parts)
shown_body command = body_of command

-- ESC ], the body and ESC \
abbrev pub framed : List ℕ → List ℕ
framed body = 0x1B ∷ 93 ∷ [] ++ body ++ 0x1B ∷ 92 ∷ []

-- the bytes of a command
abbrev pub text_of : Command → List ℕ
text_of command = framed (body_of command)

-- what `Display` writes
abbrev pub shown_text : Command → List ℕ
shown_text command = framed (shown_body command)
