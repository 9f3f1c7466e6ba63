-- The body of a command by its form: its bytes, and its printed text.
use Rattle.std.specs.Prelude.{ℕ, List, ◌∷◌, ◌++◌, codes, map}
use Rattle.std.specs.Str.Lossy.{utf8_lossy}
use Rattle.cell_base.specs.LinkText.{link_text}
use Rattle.escape_osc.specs.declared.body.Body.{Body}
use Rattle.escape_osc.specs.declared.body.Body.TheVariants as form
use Rattle.escape_osc.specs.Parts.{semicolon, joined}
use Rattle.escape_osc.specs.Selection.{bits_of, letters_of}
use Rattle.escape_osc.specs.Text.{base64_of}

abbrev pub bytes_of_body : Body → List ℕ
bytes_of_body (form.Text code text) = code.now ++ text.now
bytes_of_body (form.Link link) = link_text link.now
bytes_of_body (form.Selection selection rest) = codes "52;" ++ (letters_of (bits_of selection) ++ rest.now)
bytes_of_body (form.SelectionText selection text) =
    codes "52;" ++ (letters_of (bits_of selection) ++ semicolon ∷ base64_of text.now)
bytes_of_body (form.Parts parts) = joined (map (λ part. part.items) parts.now)

-- the printed text: the bytes, with U+FFFD in place of each ill-formed sequence of bytes in a part
abbrev pub shown_by_body : Body → List ℕ
shown_by_body (form.Parts parts) = joined (map utf8_lossy (map (λ part. part.items) parts.now))
shown_by_body body = bytes_of_body body
