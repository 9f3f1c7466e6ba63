-- How the parts of a command's text are printed.
use Rattle.std.specs.Prelude.{ℕ, List, [], ◌∷◌, map}
use Rattle.std.specs.Str.Lossy.{utf8_lossy, replacement_bytes}
use Rattle.escape_osc.specs.declared.show.Base64.{Base64}
use Rattle.escape_osc.specs.declared.show.Letters.{Letters}
use Rattle.escape_osc.specs.declared.show.LossyPart.{LossyPart}
use Rattle.escape_osc.specs.declared.show.LossyParts.{LossyParts}
use Rattle.escape_osc.specs.Parts.{joined}
use Rattle.escape_osc.specs.Selection.{bits_of, letters_of}
use Rattle.escape_osc.specs.Text.{base64_of}

abbrev pub shown_letters : Letters → List ℕ
shown_letters l = letters_of (bits_of l.0)

abbrev pub shown_base64 : Base64 → List ℕ
shown_base64 b = base64_of b.0.now

abbrev pub shown_part : LossyPart → List ℕ
shown_part p = utf8_lossy p.0.now

abbrev pub shown_parts : LossyParts → List ℕ
shown_parts p = joined (map utf8_lossy (map (λ part. part.items) p.0.now))

-- U+FFFD in place of one or more ill-formed bytes, and nothing in place of none
abbrev pub replacement_of : List ℕ → List ℕ
replacement_of [] = []
replacement_of (b ∷ rest) = replacement_bytes
