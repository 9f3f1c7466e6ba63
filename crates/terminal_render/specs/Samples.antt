-- The bytes that encode a change, for worked examples.
use Rattle.std.specs.Prelude.{ℕ, List, [], ◌∷◌, ◌++◌, false, Option, option_map}
use Rattle.cell_base.specs.Link.{Link}
use Rattle.screen_change.specs.ChangeValue.{ChangeValue}
use Rattle.escape_stream.specs.StreamText.{stream_text}
use Rattle.terminal_render.specs.Rendering.{rendering}

-- the bytes that encode a change for a terminal of a width and a height
abbrev pub bytes_for : ℕ → ℕ → ChangeValue → Option (List ℕ)
bytes_for width height change = option_map stream_text (rendering change width height)

-- bytes after ESC [, and between ESC ] and ESC \
abbrev pub csi : List ℕ → List ℕ
csi bytes = 27 ∷ 91 ∷ bytes

abbrev pub osc : List ℕ → List ℕ
osc bytes = 27 ∷ 93 ∷ bytes ++ 27 ∷ 92 ∷ []

-- the bytes of a plain pen: SGR 0, and OSC 8 that ends a link
abbrev pub plain_pen : List ℕ
plain_pen = 27 ∷ 91 ∷ 48 ∷ 109 ∷ 27 ∷ 93 ∷ 56 ∷ 59 ∷ 59 ∷ 27 ∷ 92 ∷ []

abbrev pub link_to : List ℕ → Link
link_to uri = record { params = []; uri = uri; implicit = false }
