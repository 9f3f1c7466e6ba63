-- What a text that is cut shows, and what it has room for.
use Rattle.std.specs.Prelude.{ℕ, ◌-◌, List}
use Rattle.std.specs.Vec.{vec_len, vec_capacity}
use Rattle.clustered_row.specs.declared.cut_text.CutText.{CutText}
use Rattle.clustered_row.specs.Faces.{Face}
use Rattle.clustered_row.specs.Sizes.{faces_of}

abbrev pub shown : CutText → List Face
shown cut = faces_of cut.text.items cut.sizes.items

-- how many more bytes and sizes fit in its memory
abbrev pub bytes_left : CutText → ℕ
bytes_left cut = vec_capacity cut.text - vec_len cut.text

abbrev pub sizes_left : CutText → ℕ
sizes_left cut = vec_capacity cut.sizes - vec_len cut.sizes
