-- A text with the sizes of its first cells; after these each byte is a plain cell.
use Rattle.std.specs.Prelude.{◌≡◌, ℕ, ◌+◌, Bool, true, false, ◌&&◌, not, ◌==◌, List, [], ◌∷◌, ◌++◌, take, drop}
use Rattle.std.specs.Prelude.{if◌then◌else◌, length}
use Rattle.std.specs.List.{list_all}
use Rattle.std.specs.Str.{is_utf8}
use Rattle.text_clusters.specs.Plain.{is_printable}
use Rattle.cell_base.specs.CellContent.{shows_as_space}
use Rattle.clustered_row.specs.declared.cell_size.CellSize.{CellSize}
use Rattle.clustered_row.specs.Faces.{Face, cell_faces, plain_faces}

-- how many columns a cell takes
abbrev pub width_of : Bool → ℕ
width_of true = 2
width_of false = 1

-- how many bytes cells have, and how many columns they take
abbrev pub bytes_of : List CellSize → ℕ
bytes_of [] = 0
bytes_of (size ∷ sizes) = size.len + bytes_of sizes

abbrev pub columns_of : List CellSize → ℕ
columns_of [] = 0
columns_of (size ∷ sizes) = width_of size.is_wide + columns_of sizes

-- the size of a plain cell: one byte in one column
abbrev pub is_plain : CellSize → Bool
is_plain size = not size.is_wide && size.len == 1

-- whether the last size is that of a plain cell
abbrev pub ends_plain : List CellSize → Bool
ends_plain [] = false
ends_plain (size ∷ []) = is_plain size
ends_plain (size ∷ next ∷ sizes) = ends_plain (next ∷ sizes)

-- the faces of a text: the faces of cells with these sizes, and then one for each byte
abbrev pub faces_of : List ℕ → List CellSize → List Face
faces_of text [] = plain_faces text
faces_of text (size ∷ sizes) = cell_faces size.is_wide (take size.len text) ++ faces_of (drop size.len text) sizes

-- a cell's text is UTF-8 that a cell holds unchanged; where it has the size of a plain cell it is printable ASCII
abbrev pub is_text : CellSize → List ℕ → Bool
is_text size text = if is_plain size then list_all is_printable text else is_utf8 text && not (shows_as_space text)

-- the text can be cut so: each cell's part is a text of its size (`is_text`), and the rest is printable ASCII
abbrev pub is_cut : List ℕ → List CellSize → Bool
is_cut text [] = list_all is_printable text
is_cut text (size ∷ sizes) = is_text size (take size.len text) && is_cut (drop size.len text) sizes

-- the sizes are of all cells of a text
pub record AreSizes (text : List ℕ) (sizes : List CellSize) : Type 0 where
  pub parts : is_cut text sizes ≡ true
  pub bytes : bytes_of sizes ≡ length text
