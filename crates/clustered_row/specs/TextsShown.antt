-- What the texts of a row show, and what they have room for.
use Rattle.std.specs.Prelude.{ℕ, ◌+◌, ◌-◌, ◌≤◌, List, length}
use Rattle.clustered_row.specs.declared.cell_size.CellSize.{CellSize}
use Rattle.clustered_row.specs.declared.texts.Texts.{Texts}
use Rattle.clustered_row.specs.Faces.{Face}
use Rattle.clustered_row.specs.CutTexts.{bytes_left, sizes_left}
use Rattle.clustered_row.specs.Sizes.{faces_of}

-- the text of all cells, and the sizes of the first ones
abbrev pub text_of : Texts → List ℕ
text_of texts = texts.cut.text.items

abbrev pub sizes_of : Texts → List CellSize
sizes_of texts = texts.cut.sizes.items

-- the faces of all columns
abbrev pub faces : Texts → List Face
faces texts = faces_of (text_of texts) (sizes_of texts)

-- how many more bytes and sizes fit in their memory
abbrev pub room : Texts → ℕ
room texts = bytes_left texts.cut

abbrev pub room_sizes : Texts → ℕ
room_sizes texts = sizes_left texts.cut

-- the column from which on each cell is a plain one whose size isn't kept
abbrev pub plain_from : Texts → ℕ
plain_from texts = texts.cut.sized_columns

-- room for other cells before a column, and for what may be set around them: for three bytes and three sizes more than
-- are given, and for the size of each column before it that isn't kept
abbrev pub HasRoomFor : Texts → ℕ → List ℕ → List CellSize → Type 0
HasRoomFor texts to text sizes =
    (length text + 3 ≤ room texts) × ((to - plain_from texts) + (length sizes + 3) ≤ room_sizes texts)

-- room for other cells after all, and for the size of each column that isn't kept
abbrev pub HasRoomAfter : Texts → List ℕ → List CellSize → Type 0
HasRoomAfter texts text sizes =
    (length text ≤ room texts) × ((length (faces texts) - plain_from texts) + length sizes ≤ room_sizes texts)
