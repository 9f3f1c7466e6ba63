-- Faces: what columns show without their attributes.
use Rattle.std.specs.Prelude.{ℕ, ◌+◌, ◌-◌, Bool, true, false, List, [], ◌∷◌, ◌++◌, length, take, drop, map, replicate}
use Rattle.cell_base.specs.Attributes.{Attributes}
use Rattle.cell_base.specs.Row.{Column, Narrow, LeftHalf, RightHalf, Row, space}

-- A text of its own, or the left or the right half of a wide text, which the left half holds.
pub data Face : Type 0 where
  Own : List ℕ → Face
  Left : List ℕ → Face
  Right : Face

-- the column that shows a face with these attributes
abbrev pub column : Face → Attributes → Column
column (Own text) attributes = Narrow text attributes
column (Left text) attributes = LeftHalf text attributes
column Right attributes = RightHalf attributes

-- the row of columns with these faces
abbrev pub row_of : List Face → List Attributes → Row
row_of [] attributes = []
row_of (face ∷ faces) [] = []
row_of (face ∷ faces) (first ∷ attributes) = column face first ∷ row_of faces attributes

-- the faces of a cell's text: two where it is wide
abbrev pub cell_faces : Bool → List ℕ → List Face
cell_faces true text = Left text ∷ Right ∷ []
cell_faces false text = Own text ∷ []

-- the first face of a text
abbrev pub first_face : Bool → List ℕ → Face
first_face true text = Left text
first_face false text = Own text

-- a face for each byte
abbrev pub plain_faces : List ℕ → List Face
plain_faces bytes = map (λ byte. Own (byte ∷ [])) bytes

-- a half that is left alone becomes a space
abbrev pub left_alone : Face → Face
left_alone (Left text) = Own space
left_alone (Own text) = Own text
left_alone Right = Right

abbrev pub right_alone : Face → Face
right_alone Right = Own space
right_alone (Own text) = Own text
right_alone (Left text) = Left text

-- faces that were cut off from the faces after them, and from the faces before them
abbrev pub closed_end : List Face → List Face
closed_end [] = []
closed_end (face ∷ []) = left_alone face ∷ []
closed_end (face ∷ next ∷ faces) = face ∷ closed_end (next ∷ faces)

abbrev pub closed_start : List Face → List Face
closed_start [] = []
closed_start (face ∷ faces) = right_alone face ∷ faces

-- a wide text on both sides of a column becomes two spaces
abbrev pub opened : ℕ → List Face → List Face
opened at faces = closed_end (take at faces) ++ closed_start (drop at faces)

-- spaces are added where columns are missing
abbrev pub padded : ℕ → List Face → List Face
padded columns faces = faces ++ replicate (columns - length faces) (Own space)

-- the faces with `added` set from a column on; halves left alone on either side become spaces
abbrev pub set_faces : List Face → ℕ → List Face → List Face
set_faces faces at added =
    closed_end (take at faces) ++ added ++ closed_start (drop (at + length added) faces)

-- whether the first face is the right half of a wide text
abbrev pub starts_right : List Face → Bool
starts_right [] = false
starts_right (Own text ∷ faces) = false
starts_right (Left text ∷ faces) = false
starts_right (Right ∷ faces) = true
