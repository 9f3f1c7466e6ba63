-- Texts of cells that an iteration has left.
use Rattle.std.specs.Prelude.{List}
use Rattle.clustered_row.specs.declared.texts_left.TextsLeft.{TextsLeft}
use Rattle.clustered_row.specs.Faces.{Face}
use Rattle.clustered_row.specs.Sizes.{faces_of}

-- the faces of the remaining cells
abbrev pub faces_left : TextsLeft → List Face
faces_left left = faces_of left.text.now left.sizes.now
