-- What the written columns of a row show.
use Rattle.std.specs.Prelude.{◌≡◌, length}
use Rattle.cell_base.specs.Row.{Row}
use Rattle.cell_base.specs.WholeRow.{IsWhole}
use Rattle.clustered_row.specs.declared.columns.Columns.TheInside.{Inside}
use Rattle.clustered_row.specs.Faces.{row_of}
use Rattle.clustered_row.specs.TextsShown.{faces}

abbrev pub columns_shown : Inside → Row
columns_shown c = row_of (faces c.texts) c.runs

-- each face has its attributes, and both halves of a wide text have the same
pub record AreColumns (c : Inside) : Type 0 where
  pub even : length c.runs ≡ length (faces c.texts)
  pub whole : IsWhole (row_of (faces c.texts) c.runs)
