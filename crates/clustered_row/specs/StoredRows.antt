-- How a row is kept.
use Rattle.std.specs.Prelude.{◌≡◌, ◌++◌, true, false, length, replicate}
use Rattle.cell_base.specs.Row.{Row, blank}
use Rattle.clustered_row.specs.declared.stored.StoredRow.{StoredRow}
use Rattle.clustered_row.specs.Faces.{row_of}
use Rattle.clustered_row.specs.Runs.{spread, AreMaximal}
use Rattle.clustered_row.specs.Sizes.{faces_of, is_cut, ends_plain}

-- one text that is cut into cells by their sizes, runs of attributes for their columns, and after these blanks that all
-- have the attributes `rest`
pub record IsStored (stored : StoredRow) (row : Row) : Type 0 where
  -- the row shows these
  pub shows : row
      ≡ row_of (faces_of stored.text.now stored.sizes.now) (spread stored.runs.now)
      ++ replicate stored.blanks (blank stored.rest.now)
  -- each cell has its text, and each column its attributes
  pub cut : is_cut stored.text.now stored.sizes.now ≡ true
  pub even : length (spread stored.runs.now) ≡ length (faces_of stored.text.now stored.sizes.now)
  -- no size is kept of plain cells at the end, so none where every cell is plain
  pub trimmed : ends_plain stored.sizes.now ≡ false
  -- no run is empty, and neighbours differ, unless the first one counts as many columns as it can
  pub maximal : AreMaximal stored.runs.now
