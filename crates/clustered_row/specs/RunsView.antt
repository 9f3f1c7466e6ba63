-- The columns that runs show, and what holds of the runs.
use Rattle.std.specs.Prelude.{◌≡◌, List, length}
use Rattle.cell_base.specs.Attributes.{Attributes}
use Rattle.clustered_row.specs.declared.runs.Runs.TheInside.{Inside}
use Rattle.clustered_row.specs.Runs.{spread, AreMaximal}

-- the attributes of each column
abbrev pub columns_shown : Inside → List Attributes
columns_shown a = spread a.runs.items

-- the columns are counted, and the runs are as long as they can be
pub record AreRuns (a : Inside) : Type 0 where
  pub counted : a.columns ≡ length (spread a.runs.items)
  pub maximal : AreMaximal a.runs.items
