-- What a clustered row shows.
use Rattle.std.specs.Prelude.{◌-◌, ◌≤◌, ◌++◌, length, replicate}
use Rattle.cell_base.specs.Row.{Row, blank}
use Rattle.clustered_row.specs.declared.row.ClusteredRow.TheInside.{Inside}

-- the columns that were written, and after them blanks that all have the attributes `rest`
abbrev pub row_shown : Inside → Row
row_shown r = r.columns ++ replicate (r.width - length r.columns) (blank r.rest)

abbrev pub IsWithin : Inside → Type 0
IsWithin r = length r.columns ≤ r.width
