-- Zones that are being made, cell by cell.
use Rattle.std.specs.Prelude.{ℕ, Bool, true, nat_le, List, [], ◌∷◌, Option, Some, None, fold, if◌then◌else◌}
use Rattle.cell_base.specs.Attributes.{plain}
use Rattle.cell_base.specs.CellContent.{blank_cell}
use Rattle.cell_base.specs.SameCell.{same_cell}
use Rattle.cell_base.specs.declared.ranges.ZoneRange.{ZoneRange}
use Rattle.cell_edits.specs.VisibleCells.{VisibleCell}
use Rattle.cell_views.specs.Zones.{same_type, zone_column}

abbrev pub zone_from : VisibleCell → ZoneRange
zone_from v =
    record {
      semantic_type = v.cell.attributes.semantic_type;
      range = record { start = zone_column v.column; «end» = zone_column v.column };
    }

-- a cell joins the last zone if it has its type, and begins a zone of its own if not
abbrev pub joined_zone : List ZoneRange → VisibleCell → List ZoneRange
joined_zone [] v = zone_from v ∷ []
joined_zone (z ∷ []) v =
    if same_type z.semantic_type v.cell.attributes.semantic_type
    then record z { range = record z.range { «end» = zone_column v.column } } ∷ [] else z ∷ zone_from v ∷ []
joined_zone (z ∷ y ∷ zs) v = z ∷ joined_zone (y ∷ zs) v

-- the column of the last cell that isn't a plain blank
abbrev pub last_kept : List VisibleCell → Option ℕ
last_kept cells = fold (λ last v. if same_cell v.cell (blank_cell plain) then last else Some v.column) None cells

-- whether a column is kept: it is not after `last`; with `None` each column is kept
abbrev pub is_kept_by : Option ℕ → ℕ → Bool
is_kept_by None column = true
is_kept_by (Some last) column = nat_le column last
