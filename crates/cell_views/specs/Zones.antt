-- The zones of a row: neighbouring cells of one semantic type.
use Rattle.std.specs.Prelude.{ℕ, Bool, true, false, not, min, List, [], ◌∷◌, map, if◌then◌else◌}
use Rattle.std.specs.List.{list_all}
use Rattle.cell_base.specs.declared.attributes.SemanticType.{SemanticType}
use Rattle.cell_base.specs.declared.attributes.SemanticType.TheVariants.{Output, Input, Prompt}
use Rattle.cell_base.specs.declared.ranges.ZoneRange.{ZoneRange}
use Rattle.cell_base.specs.Attributes.{plain}
use Rattle.cell_base.specs.CellContent.{blank_cell}
use Rattle.cell_base.specs.SameCell.{same_cell}
use Rattle.cell_views.specs.Groups.{groups_by}
use Rattle.cell_base.specs.UpToLast.{up_to_last}
use Rattle.cell_edits.specs.VisibleCells.{VisibleCell, first_column, last_column}

abbrev pub same_type : SemanticType → SemanticType → Bool
same_type Output Output = true
same_type Input Input = true
same_type Prompt Prompt = true
same_type _ _ = false

-- a column as a zone has it: at most 65,535
abbrev pub zone_column : ℕ → ℕ
zone_column column = min column 65535

-- the type of the first cell
abbrev pub type_of : List VisibleCell → SemanticType
type_of [] = Output
type_of (v ∷ cells) = v.cell.attributes.semantic_type

-- whether a cell begins a new zone after the cells of the last one: it has another type
abbrev pub begins_zone : List VisibleCell → VisibleCell → Bool
begins_zone cells v = not (same_type (type_of cells) v.cell.attributes.semantic_type)

-- a zone reaches from its first cell's column to its last one's
abbrev pub zone_of : List VisibleCell → ZoneRange
zone_of cells =
    record {
      semantic_type = type_of cells;
      range = record { start = zone_column (first_column cells); «end» = zone_column (last_column cells) };
    }

-- a space of one column with plain attributes
abbrev pub is_plain_cell : VisibleCell → Bool
is_plain_cell v = same_cell v.cell (blank_cell plain)

-- the cells up to the last that isn't a plain blank, or all if there is none
abbrev pub zoned_cells : List VisibleCell → List VisibleCell
zoned_cells cells = if list_all is_plain_cell cells then cells else up_to_last (λ v. not (is_plain_cell v)) cells

-- their zones
abbrev pub zones : List VisibleCell → List ZoneRange
zones cells = map zone_of (groups_by begins_zone (zoned_cells cells))
