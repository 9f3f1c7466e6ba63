-- The attributes that a `CellAttributes` holds.
use Rattle.std.specs.Option.{option_map}
use Rattle.cell_base.specs.Attributes.{Attributes}
use Rattle.cell_base.specs.RenditionView.{attributes_without_link}
use Rattle.cell_base.specs.declared.cell_attributes.CellAttributes.TheInside.{Inside}

-- the fields, and the link that the pointer points to
abbrev pub attributes_of : Inside → Attributes
attributes_of a = record (attributes_without_link a.rendition) { hyperlink = option_map (λ r. r.value) a.hyperlink }
