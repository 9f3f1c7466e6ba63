-- The link that a `Hyperlink` holds.
use Rattle.std.specs.String.{string_bytes}
use Rattle.cell_base.specs.Link.{Link, texts_of}
use Rattle.cell_base.specs.declared.hyperlink.Hyperlink.TheInside.{Inside}

-- the texts of the fields
abbrev pub link_of : Inside → Link
link_of a = record { params = texts_of a.params.entries; uri = string_bytes a.uri; implicit = a.implicit }
