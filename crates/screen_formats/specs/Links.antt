-- The links that are written.
use Rattle.std.specs.Prelude.{ℕ, nat_eq, Bool, ◌||◌, List, [], codes, Option, Some, None, if◌then◌else◌}
use Rattle.std.specs.List.{starts_with}
use Rattle.cell_base.specs.Attributes.{Attributes}
use Rattle.cell_base.specs.Link.{Link}

-- the URI has one of the schemes http, https, mailto and file, so that it names no script
abbrev pub has_scheme : List ℕ → Bool
has_scheme uri =
    starts_with nat_eq uri (codes "http:") || starts_with nat_eq uri (codes "https:")
    || (starts_with nat_eq uri (codes "mailto:") || starts_with nat_eq uri (codes "file:"))

-- the URI of a link, or none where its scheme is another one
abbrev pub written_uri : Option Link → List ℕ
written_uri None = []
written_uri (Some link) = if has_scheme link.uri then link.uri else []

abbrev pub link_uri : Attributes → List ℕ
link_uri a = written_uri a.hyperlink
