-- A row as C gets it: its cells, and beside them their texts and the URIs of their links, in two texts, of which each
-- cell names its parts.
use Rattle.std.specs.Prelude.{ℕ, Bool, false, List, [], ◌∷◌, ◌++◌, length, fold, Option, Some, None}
use Rattle.std.specs.Prelude.{if◌then◌else◌}
use Rattle.cell_base.specs.Attributes.{Attributes, plain}
use Rattle.cell_base.specs.ColorBytes.{channels_of, index_of, kind_byte, kind_of}
use Rattle.cell_base.specs.Link.{Link}
use Rattle.cell_base.specs.RenditionBytes.{align_byte, blink_byte, intensity_byte, semantic_byte, underline_byte}
use Rattle.cell_base.specs.SameAttributes.{same_attributes}
use Rattle.cell_base.specs.declared.color.ColorAttribute.{ColorAttribute}
use Rattle.cell_edits.specs.VisibleCells.{VisibleCell}
use Rattle.terminal_c.specs.declared.told.Cell.{Cell}
use Rattle.terminal_c.specs.declared.told.Color.{Color}
use Rattle.terminal_c.specs.declared.told.Face.{Face}
use Rattle.terminal_c.specs.declared.told.Style.{Style}

-- a color, by its kind, its index and its channels; those that its kind doesn't use are 0
abbrev pub color_told : ColorAttribute → Color
color_told color =
    record {
      kind = kind_byte (kind_of color);
      index = index_of color;
      red = (channels_of color).0;
      green = (channels_of color).1;
      blue = (channels_of color).2;
      alpha = (channels_of color).3;
    }

-- the attributes, without the link
abbrev pub style_told : Attributes → Style
style_told a =
    record {
      intensity = intensity_byte a.intensity;
      underline = underline_byte a.underline;
      blink = blink_byte a.blink;
      vertical_align = align_byte a.vertical_align;
      semantic_type = semantic_byte a.semantic_type;
      is_italic = a.italic;
      is_reverse = a.reverse;
      is_strikethrough = a.strikethrough;
      is_invisible = a.invisible;
      is_wrapped = a.wrapped;
      is_overline = a.overline;
      foreground = color_told a.foreground;
      background = color_told a.background;
      underline_color = color_told a.underline_color;
    }

-- the URI of a link; none where there is no link
abbrev pub uri_in : Option Link → List ℕ
uri_in None = []
uri_in (Some link) = link.uri

-- What is told of the cells so far: the cells, their texts, the URIs of their links, the attributes of the last one,
-- and what cells that have them share: the place of the URI, and the other attributes.
pub record Told : Type 0 where
  pub cells : List Cell
  pub text : List ℕ
  pub links : List ℕ
  pub last : Option Attributes
  pub face : Face

abbrev pub nothing_told : Told
nothing_told =
    record {
      cells = [];
      text = [];
      links = [];
      last = None;
      face = record { link_at = 0; link_len = 0; style = style_told plain };
    }

-- whether the last cell has these attributes
abbrev pub goes_on : Option Attributes → Attributes → Bool
goes_on None attributes = false
goes_on (Some last) attributes = same_attributes last attributes

-- cells of these attributes follow: the URI of their link is told, once for neighbors of the same attributes
abbrev pub with_face : Told → Attributes → Told
with_face t attributes =
    let uri = uri_in attributes.hyperlink in
    if goes_on t.last attributes then t
    else record t {
      links = t.links ++ uri;
      last = Some attributes;
      face = record { link_at = length t.links; link_len = length uri; style = style_told attributes };
    }

-- a cell follows that shares the face
abbrev pub with_text : Told → VisibleCell → Told
with_text t v =
    let cell : Cell =
    record {
      column = v.column;
      width = v.cell.width;
      text_at = length t.text;
      text_len = length v.cell.text;
      face = t.face;
    } in record t { cells = t.cells ++ cell ∷ []; text = t.text ++ v.cell.text }

-- a cell follows
abbrev pub with_cell : Told → VisibleCell → Told
with_cell t v = with_text (with_face t v.cell.attributes) v

-- what is told of all cells
abbrev pub told : List VisibleCell → Told
told cells = fold with_cell nothing_told cells
