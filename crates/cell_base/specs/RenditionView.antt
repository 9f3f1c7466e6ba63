-- The attributes that a `Rendition` holds: all except the link.
use Rattle.std.specs.Prelude.{None}
use Rattle.cell_base.specs.Attributes.{Attributes}
use Rattle.cell_base.specs.ColorBytes.{color_with}
use Rattle.cell_base.specs.declared.color.ColorAttribute.{ColorAttribute}
use Rattle.cell_base.specs.declared.stored_color.StoredColor.{StoredColor}
use Rattle.cell_base.specs.declared.rendition.Rendition.{Rendition}

abbrev pub color_of : StoredColor → ColorAttribute
color_of stored = color_with stored.kind stored.channels stored.index

-- the fields, with no link
abbrev pub attributes_without_link : Rendition → Attributes
attributes_without_link rendition = record {
  intensity = rendition.style.marks.intensity;
  underline = rendition.style.marks.underline;
  blink = rendition.style.marks.blink;
  italic = rendition.style.flags.italic;
  reverse = rendition.style.flags.reverse;
  strikethrough = rendition.style.flags.strikethrough;
  invisible = rendition.style.flags.invisible;
  wrapped = rendition.style.flags.wrapped;
  overline = rendition.style.flags.overline;
  semantic_type = rendition.style.semantic_type;
  vertical_align = rendition.style.vertical_align;
  foreground = color_of rendition.foreground;
  background = color_of rendition.background;
  underline_color = color_of rendition.underline_color;
  hyperlink = None;
}
