-- The attributes of a cell as a value.
use Rattle.std.specs.Prelude.{Bool, false, Option, None}
use Rattle.cell_base.specs.Link.{Link}
use Rattle.cell_base.specs.declared.attributes.Intensity.{Intensity}
use Rattle.cell_base.specs.declared.attributes.Intensity.TheVariants.{Normal}
use Rattle.cell_base.specs.declared.attributes.Underline.{Underline}
use Rattle.cell_base.specs.declared.attributes.Underline.TheVariants.{None as no_underline}
use Rattle.cell_base.specs.declared.attributes.Blink.{Blink}
use Rattle.cell_base.specs.declared.attributes.Blink.TheVariants.{None as no_blink}
use Rattle.cell_base.specs.declared.attributes.SemanticType.{SemanticType}
use Rattle.cell_base.specs.declared.attributes.SemanticType.TheVariants.{Output}
use Rattle.cell_base.specs.declared.attributes.VerticalAlign.{VerticalAlign}
use Rattle.cell_base.specs.declared.attributes.VerticalAlign.TheVariants.{BaseLine}
use Rattle.cell_base.specs.declared.color.ColorAttribute.{ColorAttribute}
use Rattle.cell_base.specs.declared.color.ColorAttribute.TheVariants.{Default}

pub record Attributes : Type 0 where
  pub intensity : Intensity
  pub underline : Underline
  pub blink : Blink
  pub italic : Bool
  pub reverse : Bool
  pub strikethrough : Bool
  pub invisible : Bool
  pub wrapped : Bool
  pub overline : Bool
  pub semantic_type : SemanticType
  pub vertical_align : VerticalAlign
  pub foreground : ColorAttribute
  pub background : ColorAttribute
  pub underline_color : ColorAttribute
  pub hyperlink : Option Link

-- the attributes of a cell for which none was set
abbrev pub plain : Attributes
plain =
    record {
      intensity = Normal;
      underline = no_underline;
      blink = no_blink;
      italic = false;
      reverse = false;
      strikethrough = false;
      invisible = false;
      wrapped = false;
      overline = false;
      semantic_type = Output;
      vertical_align = BaseLine;
      foreground = Default;
      background = Default;
      underline_color = Default;
      hyperlink = None;
    }

-- plain attributes with a background colour
abbrev pub blank_of : ColorAttribute → Attributes
blank_of color = record plain { background = color }

-- the attributes less underlining, overline, strikethrough, semantic type and link
abbrev pub sgr_only : Attributes → Attributes
sgr_only a =
    record a
    { semantic_type = Output; underline = no_underline; overline = false; strikethrough = false; hyperlink = None }

-- the attributes less colours and link
abbrev pub style_of : Attributes → Attributes
style_of a = record a { foreground = Default; background = Default; underline_color = Default; hyperlink = None }
