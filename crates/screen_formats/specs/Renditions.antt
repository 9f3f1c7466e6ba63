-- How a cell looks, as words and as declarations of CSS.
use Rattle.std.specs.Prelude.{ℕ, ◌==◌, Bool, List, [], ◌∷◌, ◌++◌, codes, length, if◌then◌else◌}
use Rattle.cell_base.specs.Attributes.{Attributes}
use Rattle.cell_base.specs.declared.attributes.Intensity.{Intensity}
use Rattle.cell_base.specs.declared.attributes.Intensity.TheVariants.{Normal, Bold, Half}
use Rattle.cell_base.specs.declared.attributes.Underline.{Underline}
use Rattle.cell_base.specs.declared.attributes.Underline.TheVariants.{None as no_underline, Single, Double, Curly}
use Rattle.cell_base.specs.declared.attributes.Underline.TheVariants.{Dotted, Dashed}
use Rattle.cell_base.specs.declared.attributes.Blink.{Blink}
use Rattle.cell_base.specs.declared.attributes.Blink.TheVariants.{None as no_blink, Slow, Rapid}
use Rattle.cell_base.specs.declared.attributes.VerticalAlign.{VerticalAlign}
use Rattle.cell_base.specs.declared.attributes.VerticalAlign.TheVariants.{BaseLine, SuperScript, SubScript}
use Rattle.cell_base.specs.Style.{is_underlined}
use Rattle.screen_formats.specs.Colors.{color_of, hex_color, text_color, is_default}

abbrev pub Text : Type 0
Text = List ℕ

-- a text where a condition holds, and else the empty one
abbrev pub text_if : Bool → Text → Text
text_if holds text = if holds then text else []

-- a rendition: its word, with a space after it; its parameter of SGR (ECMA-48 8.3.117), after a `;`; and its
-- declaration of CSS
pub record Rendition : Type 0 where
  pub word : Text
  pub code : Text
  pub style : Text

abbrev pub plain_rendition : Rendition
plain_rendition = record { word = []; code = []; style = [] }

-- the rendition of an intensity
abbrev pub intensity_rendition : Intensity → Rendition
intensity_rendition Normal = plain_rendition
intensity_rendition Bold = record { word = codes "bold "; code = codes ";1"; style = codes "font-weight:bold;" }
intensity_rendition Half = record { word = codes "dim "; code = codes ";2"; style = [] }

-- the rendition of an underline
abbrev pub underline_rendition : Underline → Rendition
underline_rendition no_underline = plain_rendition
underline_rendition Single = record { word = codes "underline "; code = codes ";4"; style = [] }
underline_rendition Double =
    record { word = codes "double-underline "; code = codes ";21"; style = codes "text-decoration-style:double;" }
underline_rendition Curly =
    record { word = codes "curly-underline "; code = codes ";4:3"; style = codes "text-decoration-style:wavy;" }
underline_rendition Dotted =
    record { word = codes "dotted-underline "; code = codes ";4:4"; style = codes "text-decoration-style:dotted;" }
underline_rendition Dashed =
    record { word = codes "dashed-underline "; code = codes ";4:5"; style = codes "text-decoration-style:dashed;" }

-- the rendition of blinking
abbrev pub blink_rendition : Blink → Rendition
blink_rendition no_blink = plain_rendition
blink_rendition Slow = record { word = codes "blink "; code = codes ";5"; style = [] }
blink_rendition Rapid = record { word = codes "rapid-blink "; code = codes ";6"; style = [] }

-- the rendition of superscripts and subscripts
abbrev pub align_rendition : VerticalAlign → Rendition
align_rendition BaseLine = plain_rendition
align_rendition SuperScript = record { word = codes "superscript "; code = codes ";73"; style = [] }
align_rendition SubScript = record { word = codes "subscript "; code = codes ";74"; style = [] }

-- ---- the words of all renditions

abbrev pub rendition_words : Attributes → Text
rendition_words a =
    (intensity_rendition a.intensity).word
    ++ (text_if a.italic (codes "italic ")
    ++ ((underline_rendition a.underline).word
    ++ (text_if a.overline (codes "overline ")
    ++ (text_if a.strikethrough (codes "strikethrough ")
    ++ ((blink_rendition a.blink).word
    ++ (text_if a.reverse (codes "reverse ")
    ++ (text_if a.invisible (codes "invisible ")
    ++ (align_rendition a.vertical_align).word)))))))

-- ---- declarations of CSS

-- the value of `text-decoration`: the lines under, above and through a text
abbrev pub lines_style : Attributes → Text
lines_style a =
    text_if (is_underlined a.underline) (codes "underline ") ++ text_if a.overline (codes "overline ")
    ++ text_if a.strikethrough (codes "line-through ")

-- a declaration whose value is a colour
abbrev pub color_style : Text → Text → Text
color_style name color = name ++ 58 ∷ color ++ 59 ∷ []

abbrev pub lines_declared : Text → Text
lines_declared lines = if length lines == 0 then [] else codes "text-decoration:" ++ lines ++ 59 ∷ []

abbrev pub underline_color_style : Attributes → Text
underline_color_style a =
    if is_default a.underline_color then []
    else color_style (codes "text-decoration-color") (hex_color (color_of (text_color a) a.underline_color))

-- the renditions of attributes as declarations, without the foreground and the background
abbrev pub rendition_style : Attributes → Text
rendition_style a =
    (intensity_rendition a.intensity).style
    ++ (text_if a.italic (codes "font-style:italic;")
    ++ (lines_declared (lines_style a)
    ++ ((underline_rendition a.underline).style
    ++ underline_color_style a)))
