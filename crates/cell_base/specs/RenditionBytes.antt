-- The bytes of attributes less the link: they are equal exactly where the attributes are equal.
use Rattle.std.specs.Prelude.{ℕ, Bool, List, [], ◌∷◌, if◌then◌else◌}
use Rattle.cell_base.specs.Attributes.{Attributes}
use Rattle.cell_base.specs.ColorBytes.{kind_byte, kind_of, channels_of, index_of}
use Rattle.cell_base.specs.declared.color.ColorAttribute.{ColorAttribute}
use Rattle.cell_base.specs.declared.attributes.Intensity.{Intensity}
use Rattle.cell_base.specs.declared.attributes.Intensity.TheVariants.{Normal, Bold, Half}
use Rattle.cell_base.specs.declared.attributes.Underline.{Underline}
use Rattle.cell_base.specs.declared.attributes.Underline.TheVariants.{None as no_underline, Single, Double, Curly}
use Rattle.cell_base.specs.declared.attributes.Underline.TheVariants.{Dotted, Dashed}
use Rattle.cell_base.specs.declared.attributes.Blink.{Blink}
use Rattle.cell_base.specs.declared.attributes.Blink.TheVariants.{None as no_blink, Slow, Rapid}
use Rattle.cell_base.specs.declared.attributes.SemanticType.{SemanticType}
use Rattle.cell_base.specs.declared.attributes.SemanticType.TheVariants.{Output, Input, Prompt}
use Rattle.cell_base.specs.declared.attributes.VerticalAlign.{VerticalAlign}
use Rattle.cell_base.specs.declared.attributes.VerticalAlign.TheVariants.{BaseLine, SuperScript, SubScript}

abbrev pub intensity_byte : Intensity → ℕ
intensity_byte Normal = 0
intensity_byte Bold = 1
intensity_byte Half = 2

abbrev pub underline_byte : Underline → ℕ
underline_byte no_underline = 0
underline_byte Single = 1
underline_byte Double = 2
underline_byte Curly = 3
underline_byte Dotted = 4
underline_byte Dashed = 5

abbrev pub blink_byte : Blink → ℕ
blink_byte no_blink = 0
blink_byte Slow = 1
blink_byte Rapid = 2

abbrev pub semantic_byte : SemanticType → ℕ
semantic_byte Output = 0
semantic_byte Input = 1
semantic_byte Prompt = 2

abbrev pub align_byte : VerticalAlign → ℕ
align_byte BaseLine = 0
align_byte SuperScript = 1
align_byte SubScript = 2

abbrev pub flag_byte : Bool → ℕ
flag_byte flag = if flag then 1 else 0

-- the bytes of a colour, followed by `rest`
abbrev pub color_bytes : ColorAttribute → List ℕ → List ℕ
color_bytes color rest =
    let channels = channels_of color in
    kind_byte (kind_of color) ∷ channels.0 ∷ channels.1 ∷ channels.2 ∷ channels.3 ∷ index_of color ∷ rest

-- the bytes of the flags, followed by `rest`
abbrev pub flag_bytes : Attributes → List ℕ → List ℕ
flag_bytes a rest =
    flag_byte a.italic ∷ flag_byte a.reverse ∷ flag_byte a.strikethrough ∷ flag_byte a.invisible ∷ flag_byte a.wrapped
    ∷ flag_byte a.overline ∷ rest

-- the bytes that pad the attributes to 32 bytes
abbrev pub padding : List ℕ
padding = 0 ∷ 0 ∷ 0 ∷ []

-- the bytes of the three colours, and the padding
abbrev pub three_colors : Attributes → List ℕ
three_colors a = color_bytes a.foreground (color_bytes a.background (color_bytes a.underline_color padding))

abbrev pub rendition_bytes : Attributes → List ℕ
rendition_bytes a =
    intensity_byte a.intensity ∷ underline_byte a.underline ∷ blink_byte a.blink
    ∷ flag_bytes a (semantic_byte a.semantic_type ∷ align_byte a.vertical_align ∷ three_colors a)
