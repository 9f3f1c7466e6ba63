-- Attributes, pens and clears as actions (SGR: ECMA-48 8.3.117; links: OSC 8).
use Rattle.std.specs.Prelude.{Bool, true, false, not, ◌||◌, List, [], ◌∷◌, ◌++◌, Option, Some, None, option_map}
use Rattle.std.specs.Prelude.{option_and_then, if◌then◌else◌}
use Rattle.std.specs.List.{flat_map}
use Rattle.cell_base.specs.declared.attributes.Intensity.{Intensity}
use Rattle.cell_base.specs.declared.attributes.Intensity.TheVariants as intensity
use Rattle.cell_base.specs.declared.attributes.Underline.{Underline}
use Rattle.cell_base.specs.declared.attributes.Underline.TheVariants as underline
use Rattle.cell_base.specs.declared.attributes.Blink.{Blink}
use Rattle.cell_base.specs.declared.attributes.Blink.TheVariants as blink
use Rattle.cell_base.specs.declared.attributes.SemanticType.{SemanticType}
use Rattle.cell_base.specs.declared.attributes.SemanticType.TheVariants.{Output}
use Rattle.cell_base.specs.declared.attributes.VerticalAlign.{VerticalAlign}
use Rattle.cell_base.specs.declared.attributes.VerticalAlign.TheVariants as align
use Rattle.cell_base.specs.declared.color.ColorAttribute.{ColorAttribute}
use Rattle.cell_base.specs.declared.color.ColorAttribute.TheVariants as attribute
use Rattle.cell_base.specs.declared.color.ColorSpec.{ColorSpec}
use Rattle.cell_base.specs.declared.color.ColorSpec.TheVariants as spec
use Rattle.cell_base.specs.Attributes.{Attributes}
use Rattle.cell_base.specs.AttributeValue as change
use Rattle.cell_base.specs.AttributeValue.{AttributeValue}
use Rattle.cell_base.specs.Link.{Link}
use Rattle.csi_codec.specs.Actions as codec
use Rattle.csi_codec.specs.declared.rendition.Sgr.{Sgr}
use Rattle.csi_codec.specs.declared.rendition.Sgr.TheVariants as sgr
use Rattle.escape_osc.specs.Command.{set_hyperlink}
use Rattle.escape_stream.specs.StreamAction.{StreamAction, command, csi}
use Rattle.terminal_render.specs.Links.{is_carried}

-- ---- one attribute

-- a colour as SGR sets it; a true colour with a palette fallback can't be encoded
abbrev pub colour_setting : ColorAttribute → Option ColorSpec
colour_setting (attribute.TrueColorWithPaletteFallback color index) = None
colour_setting (attribute.TrueColorWithDefaultFallback color) = Some (spec.TrueColor color)
colour_setting (attribute.PaletteIndex index) = Some (spec.PaletteIndex index)
colour_setting attribute.Default = Some spec.Default

abbrev pub rendition : Sgr → StreamAction
rendition value = csi (codec.sgr value)

abbrev pub link_action : Option Link → StreamAction
link_action link = command (set_hyperlink link)

abbrev pub linked : Option Link → Option StreamAction
linked link = if is_carried link then Some (link_action link) else None

-- the SGR of one attribute other than the link
abbrev pub attribute_setting : AttributeValue → Option Sgr
attribute_setting (change.Intensity value) = Some (sgr.Intensity value)
attribute_setting (change.Underline value) = Some (sgr.Underline value)
attribute_setting (change.Italic value) = Some (sgr.Italic value)
attribute_setting (change.Blink value) = Some (sgr.Blink value)
attribute_setting (change.Reverse value) = Some (sgr.Inverse value)
attribute_setting (change.StrikeThrough value) = Some (sgr.StrikeThrough value)
attribute_setting (change.Invisible value) = Some (sgr.Invisible value)
attribute_setting (change.Foreground color) = option_map sgr.Foreground (colour_setting color)
attribute_setting (change.Background color) = option_map sgr.Background (colour_setting color)
attribute_setting (change.Hyperlink link) = None

-- the action of one attribute: SGR, or OSC 8 for the link
unfoldable pub attribute_action : AttributeValue → Option StreamAction
attribute_action (change.Hyperlink link) = linked link
attribute_action value = option_map rendition (attribute_setting value)

-- ---- all attributes: what isn't plain is set after a reset

abbrev pub unless_normal : Intensity → Option Sgr
unless_normal intensity.Normal = None
unless_normal value = Some (sgr.Intensity value)

abbrev pub unless_none : Underline → Option Sgr
unless_none underline.None = None
unless_none value = Some (sgr.Underline value)

abbrev pub unless_steady : Blink → Option Sgr
unless_steady blink.None = None
unless_steady value = Some (sgr.Blink value)

abbrev pub unless_off : (Bool → Sgr) → Bool → Option Sgr
unless_off setting on = if on then Some (setting true) else None

abbrev pub unless_base_line : VerticalAlign → Option Sgr
unless_base_line align.BaseLine = None
unless_base_line value = Some (sgr.VerticalAlign value)

abbrev pub unless_default : (ColorSpec → Sgr) → ColorSpec → Option Sgr
unless_default setting spec.Default = None
unless_default setting color = Some (setting color)

-- the settings of attributes with a foreground, a background and an underline colour: `None` where one is plain
abbrev pub settings : Attributes → ColorSpec → ColorSpec → ColorSpec → List (Option Sgr)
settings a foreground background underline =
    unless_normal a.intensity ∷ unless_none a.underline ∷ unless_steady a.blink ∷ unless_off sgr.Italic a.italic
    ∷ unless_off sgr.Inverse a.reverse ∷ unless_off sgr.StrikeThrough a.strikethrough
    ∷ unless_off sgr.Invisible a.invisible
    ∷ unless_off sgr.Overline a.overline ∷ unless_base_line a.vertical_align ∷ unless_default sgr.Foreground foreground
    ∷ unless_default sgr.Background background ∷ unless_default sgr.UnderlineColor underline ∷ []

-- the SGR of a setting, if there is one
abbrev pub set : Option Sgr → List StreamAction
set None = []
set (Some value) = rendition value ∷ []

-- a reset, the settings, and the link or its end
abbrev pub pen_actions : List (Option Sgr) → Option Link → List StreamAction
pen_actions values link = rendition sgr.Reset ∷ (flat_map set values ++ link_action link ∷ [])

abbrev pub is_output : SemanticType → Bool
is_output Output = true
is_output _ = false

-- whether attributes have a value that no action sets: a row that wraps into the next, a semantic type other than
-- output, or a link that OSC 8 doesn't carry
abbrev pub lacks_encoding : Attributes → Bool
lacks_encoding a = a.wrapped || not (is_output a.semantic_type) || not (is_carried a.hyperlink)

-- the settings with the colours of the attributes, if each can be encoded
abbrev pub pen_settings : Attributes → Option (List (Option Sgr))
pen_settings a =
    option_and_then
    (λ foreground. option_and_then
    (λ background. option_map (λ line. settings a foreground background line) (colour_setting a.underline_color))
    (colour_setting a.background)) (colour_setting a.foreground)

unfoldable pub pen_rendering : Attributes → Option (List StreamAction)
pen_rendering a =
    if lacks_encoding a then None else option_map (λ values. pen_actions values a.hyperlink) (pen_settings a)

-- ---- clears: ED and EL leave blanks of the pen's background, so a plain pen with that background is set first

abbrev pub plain_pen : ColorSpec → List StreamAction
plain_pen color = rendition sgr.Reset ∷ link_action None ∷ set (unless_default sgr.Background color)

unfoldable pub clear_rendering : ColorAttribute → List StreamAction → Option (List StreamAction)
clear_rendering color erasure = option_map (λ c. plain_pen c ++ erasure) (colour_setting color)
