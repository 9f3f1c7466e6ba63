-- Colours: their palette indices, and conversions between their forms.
use Rattle.std.specs.Prelude.{ℕ}
use Rattle.cell_base.specs.declared.color.AnsiColor.{AnsiColor}
use Rattle.cell_base.specs.declared.color.AnsiColor.TheVariants.{Black, Maroon, Green, Olive, Navy, Purple, Teal}
use Rattle.cell_base.specs.declared.color.AnsiColor.TheVariants.{Silver, Grey, Red, Lime, Yellow, Blue, Fuchsia, Aqua}
use Rattle.cell_base.specs.declared.color.AnsiColor.TheVariants.{White}
use Rattle.cell_base.specs.declared.color.RgbColor.{RgbColor}
use Rattle.cell_base.specs.declared.color.SrgbaTuple.{SrgbaTuple}
use Rattle.cell_base.specs.declared.color.ColorSpec.{ColorSpec}
use Rattle.cell_base.specs.declared.color.ColorSpec.TheVariants.{Default, PaletteIndex, TrueColor}
use Rattle.cell_base.specs.declared.color.ColorAttribute.{ColorAttribute}
use Rattle.cell_base.specs.declared.color.ColorAttribute.TheVariants.{TrueColorWithDefaultFallback}
use Rattle.cell_base.specs.declared.color.ColorAttribute.TheVariants.{PaletteIndex as palette_attribute}
use Rattle.cell_base.specs.declared.color.ColorAttribute.TheVariants.{Default as default_attribute}

-- the palette index of a named colour
abbrev pub number_of : AnsiColor → ℕ
number_of Black = 0
number_of Maroon = 1
number_of Green = 2
number_of Olive = 3
number_of Navy = 4
number_of Purple = 5
number_of Teal = 6
number_of Silver = 7
number_of Grey = 8
number_of Red = 9
number_of Lime = 10
number_of Yellow = 11
number_of Blue = 12
number_of Fuchsia = 13
number_of Aqua = 14
number_of White = 15

-- red, green and blue
abbrev pub channels : RgbColor → ℕ × ℕ × ℕ
channels c = (c.red, c.green, c.blue)

-- the opaque colour: its alpha is 255
abbrev pub opaque : RgbColor → SrgbaTuple
opaque c = record { 0 = c.red; 1 = c.green; 2 = c.blue; 3 = 255 }

-- the colour's red, green and blue
abbrev pub without_alpha : SrgbaTuple → RgbColor
without_alpha c = record { red = c.0; green = c.1; blue = c.2 }

-- the cell colour of a `ColorSpec`: a true colour falls back to the default
abbrev pub attribute_of : ColorSpec → ColorAttribute
attribute_of Default = default_attribute
attribute_of (PaletteIndex n) = palette_attribute n
attribute_of (TrueColor c) = TrueColorWithDefaultFallback c
