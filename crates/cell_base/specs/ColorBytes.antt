-- A colour by its parts: its kind, channels and index. The parts that its kind doesn't use are 0.
use Rattle.std.specs.Prelude.{ℕ}
use Rattle.cell_base.specs.declared.color.SrgbaTuple.{SrgbaTuple}
use Rattle.cell_base.specs.declared.color.ColorAttribute.{ColorAttribute}
use Rattle.cell_base.specs.declared.color.ColorAttribute.TheVariants.{Default, PaletteIndex}
use Rattle.cell_base.specs.declared.color.ColorAttribute.TheVariants.{TrueColorWithDefaultFallback}
use Rattle.cell_base.specs.declared.color.ColorAttribute.TheVariants.{TrueColorWithPaletteFallback}
use Rattle.cell_base.specs.declared.stored_color.ColorKind.{ColorKind}
use Rattle.cell_base.specs.declared.stored_color.ColorKind.TheVariants.{Unset, Indexed, Direct, DirectOrIndexed}

abbrev pub kind_byte : ColorKind → ℕ
kind_byte Unset = 0
kind_byte Indexed = 1
kind_byte Direct = 2
kind_byte DirectOrIndexed = 3

-- the colour that has these parts; it ignores the parts that its kind doesn't use
abbrev pub color_with : ColorKind → SrgbaTuple → ℕ → ColorAttribute
color_with Unset channels index = Default
color_with Indexed channels index = PaletteIndex index
color_with Direct channels index = TrueColorWithDefaultFallback channels
color_with DirectOrIndexed channels index = TrueColorWithPaletteFallback channels index

abbrev pub no_channels : SrgbaTuple
no_channels = record { 0 = 0; 1 = 0; 2 = 0; 3 = 0 }

abbrev pub kind_of : ColorAttribute → ColorKind
kind_of Default = Unset
kind_of (PaletteIndex index) = Indexed
kind_of (TrueColorWithDefaultFallback channels) = Direct
kind_of (TrueColorWithPaletteFallback channels index) = DirectOrIndexed

abbrev pub channels_of : ColorAttribute → SrgbaTuple
channels_of Default = no_channels
channels_of (PaletteIndex index) = no_channels
channels_of (TrueColorWithDefaultFallback channels) = channels
channels_of (TrueColorWithPaletteFallback channels index) = channels

abbrev pub index_of : ColorAttribute → ℕ
index_of Default = 0
index_of (PaletteIndex index) = index
index_of (TrueColorWithDefaultFallback channels) = 0
index_of (TrueColorWithPaletteFallback channels index) = index
