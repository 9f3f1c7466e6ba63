-- The colours of cells, as red, green and blue from 0 to 255.
use Rattle.std.specs.Prelude.{ℕ, ◌+◌, ◌-◌, ◌*◌, ◌/◌, ◌%◌, Bool, true, false, not, ◌||◌, ◌==◌, nat_lt, List, [], ◌∷◌}
use Rattle.std.specs.Prelude.{◌++◌, slice_index_or, if◌then◌else◌}
use Rattle.cell_base.specs.Attributes.{Attributes}
use Rattle.cell_base.specs.ColorText.{hex_byte}
use Rattle.cell_base.specs.declared.attributes.Intensity.{Intensity}
use Rattle.cell_base.specs.declared.attributes.Intensity.TheVariants.{Normal, Bold, Half}
use Rattle.cell_base.specs.declared.color.ColorAttribute.{ColorAttribute}
use Rattle.cell_base.specs.declared.color.ColorAttribute.TheVariants.{Default, PaletteIndex}
use Rattle.cell_base.specs.declared.color.ColorAttribute.TheVariants.{TrueColorWithDefaultFallback}
use Rattle.cell_base.specs.declared.color.ColorAttribute.TheVariants.{TrueColorWithPaletteFallback}

abbrev pub Rgb : Type 0
Rgb = ℕ × ℕ × ℕ

-- ---- xterm's palette

-- black, red, green, yellow, blue, magenta, cyan and white, and then the bright ones
abbrev pub system_colors : List Rgb
system_colors =
    (0, 0, 0) ∷ (205, 0, 0) ∷ (0, 205, 0) ∷ (205, 205, 0) ∷ (0, 0, 238) ∷ (205, 0, 205) ∷ (0, 205, 205)
    ∷ (229, 229, 229)
    ∷ (127, 127, 127) ∷ (255, 0, 0) ∷ (0, 255, 0) ∷ (255, 255, 0) ∷ (92, 92, 255) ∷ (255, 0, 255) ∷ (0, 255, 255)
    ∷ (255, 255, 255) ∷ []

abbrev pub system_color : ℕ → Rgb
system_color n = slice_index_or system_colors n (0, 0, 0)

-- the six levels of the cube: 0, 95, 135, 175, 215 and 255
abbrev pub level : ℕ → ℕ
level step = if step == 0 then 0 else 55 + 40 * step

abbrev pub cube_color : ℕ → Rgb
cube_color position = (level (position / 36), level (position / 6 % 6), level (position % 6))

abbrev pub grey : ℕ → ℕ
grey step = 8 + 10 * step

abbrev pub palette_color : ℕ → Rgb
palette_color n =
    if nat_lt n 16 then system_color n
    else (if nat_lt n 232 then cube_color (n - 16) else (grey (n - 232), grey (n - 232), grey (n - 232)))

-- ---- the colours of a cell

-- the default colours are shown as the palette's white (7) on black (0)
abbrev pub default_foreground : Rgb
default_foreground = palette_color 7

abbrev pub default_background : Rgb
default_background = palette_color 0

abbrev pub color_of : Rgb → ColorAttribute → Rgb
color_of default Default = default
color_of default (PaletteIndex n) = palette_color n
color_of default (TrueColorWithDefaultFallback c) = (c.0, c.1, c.2)
color_of default (TrueColorWithPaletteFallback c n) = (c.0, c.1, c.2)

abbrev pub foreground_color : Attributes → Rgb
foreground_color a =
    if a.reverse then color_of default_background a.background else color_of default_foreground a.foreground

-- the background colour; reverse video swaps it with the foreground colour
abbrev pub background_color : Attributes → Rgb
background_color a =
    if a.reverse then color_of default_foreground a.foreground else color_of default_background a.background

abbrev pub midway : Rgb → Rgb → Rgb
midway one other = ((one.0 + other.0) / 2, (one.1 + other.1) / 2, (one.2 + other.2) / 2)

-- a foreground of half intensity is midway to the background
abbrev pub dimmed : Intensity → Rgb → Rgb → Rgb
dimmed Normal text background = text
dimmed Bold text background = text
dimmed Half text background = midway text background

-- the colour in which a text is drawn; the background colour where the text is invisible
abbrev pub text_color : Attributes → Rgb
text_color a = if a.invisible then background_color a else dimmed a.intensity (foreground_color a) (background_color a)

abbrev pub is_default : ColorAttribute → Bool
is_default Default = true
is_default (PaletteIndex n) = false
is_default (TrueColorWithDefaultFallback c) = false
is_default (TrueColorWithPaletteFallback c n) = false

abbrev pub has_background : Attributes → Bool
has_background a = a.reverse || not (is_default a.background)

-- `#rrggbb`
unfoldable pub hex_color : Rgb → List ℕ
hex_color c = 35 ∷ (hex_byte c.0 ++ (hex_byte c.1 ++ hex_byte c.2))
