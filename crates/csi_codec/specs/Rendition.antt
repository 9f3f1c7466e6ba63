-- SGR: the shapes of a group with their values, and how settings are written.
-- ECMA-48 8.3.117; ISO 8613-6 13.1.8 for 38, 48 and the forms with colons; xterm: Character Attributes (SGR).
use Rattle.std.specs.Prelude.{ℕ, zero, suc, ℤ, pos, List, [], ◌∷◌, length, Bool, true, false, ◌&&◌, Option, Some, None}
use Rattle.std.specs.Prelude.{nat_le, nat_lt, ◌==◌, ◌+◌, ◌-◌, if◌then◌else◌, option_map, option_and_then, slice_get}
use Rattle.csi_codec.specs.Parameters.{is_number, number_within, with_semicolon, Spelled, spelled, number_tokens}
use Rattle.csi_codec.specs.declared.parameters.CsiParam.{CsiParam}
use Rattle.csi_codec.specs.declared.parameters.CsiParam.TheVariants.{Integer, P}
use Rattle.csi_codec.specs.declared.rendition.Sgr.{Sgr}
use Rattle.csi_codec.specs.declared.rendition.Sgr.TheVariants as sgr
use Rattle.csi_codec.specs.declared.rendition.Font.TheVariants as font
use Rattle.cell_base.specs.declared.color.ColorSpec.{ColorSpec}
use Rattle.cell_base.specs.declared.color.ColorSpec.TheVariants as color
use Rattle.cell_base.specs.declared.color.SrgbaTuple.{SrgbaTuple}
use Rattle.cell_base.specs.declared.attributes.Intensity.TheVariants as intensity
use Rattle.cell_base.specs.declared.attributes.Underline.{Underline}
use Rattle.cell_base.specs.declared.attributes.Underline.TheVariants as underline
use Rattle.cell_base.specs.declared.attributes.Blink.TheVariants as blink
use Rattle.cell_base.specs.declared.attributes.VerticalAlign.TheVariants as align

-- ---- Shapes

-- a part of a shape: a byte, a number, or any number
pub data Part : Type 0 where
  byte_part : ℕ → Part
  number_part : ℕ → Part
  any_number : Part

-- whether a token matches a part of a shape: that byte, that number, or any number
abbrev pub is_part : Part → CsiParam → Bool
is_part (byte_part b) (P c) = c == b
is_part (number_part n) (Integer z) = is_number n z
is_part any_number (Integer z) = true
is_part _ _ = false

-- whether a shape matches the start of a list
abbrev pub stands : List Part → List CsiParam → Bool
stands [] ts = true
stands (part ∷ parts) [] = false
stands (part ∷ parts) (t ∷ ts) = is_part part t && stands parts ts

-- the number of a token, if it is one and 0 to 255
abbrev pub byte_of : CsiParam → Option ℕ
byte_of (Integer z) = number_within 255 z
byte_of (P b) = None

-- the number at an index of the list, if it is one and 0 to 255
abbrev pub byte_at : List CsiParam → ℕ → Option ℕ
byte_at ts i = option_and_then byte_of (slice_get ts i)

-- ---- Colours after 38, 48 and 58

abbrev pub colour : ℕ → ℕ → ℕ → ℕ → ColorSpec
colour r g b a = color.TrueColor (record { 0 = r; 1 = g; 2 = b; 3 = a })

-- the palette entry whose index is at a position
abbrev pub palette_at : ℕ → List CsiParam → Option ColorSpec
palette_at i ts = option_map color.PaletteIndex (byte_at ts i)

-- the opaque colour whose channels are at three positions
abbrev pub opaque_at : ℕ → ℕ → ℕ → List CsiParam → Option ColorSpec
opaque_at i j k ts =
    option_and_then (λ r. option_and_then (λ g.
    option_map (λ b. colour r g b 255) (byte_at ts k)) (byte_at ts j)) (byte_at ts i)

-- the colour whose channels are at four positions
abbrev pub colour_at : ℕ → ℕ → ℕ → ℕ → List CsiParam → Option ColorSpec
colour_at i j k l ts =
    option_and_then (λ r. option_and_then (λ g. option_and_then (λ b.
    option_map (λ a. colour r g b a) (byte_at ts l)) (byte_at ts k)) (byte_at ts j)) (byte_at ts i)

-- a form of a colour: its shape, and its value where the shape matches
abbrev pub Form : Type 0
Form = List Part × (List CsiParam → Option ColorSpec)

-- the parts of a shape: `:` and `;`
abbrev pub colon : Part
colon = byte_part 58

abbrev pub semicolon : Part
semicolon = byte_part 59

-- `numbers_after part n`: n numbers, each after `part`
abbrev pub numbers_after : Part → ℕ → List Part
numbers_after part zero = []
numbers_after part (suc n) = part ∷ any_number ∷ numbers_after part n

-- the forms, the longest first
abbrev pub colour_forms : List Form
colour_forms =
    -- :6::r:g:b:a
    (colon ∷ number_part 6 ∷ colon ∷ numbers_after colon 4, colour_at 4 6 8 10)
    -- :2:i:r:g:b, where the colour space i is ignored
    ∷ (colon ∷ number_part 2 ∷ numbers_after colon 4, opaque_at 5 7 9)
    -- :2::r:g:b
    ∷ (colon ∷ number_part 2 ∷ colon ∷ numbers_after colon 3, opaque_at 4 6 8)
    -- :2:r:g:b
    ∷ (colon ∷ number_part 2 ∷ numbers_after colon 3, opaque_at 3 5 7)
    -- ;2;r;g;b
    ∷ (semicolon ∷ number_part 2 ∷ numbers_after semicolon 3, opaque_at 3 5 7)
    -- :5:n
    ∷ (colon ∷ number_part 5 ∷ numbers_after colon 1, palette_at 3)
    -- ;5;n
    ∷ (semicolon ∷ number_part 5 ∷ numbers_after semicolon 1, palette_at 3)
    ∷ []

-- a value, and how many tokens it takes
abbrev pub taking : {A : Type 0} → ℕ → Option A → Option (A × ℕ)
taking n value = option_map (λ v. (v, n)) value

-- the first form that matches decides
abbrev pub first_form : List Form → List CsiParam → Option (ColorSpec × ℕ)
first_form [] ts = None
first_form (form ∷ forms) ts =
    if stands form.0 ts then taking (length form.0) (form.1 ts) else first_form forms ts

unfoldable pub colour_form : List CsiParam → Option (ColorSpec × ℕ)
colour_form ts = first_form colour_forms ts

-- ---- Writing

-- a channel or an index
abbrev pub number : ℕ → CsiParam
number n = Integer (pos n)

-- :5:n
abbrev pub palette_tokens : ℕ → ℕ → List CsiParam
palette_tokens target n = number target ∷ P 58 ∷ number 5 ∷ P 58 ∷ number n ∷ []

-- :2::r:g:b
abbrev pub opaque_tokens : ℕ → ℕ → ℕ → ℕ → List CsiParam
opaque_tokens target r g b =
    number target ∷ P 58 ∷ number 2 ∷ P 58 ∷ P 58 ∷ number r ∷ P 58 ∷ number g ∷ P 58 ∷ number b ∷ []

-- :6::r:g:b:a
abbrev pub alpha_tokens : ℕ → ℕ → ℕ → ℕ → ℕ → List CsiParam
alpha_tokens target r g b a =
    number target ∷ P 58 ∷ number 6 ∷ P 58 ∷ P 58 ∷ number r ∷ P 58 ∷ number g ∷ P 58 ∷ number b ∷ P 58 ∷ number a ∷ []

-- a colour of channels, with its alpha where it isn't opaque
abbrev pub colour_tokens : ℕ → SrgbaTuple → List CsiParam
colour_tokens target c =
    if c.3 == 255 then opaque_tokens target c.0 c.1 c.2 else alpha_tokens target c.0 c.1 c.2 c.3

-- a foreground or background colour: the default is the number `off`, and the first sixteen palette entries are one
-- number each, 0 to 7 from `low` on and 8 to 15 from `bright` on
abbrev pub short_colour_tokens : ℕ → ℕ → ℕ → ℕ → ColorSpec → List CsiParam
short_colour_tokens target off low bright color.Default = number_tokens off
short_colour_tokens target off low bright (color.PaletteIndex n) =
    if nat_lt n 8 then number_tokens (low + n)
    else (if nat_lt n 16 then number_tokens (bright + n) else palette_tokens target n)
short_colour_tokens target off low bright (color.TrueColor c) = colour_tokens target c

abbrev pub underline_colour_tokens : ColorSpec → List CsiParam
underline_colour_tokens color.Default = number_tokens 59
underline_colour_tokens (color.PaletteIndex n) = palette_tokens 58 n
underline_colour_tokens (color.TrueColor c) = colour_tokens 58 c

abbrev pub underline_tokens : Underline → List CsiParam
underline_tokens underline.None = number_tokens 24
underline_tokens underline.Single = number_tokens 4
underline_tokens underline.Double = number_tokens 21
underline_tokens underline.Curly = number 4 ∷ P 58 ∷ number 3 ∷ []
underline_tokens underline.Dotted = number 4 ∷ P 58 ∷ number 4 ∷ []
underline_tokens underline.Dashed = number 4 ∷ P 58 ∷ number 5 ∷ []

-- on or off
abbrev pub switch : ℕ → ℕ → Bool → List CsiParam
switch on off value = number_tokens (if value then on else off)

abbrev pub sgr_tokens : Sgr → List CsiParam
sgr_tokens sgr.Reset = number_tokens 0
sgr_tokens (sgr.Intensity intensity.Bold) = number_tokens 1
sgr_tokens (sgr.Intensity intensity.Half) = number_tokens 2
sgr_tokens (sgr.Intensity intensity.Normal) = number_tokens 22
sgr_tokens (sgr.Underline line) = underline_tokens line
sgr_tokens (sgr.Blink blink.Slow) = number_tokens 5
sgr_tokens (sgr.Blink blink.Rapid) = number_tokens 6
sgr_tokens (sgr.Blink blink.None) = number_tokens 25
sgr_tokens (sgr.Italic on) = switch 3 23 on
sgr_tokens (sgr.Inverse on) = switch 7 27 on
sgr_tokens (sgr.Invisible on) = switch 8 28 on
sgr_tokens (sgr.StrikeThrough on) = switch 9 29 on
sgr_tokens (sgr.Overline on) = switch 53 55 on
sgr_tokens (sgr.Font font.Default) = number_tokens 10
sgr_tokens (sgr.Font (font.Alternate n)) = number_tokens (10 + n)
sgr_tokens (sgr.VerticalAlign align.SuperScript) = number_tokens 73
sgr_tokens (sgr.VerticalAlign align.SubScript) = number_tokens 74
sgr_tokens (sgr.VerticalAlign align.BaseLine) = number_tokens 75
sgr_tokens (sgr.Foreground c) = short_colour_tokens 38 39 30 82 c
sgr_tokens (sgr.Background c) = short_colour_tokens 48 49 40 92 c
sgr_tokens (sgr.UnderlineColor c) = underline_colour_tokens c

unfoldable pub sgr_spelling : Sgr → Spelled
sgr_spelling value = spelled (sgr_tokens value) 109  -- m: SGR, ECMA-48 8.3.117

-- ---- Single numbers

-- the values that a number alone is written for
abbrev pub single_codes : List Sgr
single_codes =
    sgr.Reset ∷ sgr.Intensity intensity.Bold ∷ sgr.Intensity intensity.Half ∷ sgr.Intensity intensity.Normal
    ∷ sgr.Underline underline.None ∷ sgr.Underline underline.Single ∷ sgr.Underline underline.Double
    ∷ sgr.Blink blink.Slow ∷ sgr.Blink blink.Rapid ∷ sgr.Blink blink.None ∷ sgr.Italic true ∷ sgr.Italic false
    ∷ sgr.Inverse true ∷ sgr.Inverse false ∷ sgr.Invisible true ∷ sgr.Invisible false ∷ sgr.StrikeThrough true
    ∷ sgr.StrikeThrough false ∷ sgr.Overline true ∷ sgr.Overline false ∷ sgr.Font font.Default
    ∷ sgr.VerticalAlign align.SuperScript ∷ sgr.VerticalAlign align.SubScript ∷ sgr.VerticalAlign align.BaseLine
    ∷ sgr.Foreground color.Default ∷ sgr.Background color.Default ∷ sgr.UnderlineColor color.Default ∷ []

-- whether a list is this number alone
abbrev pub is_alone : ℕ → List CsiParam → Bool
is_alone n (Integer (pos m) ∷ []) = m == n
is_alone n _ = false

-- the value of the list that is written as a number alone, or another one
abbrev pub listed_or : List Sgr → ℕ → Option Sgr → Option Sgr
listed_or [] n other = other
listed_or (value ∷ values) n other = if is_alone n (sgr_tokens value) then Some value else listed_or values n other

abbrev pub is_between : ℕ → ℕ → ℕ → Bool
is_between low high n = nat_le low n && nat_le n high

-- fonts 11 to 19, and the first sixteen colours of the palette
abbrev pub ranged_code : ℕ → Option Sgr
ranged_code n =
    if is_between 11 19 n then Some (sgr.Font (font.Alternate (n - 10)))
    else (if is_between 30 37 n then Some (sgr.Foreground (color.PaletteIndex (n - 30)))
    else (if is_between 40 47 n then Some (sgr.Background (color.PaletteIndex (n - 40)))
    else (if is_between 90 97 n then Some (sgr.Foreground (color.PaletteIndex (n - 82)))
    else (if is_between 100 107 n then Some (sgr.Background (color.PaletteIndex (n - 92)))
    else None))))

unfoldable pub single_code : ℕ → Option Sgr
single_code n = listed_or single_codes n (ranged_code n)

-- the value of a number as a parameter
abbrev pub plain_code : ℤ → Option Sgr
plain_code z = option_and_then single_code (number_within 255 z)

-- ---- Underlines after 4:

abbrev pub underline_numbered : ℤ → Option Underline
underline_numbered z =
    if is_number 0 z then Some underline.None
    else (if is_number 1 z then Some underline.Single
    else (if is_number 2 z then Some underline.Double
    else (if is_number 3 z then Some underline.Curly
    else (if is_number 4 z then Some underline.Dotted
    else (if is_number 5 z then Some underline.Dashed
    else None)))))

-- 4:k where k is the number of an underline, or else 4 alone; the token count includes the 4
abbrev pub underline_or_single : Option Underline → Option (Sgr × ℕ)
underline_or_single None = Some (sgr.Underline underline.Single, 1)
underline_or_single (Some line) = Some (sgr.Underline line, 3)

abbrev pub underline_shape : List CsiParam → Option (Sgr × ℕ)
underline_shape (P b ∷ Integer z ∷ ts) = underline_or_single (if b == 58 then underline_numbered z else None)
underline_shape _ = underline_or_single None

-- ---- Groups

-- the form of a colour after 38, 48 or 58; the token count includes that number
abbrev pub colour_shape : (ColorSpec → Sgr) → List CsiParam → Option (Sgr × ℕ)
colour_shape target ts = option_map (λ form. (target form.0, form.1 + 1)) (colour_form ts)

-- the longest shape that begins with a number
unfoldable pub numbered_shape : ℤ → List CsiParam → Option (Sgr × ℕ)
numbered_shape z ts =
    if is_number 38 z then colour_shape sgr.Foreground ts
    else (if is_number 48 z then colour_shape sgr.Background ts
    else (if is_number 58 z then colour_shape sgr.UnderlineColor ts
    else (if is_number 4 z then underline_shape ts
    else taking 1 (plain_code z))))

-- the longest shape at the start of a list, and how many tokens it takes; a single `;` is a reset
unfoldable pub sgr_shape : List CsiParam → Option (Sgr × ℕ)
sgr_shape [] = None
sgr_shape (P b ∷ ts) = taking 1 (if b == 59 then Some sgr.Reset else None)
sgr_shape (Integer z ∷ ts) = numbered_shape z ts

-- a group: the longest shape, and the `;` right after it
unfoldable pub sgr_group : List CsiParam → Option (Sgr × ℕ)
sgr_group ts = with_semicolon ts (sgr_shape ts)
