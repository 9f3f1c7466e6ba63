-- Colours as texts.
use Rattle.std.specs.Prelude.{ℕ, ◌+◌, ◌-◌, ◌*◌, ◌/◌, ◌^◌, Bool, false, ◌&&◌, ◌==◌, nat_eq, nat_lt, nat_le}
use Rattle.std.specs.Prelude.{if◌then◌else◌, List, [], ◌∷◌, ◌++◌, length, take, drop, fold, Option, Some, None, codes}
use Rattle.std.specs.Char.{digit_value, is_ascii_hexdigit}
use Rattle.std.specs.List.{list_all, starts_with, before_first, after_first, position_or_len}
use Rattle.std.specs.Option.{option_map}
use Rattle.std.specs.Fmt.{digits, padded_integral, format_spec}
use Rattle.cell_base.specs.Color.{channels}
use Rattle.cell_base.specs.declared.color.RgbColor.{RgbColor}

-- two hex digits, in small letters, as `{:02x}` writes them
abbrev pub hex_byte : ℕ → List ℕ
hex_byte n = padded_integral (format_spec 32 0 4 2 (2 ^ 64 - 1)) false [] (digits 16 false n)

-- `#rrggbb`
abbrev pub rgb_text : RgbColor → List ℕ
rgb_text c = 35 ∷ (hex_byte (channels c).0 ++ (hex_byte (channels c).1 ++ hex_byte (channels c).2))

-- `rgb:rrrr/gggg/bbbb`, each channel's two digits twice
abbrev pub x11_text : RgbColor → List ℕ
x11_text c =
    let red = hex_byte (channels c).0 in
    let green = hex_byte (channels c).1 in
    let blue = hex_byte (channels c).2 in
    codes "rgb:" ++ (red ++ (red ++ 47 ∷ (green ++ (green ++ 47 ∷ (blue ++ blue)))))

-- ---- reading

-- the value of hex digits; `hex_reading` is `None` where a byte is not a hex digit
abbrev pub hex_value : List ℕ → ℕ
hex_value digits = fold (λ n d. 16 * n + digit_value d) 0 digits

abbrev pub hex_reading : List ℕ → Option ℕ
hex_reading digits = if list_all is_ascii_hexdigit digits then Some (hex_value digits) else None

-- the upper eight bits of a channel; one digit d is 16 d
abbrev pub upper_bits : List ℕ → Option ℕ
upper_bits digits = option_map (λ v. 256 * v / 16 ^ length digits) (hex_reading digits)

-- a channel of 1 to 4 digits, scaled to 0 to 255
abbrev pub is_part : List ℕ → Bool
is_part digits = nat_le 1 (length digits) && nat_le (length digits) 4

abbrev pub scaled : List ℕ → Option ℕ
scaled digits =
    if is_part digits then option_map (λ v. 255 * v / (16 ^ length digits - 1)) (hex_reading digits) else None

-- three channels, if each was read
abbrev pub three : Option ℕ → Option ℕ → Option ℕ → Option (ℕ × ℕ × ℕ)
three (Some red) (Some green) (Some blue) = Some (red, green, blue)
three (Some red) (Some green) None = None
three (Some red) None blue = None
three None green blue = None

-- the text after `#`: three channels of the same number of digits, 1 to 4
abbrev pub sharp_reading : List ℕ → Option (ℕ × ℕ × ℕ)
sharp_reading digits =
    let n = length digits / 3 in
    if length digits == 3 * n && (nat_le 1 n && nat_le n 4)
    then three (upper_bits (take n digits)) (upper_bits (take n (drop n digits))) (upper_bits (drop (2 * n) digits))
    else None

-- the text after `rgb:`: three parts joined by `/`
abbrev pub has_slash : List ℕ → Bool
has_slash text = nat_lt (position_or_len (λ b. b == 47) text) (length text)

abbrev pub x11_reading : List ℕ → Option (ℕ × ℕ × ℕ)
x11_reading text =
    let rest = after_first (λ b. b == 47) text in
    if has_slash text && has_slash rest
    then three (scaled (before_first (λ b. b == 47) text)) (scaled (before_first (λ b. b == 47) rest))
    (scaled (after_first (λ b. b == 47) rest)) else None

abbrev pub rgb_reading : List ℕ → Option (ℕ × ℕ × ℕ)
rgb_reading text =
    if starts_with nat_eq text (codes "#") then sharp_reading (drop 1 text) else
    (if starts_with nat_eq text (codes "rgb:") then x11_reading (drop 4 text) else None)
