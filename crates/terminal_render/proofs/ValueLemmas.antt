-- The settings and the moves of encodings are writable.
use Rattle.std.proofs.Common.{◌≡◌, ℕ, ◌^◌, ◌<◌, Bool, true, false, List, [], ◌∷◌, ◌++◌, refl, arith}
use Rattle.std.specs.Prelude.{⊤, ◌==◌, ◌&&◌, min, Option, None, Some, IfSome, pos, negsuc}
use Rattle.std.proofs.lemmas.Bool.Decides.{nat_tests}
use Rattle.cell_base.specs.declared.attributes.Intensity.{Intensity}
use Rattle.cell_base.specs.declared.attributes.Intensity.TheVariants as intensity
use Rattle.cell_base.specs.declared.attributes.Underline.{Underline}
use Rattle.cell_base.specs.declared.attributes.Underline.TheVariants as underline
use Rattle.cell_base.specs.declared.attributes.Blink.{Blink}
use Rattle.cell_base.specs.declared.attributes.Blink.TheVariants as blink
use Rattle.cell_base.specs.declared.attributes.VerticalAlign.{VerticalAlign}
use Rattle.cell_base.specs.declared.attributes.VerticalAlign.TheVariants as align
use Rattle.cell_base.specs.declared.attributes.Position.{Position}
use Rattle.cell_base.specs.declared.attributes.Position.TheVariants.{Relative, Absolute, EndRelative}
use Rattle.cell_base.specs.declared.color.ColorAttribute.{ColorAttribute}
use Rattle.cell_base.specs.declared.color.ColorAttribute.TheVariants as attribute
use Rattle.cell_base.specs.declared.color.ColorSpec.{ColorSpec}
use Rattle.cell_base.specs.declared.color.ColorSpec.TheVariants as spec
use Rattle.cell_base.specs.Attributes.{Attributes}
use Rattle.csi_codec.specs.Parameters.{word_max}
use Rattle.csi_codec.specs.Slots.{IsCoordinate}
use Rattle.csi_codec.specs.Writable.{IsColour, IsWritableCursor, IsWritableSgr}
use Rattle.csi_codec.specs.declared.cursors.Cursor.{Cursor}
use Rattle.csi_codec.specs.declared.cursors.Cursor.TheVariants as cursor
use Rattle.csi_codec.specs.declared.rendition.Sgr.{Sgr}
use Rattle.csi_codec.specs.declared.rendition.Sgr.TheVariants as sgr
use Rattle.terminal_render.specs.Carried.{IsColor}
use Rattle.terminal_render.specs.Pen.{colour_setting, unless_normal, unless_none, unless_steady, unless_off, unless_base_line, unless_default, settings}
use Rattle.terminal_render.specs.Positions.{Way, At, Back, On, way_of, move_by, moves}

-- a setting, if there is one
abbrev pub IsSet : Option Sgr → Type 0
IsSet None = ⊤
IsSet (Some value) = IsWritableSgr value

abbrev pub AreSet : List (Option Sgr) → Type 0
AreSet [] = ⊤
AreSet (value ∷ values) = IsSet value × AreSet values

pub normal_set : (v : Intensity) → IsSet (unless_normal v)
normal_set intensity.Normal = tt
normal_set intensity.Bold = tt
normal_set intensity.Half = tt

pub none_set : (v : Underline) → IsSet (unless_none v)
none_set underline.None = tt
none_set underline.Single = tt
none_set underline.Double = tt
none_set underline.Curly = tt
none_set underline.Dotted = tt
none_set underline.Dashed = tt

pub steady_set : (v : Blink) → IsSet (unless_steady v)
steady_set blink.None = tt
steady_set blink.Slow = tt
steady_set blink.Rapid = tt

pub off_set : (setting : Bool → Sgr) (on : Bool) → IsWritableSgr (setting true) → IsSet (unless_off setting on)
off_set setting true h = h
off_set setting false h = tt

pub base_line_set : (v : VerticalAlign) → IsSet (unless_base_line v)
base_line_set align.BaseLine = tt
base_line_set align.SuperScript = tt
base_line_set align.SubScript = tt

pub default_set : (setting : ColorSpec → Sgr) (c : ColorSpec) → (IsColour c → IsWritableSgr (setting c)) → IsColour c → IsSet (unless_default setting c)
default_set setting spec.Default w h = tt
default_set setting (spec.PaletteIndex n) w h = w h
default_set setting (spec.TrueColor c) w h = w h

pub settings_set : (a : Attributes) (prefix rear line : ColorSpec) → IsColour prefix → IsColour rear → IsColour line → AreSet (settings a prefix rear line)
settings_set a prefix rear line f r l = (
  normal_set a.intensity,
  (
    none_set a.underline,
    (
      steady_set a.blink,
      (
        off_set sgr.Italic a.italic tt,
        (
          off_set sgr.Inverse a.reverse tt,
          (
            off_set sgr.StrikeThrough a.strikethrough tt,
            (
              off_set sgr.Invisible a.invisible tt,
              (
                off_set sgr.Overline a.overline tt,
                (
                  base_line_set a.vertical_align,
                  (default_set sgr.Foreground prefix (λ h. h) f, (default_set sgr.Background rear (λ h. h) r, (default_set sgr.UnderlineColor line (λ h. h) l, tt))),
                ),
              ),
            ),
          ),
        ),
      ),
    ),
  ),
)

-- a colour that can be encoded
pub color_is : (color : ColorAttribute) → IsColor color → IfSome (colour_setting color) IsColour
color_is (attribute.TrueColorWithPaletteFallback c index) h = tt
color_is (attribute.TrueColorWithDefaultFallback c) h = h
color_is (attribute.PaletteIndex index) h = h
color_is attribute.Default h = tt

abbrev pub AreMoves : List Cursor → Type 0
AreMoves [] = ⊤
AreMoves (move ∷ remaining) = IsWritableCursor move × AreMoves remaining

pub moves_append : (xs ys : List Cursor) → AreMoves xs → AreMoves ys → AreMoves (xs ++ ys)
moves_append [] ys h k = k
moves_append (x ∷ xs) ys h k = (h.0, moves_append xs ys h.1 k)

pub by_is : (move : ℕ → Cursor) (count : ℕ) → ((n : ℕ) → IsCoordinate n → IsWritableCursor (move n)) → AreMoves (move_by move count)
by_is move count w = by_test (count == 0) refl
  where
    by_test : (b : Bool) → (count == 0) ≡ b → AreMoves (move_by move count)
    by_test true e = rw e tt
    by_test false e = let some : 0 < count = grind (arith, nat_tests) in rw e (w (min count word_max) (omega arith, omega arith), tt)

-- a way to a position that a parameter can hold
abbrev pub IsNamed : Way → Type 0
IsNamed (At coordinate) = IsCoordinate coordinate
IsNamed (Back count) = ⊤
IsNamed (On count) = ⊤

pub way_is : (size : ℕ) (position : Position) → 0 < size → size < 2 ^ 32 → IsNamed (way_of size position)
way_is size (Absolute at) h k = (omega arith, omega arith)
way_is size (EndRelative back) h k = (omega arith, omega arith)
way_is size (Relative (pos n)) h k = tt
way_is size (Relative (negsuc n)) h k = tt

pub moves_are : (column row : Way) → IsNamed column → IsNamed row → IfSome (moves column row) AreMoves
unfolding moves
moves_are (At column) (At row) h k = ((k, h), tt)
moves_are (At column) (Back rows) h k = moves_append (move_by cursor.Up rows) (cursor.CharacterAbsolute column ∷ []) (by_is cursor.Up rows (λ n w. w)) (h, tt)
moves_are (At column) (On rows) h k = moves_append (move_by cursor.Down rows) (cursor.CharacterAbsolute column ∷ []) (by_is cursor.Down rows (λ n w. w)) (h, tt)
moves_are (On columns) (At row) h k = moves_append (move_by cursor.Right columns) (cursor.LinePositionAbsolute row ∷ []) (by_is cursor.Right columns (λ n w. w)) (k, tt)
moves_are (On columns) (Back rows) h k = moves_append (move_by cursor.Right columns) (move_by cursor.Up rows) (by_is cursor.Right columns (λ n w. w)) (by_is cursor.Up rows (λ n w. w))
moves_are (On columns) (On rows) h k = by_test (columns == 0 && rows == 0) refl
  where
    by_test : (b : Bool) → (columns == 0 && rows == 0) ≡ b → IfSome (moves (On columns) (On rows)) AreMoves
    by_test true e = rw e tt
    by_test false e = rw e (moves_append (move_by cursor.Right columns) (move_by cursor.Down rows) (by_is cursor.Right columns (λ n w. w)) (by_is cursor.Down rows (λ n w. w)))
moves_are (Back columns) row h k = tt
