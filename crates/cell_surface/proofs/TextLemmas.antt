-- The texts of cells on a surface.
use Rattle.std.proofs.Common.{◌≡◌, ℕ, ◌-◌, List, length, take, map, replicate, sym, subst, arith, length-append}
use Rattle.std.proofs.lemmas.List.{length-replicate, length-take}
use Rattle.cell_base.specs.Row.{plain_row}
use Rattle.std.proofs.lemmas.Str.{IsUtf8-string_bytes}
use Rattle.cell_base.specs.Row.{space}
use Rattle.screen_change.specs.ChangeValue.{ChangeValue}
use Rattle.screen_change.specs.ValueOf.{value_of}
use Rattle.screen_change.specs.declared.change.Change.{Change}
use Rattle.screen_change.specs.declared.change.Change.TheVariants.{Attribute, AllAttributes, Text, ClearScreen, ClearToEndOfLine, ClearToEndOfScreen, CursorPosition, CursorColor, CursorShape, CursorVisibility, LineAttribute, ScrollRegionUp, ScrollRegionDown, Title}
use Rattle.screen_effects.specs.Display.{Display, IsDisplay, new_display}
use Rattle.screen_effects.specs.Effect.{effect}
use Rattle.screen_effects.specs.Resize.{resized, resized_row}
use Rattle.screen_effects.specs.WrittenCells.{HasUtf8, IsSoundDisplay}
use Rattle.screen_effects.proofs.SoundLemmas.{new_is_sound, effect_is_sound, resized_is_sound}

pub has_utf8 : (change : Change) → HasUtf8 (value_of change)
has_utf8 (Attribute change) = tt
has_utf8 (AllAttributes attributes) = tt
has_utf8 (Text text) = IsUtf8-string_bytes text
has_utf8 (ClearScreen color) = tt
has_utf8 (ClearToEndOfLine color) = tt
has_utf8 (ClearToEndOfScreen color) = tt
has_utf8 (CursorPosition x y) = tt
has_utf8 (CursorColor color) = tt
has_utf8 (CursorShape shape) = tt
has_utf8 (CursorVisibility visibility) = tt
has_utf8 (LineAttribute kind) = tt
has_utf8 (ScrollRegionUp first_row region_size scroll_count) = tt
has_utf8 (ScrollRegionDown first_row region_size scroll_count) = tt
has_utf8 (Title text) = tt

module _ {W : Type 0} (width_of : W → List ℕ → ℕ) (before after : W) (same : after ≡ before) (narrow : width_of before space ≡ 1) where
  pub sound_after : (d e : Display) (change : ChangeValue) → e ≡ effect (width_of before) d change → IsDisplay d → HasUtf8 change → IsSoundDisplay (width_of before) d → IsSoundDisplay (width_of after) e
  sound_after d e change is h u p =
      subst (λ (w : W). IsSoundDisplay (width_of w) e) (sym same) (subst (IsSoundDisplay (width_of before)) (sym is) (effect_is_sound (width_of before) d change narrow h u p))

  pub sound_resized : (d e : Display) (width rows : ℕ) → e ≡ resized width rows d → IsSoundDisplay (width_of before) d → IsSoundDisplay (width_of after) e
  sound_resized d e width rows is p =
      subst (λ (w : W). IsSoundDisplay (width_of w) e) (sym same) (subst (IsSoundDisplay (width_of before)) (sym is) (resized_is_sound (width_of before) width rows d narrow p))

pub sound_new : (width_of : List ℕ → ℕ) (d : Display) (width rows : ℕ) → width_of space ≡ 1 → d ≡ new_display width rows → IsSoundDisplay width_of d
sound_new width_of d width rows narrow is = subst (IsSoundDisplay width_of) (sym is) (new_is_sound width_of width rows narrow)

pub resized_height : (width rows : ℕ) (d : Display) → length (resized width rows d).screen.rows ≡ rows
resized_height width rows d =
    let all = map (resized_row width) d.screen.rows in
    let prefix = length-take rows all in
    let more = length-replicate (rows - length all) (plain_row width) in
    let both = length-append (take rows all) (replicate (rows - length all) (plain_row width)) in
    omega arith
