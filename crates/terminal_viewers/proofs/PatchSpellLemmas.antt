-- What holds of each change of a patch: it has an encoding.
use Rattle.std.proofs.Common.{◌≡◌, inl, ℕ, ◌<◌, Bool, List, [], ◌∷◌, ◌++◌, refl}
use Rattle.std.specs.List.{AllByRecursion}
use Rattle.cell_base.specs.declared.attributes.Position.TheVariants.{Absolute}
use Rattle.cell_base.specs.Attributes.{Attributes}
use Rattle.cell_base.specs.Screen.{Screen, height}
use Rattle.cell_base.proofs.Fields.{all_joined}
use Rattle.screen_change.specs.ChangeValue.{ChangeValue, AllAttributes, CursorPosition, CursorVisibility, Text, Title}
use Rattle.screen_difference.specs.Difference.{difference}
use Rattle.screen_difference.specs.FreshCells.{screen_fresh}
use Rattle.screen_effects.specs.Display.{IsDisplay}
use Rattle.terminal_viewers.specs.Patch.{patch_changes}
use Rattle.terminal_render.specs.Spelling.{HasEncoding, HaveEncodings, IsSpelledPen, IsSpelledRun, IsSpelledScreen, IsSpelledTitle}
use Rattle.terminal_render.proofs.ChangeLemmas.{is_encoded, coordinate_some}
use Rattle.terminal_render.proofs.LedLemmas.{all_have, each_of_difference}
use Rattle.terminal_table.specs.Changes.{visibility}
use Rattle.terminal_table.specs.Led.{position_and_pen}
use Rattle.terminal_viewers.specs.Update.{display_on}

-- What holds of a text and of attributes that have an encoding, of a position before the last column, and of the other kinds of changes,
-- holds of each change of a patch.
module _ (width : ℕ) (P : ChangeValue → Type 0) (of_text : (text : List ℕ) → IsSpelledRun text → P (Text text)) (of_pen : (pen : Attributes) → IsSpelledPen pen → P (AllAttributes pen))
    (of_position : (column row : ℕ) → column < width → P (CursorPosition (Absolute column) (Absolute row))) (of_title : (title : List ℕ) → IsSpelledTitle title → P (Title title)) (of_sight : (visible : Bool) → P (CursorVisibility (visibility visible))) where
  pub each_of_patch : (old new : Screen) → new.width ≡ width → IsDisplay (display_on old) → IsDisplay (display_on new) → old.width ≡ new.width → IsSpelledScreen new → AllByRecursion P (patch_changes old new)
  each_of_patch old new is g h wide p = (
    of_title new.title p.title,
    all_joined P (difference (screen_fresh old new) ++ position_and_pen new) (CursorVisibility (visibility new.visible) ∷ [])
        (each_of_difference width P of_text of_pen of_position old new is wide g.lawful h.lawful h.whole p) (of_sight new.visible, tt),
  )

pub patch_has : (old new : Screen) → IsDisplay (display_on old) → IsDisplay (display_on new) → old.width ≡ new.width → height old ≡ height new → IsSpelledScreen new → HaveEncodings new.width (height new) (patch_changes old new)
patch_has old new g h wide tall p =
    let w = new.width in
    let n = height new in
    all_have w n (patch_changes old new)
    (each_of_patch w (HasEncoding w n)
    (λ text q. is_encoded w n (Text text) q.spelled tt (inl q.printed))
    (λ pen q. is_encoded w n (AllAttributes pen) q tt tt)
    (λ column row lt. is_encoded w n (CursorPosition (Absolute column) (Absolute row)) tt (coordinate_some w n column (Absolute row) lt) tt)
    (λ title q. is_encoded w n (Title title) q tt tt)
    (λ visible. is_encoded w n (CursorVisibility (visibility visible)) tt tt tt)
    old new refl g h wide p)
