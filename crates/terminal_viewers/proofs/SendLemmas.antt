-- The changes of a patch, whose parts are encoded one after another.
use Rattle.std.proofs.Common.{◌≡◌, ℕ, Bool, List, [], ◌∷◌, ◌++◌, sym, ap, subst, ◌∙◌, append_assoc, append-nil}
use Rattle.std.proofs.lemmas.List.Concat.{flat_map-append}
use Rattle.cell_base.specs.declared.attributes.CursorVisibility.{CursorVisibility as Visibility}
use Rattle.cell_base.specs.declared.attributes.CursorVisibility.TheVariants.{Hidden, Visible}
use Rattle.cell_base.specs.Screen.{Screen, height}
use Rattle.screen_change.specs.ChangeValue.{ChangeValue, CursorVisibility, Title}
use Rattle.screen_difference.specs.Difference.{difference}
use Rattle.screen_difference.specs.FreshCells.{screen_fresh}
use Rattle.screen_effects.specs.Display.{Display, IsDisplay}
use Rattle.screen_effects.specs.Effect.{is_visible}
use Rattle.terminal_viewers.proofs.PatchSpellLemmas.{patch_has}
use Rattle.terminal_table.specs.Led.{position_and_pen}
use Rattle.terminal_viewers.specs.Patch.{patch_changes, patch_of}
use Rattle.terminal_render.specs.Spelling.{HasEncoding, HaveEncodings, IsSpelledScreen}
use Rattle.terminal_table.specs.Changes.{visibility}
use Rattle.terminal_viewers.specs.Encoding.{encoded_text, encoded_texts}
use Rattle.terminal_viewers.specs.Update.{bytes_of}
use Rattle.terminal_viewers.proofs.EncodedLemmas.{all_are_encoded, encodings_after, encodings_prefix, texts_are}
use Rattle.terminal_viewers.proofs.UpdateLemmas.{on_display}

-- a cursor that is visible or not
pub visibility_is : (v : Visibility) (visible : Bool) → is_visible v ≡ visible → v ≡ visibility visible
visibility_is Visible visible e = ap visibility e
visibility_is Hidden visible e = ap visibility e

-- each change of a patch from one display to another has an encoding
pub spelled : (shown d : Display) → IsDisplay shown → IsDisplay d → shown.screen.width ≡ d.screen.width → height shown.screen ≡ height d.screen → IsSpelledScreen d.screen
    → HaveEncodings d.screen.width (height d.screen) (patch_changes shown.screen d.screen)
spelled shown d g h wide tall p = patch_has shown.screen d.screen (on_display shown g) (on_display d h) wide tall p

module _ (old new : Screen) (width tall : ℕ) (w : width ≡ new.width) (t : tall ≡ height new) (h : HaveEncodings new.width (height new) (patch_changes old new)) where
  abbrev cells : List ChangeValue
  cells = difference (screen_fresh old new)

  abbrev seen : ChangeValue
  seen = CursorVisibility (visibility new.visible)

  here : HaveEncodings width tall (patch_changes old new)
  here = subst (λ n. HaveEncodings n tall (patch_changes old new)) (sym w) (subst (λ n. HaveEncodings new.width n (patch_changes old new)) (sym t) h)

  pub title_has : HasEncoding width tall (Title new.title)
  title_has = here.0

  prefix : HaveEncodings width tall (cells ++ position_and_pen new)
  prefix = encodings_prefix width tall (cells ++ position_and_pen new) (seen ∷ []) here.1

  pub cells_have : HaveEncodings width tall cells
  cells_have = encodings_prefix width tall cells (position_and_pen new) prefix

  pub position_has : HaveEncodings width tall (position_and_pen new)
  position_has = encodings_after width tall cells (position_and_pen new) prefix

  pub seen_has : HasEncoding width tall seen
  seen_has = (encodings_after width tall (cells ++ position_and_pen new) (seen ∷ []) here.1).0

  abbrev text : ChangeValue → List ℕ
  text change = encoded_text width tall change

  abbrev bytes_of_changes : List ChangeValue → List ℕ
  bytes_of_changes changes = encoded_texts width tall changes

  -- the bytes after each part
  pub patch_encoded : (start titled drawn placed made : List ℕ) → start ≡ [] → titled ≡ start ++ text (Title new.title) → drawn ≡ titled ++ bytes_of_changes cells → placed ≡ drawn ++ bytes_of_changes (position_and_pen new) → made ≡ placed ++ text seen
      → made ≡ patch_of old new
  patch_encoded start titled drawn placed made none a b c d =
      d
      ∙ ap (λ bytes. bytes ++ text seen) (c ∙ ap (λ bytes. bytes ++ bytes_of_changes (position_and_pen new)) (b ∙ ap (λ bytes. bytes ++ bytes_of_changes cells) (a ∙ ap (λ bytes. bytes ++ text (Title new.title)) none)))
      ∙ ap (λ bytes. bytes ++ text seen) (append_assoc (text (Title new.title)) (bytes_of_changes cells) (bytes_of_changes (position_and_pen new)))
      ∙ append_assoc (text (Title new.title)) (bytes_of_changes cells ++ bytes_of_changes (position_and_pen new)) (text seen)
      ∙ ap (λ bytes. text (Title new.title) ++ bytes)
      ((λ i. sym (flat_map-append text cells (position_and_pen new)) i ++ sym (append-nil (text seen)) i) ∙ sym (flat_map-append text (cells ++ position_and_pen new) (seen ∷ [])))
      ∙ (λ i. encoded_texts (w i) (t i) (patch_changes old new))
      ∙ sym (texts_are new.width (height new) (patch_changes old new))
      ∙ sym (ap bytes_of (all_are_encoded new.width (height new) (patch_changes old new) h))
