-- A patch, replayed on the screen that is shown, leaves the other one.
use Rattle.std.proofs.Common.{◌≡◌, ℕ, Bool, true, false, List, [], ◌∷◌, ◌++◌, refl, sym, ap, ◌∙◌}
use Rattle.std.proofs.lemmas.List.Sums.{fold-append}
use Rattle.cell_base.specs.Row.{space}
use Rattle.cell_base.specs.Screen.{Screen, height}
use Rattle.screen_change.specs.ChangeValue.{ChangeValue, CursorVisibility, Title}
use Rattle.screen_difference.specs.Difference.{difference}
use Rattle.screen_difference.specs.DrawnCells.{HavePositions}
use Rattle.screen_difference.specs.FreshCells.{screen_fresh}
use Rattle.screen_effects.specs.Display.{Display, IsDisplay}
use Rattle.screen_effects.specs.Effect.{effect, is_visible, replay}
use Rattle.screen_effects.proofs.EffectLaws.{effect_is}
use Rattle.screen_effects.specs.WrittenCells.{IsSoundDisplay}
use Rattle.terminal_table.specs.Changes.{visibility}
use Rattle.xterm_table.specs.Follows.{Follows}
use Rattle.terminal_table.specs.Led.{position_and_pen}
use Rattle.terminal_table.proofs.LedLemmas as led
use Rattle.terminal_table.proofs.LedLemmas.{DifferencesKeepRest, RegionsHavePositions, ScreensAreShown}
use Rattle.terminal_viewers.specs.Patch.{patch_changes}
use Rattle.terminal_viewers.specs.Shows.{replayed_on}
use Rattle.terminal_viewers.specs.Update.{display_on}

seen : (visible : Bool) → is_visible (visibility visible) ≡ visible
seen true = refl
seen false = refl

-- ---- the display after each part

module _ (keeps : DifferencesKeepRest) (positions : RegionsHavePositions) (shows : ScreensAreShown) where
  module _ (width_of : List ℕ → ℕ) (old new : Screen) (narrow : width_of space ≡ 1) (g : IsDisplay (display_on old)) (h : IsDisplay (display_on new)) (sound : IsSoundDisplay width_of (display_on new))
      (wide : old.width ≡ new.width) (tall : height old ≡ height new) where
    -- with its title
    abbrev pub titled : Display
    titled = effect width_of (display_on old) (Title new.title)

    pub titled_is : IsDisplay titled
    titled_is = effect_is width_of (display_on old) (Title new.title) g

    follows : Follows width_of titled.screen new
    follows = record { wide = sym wide; tall = sym tall; lawful = h.lawful; whole = h.whole; sound = sound }

    pub fresh_positions : HavePositions width_of titled.screen.width (height titled.screen) (screen_fresh old new)
    fresh_positions = led.cells_positions keeps positions shows width_of titled new narrow titled_is follows

    -- with its rows
    abbrev pub drawn : Display
    drawn = replay width_of titled (difference (screen_fresh old new))

    pub drawn_is : IsDisplay drawn
    drawn_is = led.drawn_is keeps positions shows width_of titled new narrow titled_is follows

    pub drawn_rows : drawn.screen.rows ≡ new.rows
    drawn_rows = led.drawn_rows keeps positions shows width_of titled new narrow titled_is follows

    pub drawn_wide : drawn.screen.width ≡ new.width
    drawn_wide = led.drawn_wide keeps positions shows width_of titled new narrow titled_is follows

    -- with its cursor and its pen
    abbrev placed : Display
    placed = led.placed keeps positions shows width_of titled new narrow titled_is follows

    patched_is : (effect width_of placed (CursorVisibility (visibility new.visible))).screen ≡ new
    patched_is =
        let rest = led.drawn_rest keeps positions shows width_of titled new narrow titled_is follows in
        λ i. record { width = drawn_wide i; rows = drawn_rows i; column = new.column; row = new.row; visible = seen new.visible i; pen = new.pen; title = rest.title i }

    pub patch_leads : replayed_on width_of old (patch_changes old new) ≡ new
    patch_leads =
        let changes : List ChangeValue = difference (screen_fresh old new) in
        let seen_last : List ChangeValue = CursorVisibility (visibility new.visible) ∷ [] in
        let position = led.position_is keeps positions shows width_of titled new narrow titled_is follows in
        ap (λ (d : Display). d.screen)
        (fold-append (effect width_of) titled (changes ++ position_and_pen new) seen_last
        ∙ ap (λ (d : Display). replay width_of d seen_last) (fold-append (effect width_of) titled changes (position_and_pen new) ∙ position))
        ∙ patched_is
