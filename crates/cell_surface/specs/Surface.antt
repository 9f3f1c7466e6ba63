-- A surface: a grid, the log of its changes, and whether a call was refused memory.
use Rattle.std.specs.Prelude.{◌≡◌, ℕ, ◌+◌, Bool, false, List, Option, Some, None, length, map, fold}
use Rattle.std.specs.Cow.{cow_slice_items, IsOwnedSlice}
use Rattle.std.specs.declared.borrow.CowSlice.{CowSlice}
use Rattle.screen_change.specs.declared.change.Change.{Change}
use Rattle.screen_change.specs.ValueOf.{value_of}
use Rattle.screen_change.specs.ChangeValue.{ChangeValue}
use Rattle.screen_log.specs.Log.{most_due}
use Rattle.screen_log.specs.LogSteps.{Logged, Resized, Sized, step_of_kept}
use Rattle.screen_grid.specs.Grid.{Grid, IsDrawn, display_of}
use Rattle.screen_effects.specs.Display.{Display}
use Rattle.screen_effects.specs.WrittenCells.{IsSoundDisplay}
use Rattle.screen_effects.specs.Effect.{effect, replay}
use Rattle.screen_effects.specs.Resize.{resized}

pub record Surface (W : Type 0) : Type 0 where
  pub grid : Grid W
  pub log : Sized
  pub is_failed : Bool

-- the display that it shows
abbrev pub shown_by : {W : Type 0} → Surface W → Display
shown_by s = display_of s.grid

-- the number of changes so far
abbrev pub number_of : {W : Type 0} → Surface W → ℕ
number_of s = s.log.log.number

-- while it hasn't failed it is well drawn, each cell has a text that is by itself one cluster, without controls, and
-- its log keeps as many changes as may be due
pub record IsSound {W : Type 0} (width_of : List ℕ → ℕ) (surface : Surface W) : Type 0 where
  pub drawn : surface.is_failed ≡ false → IsDrawn surface.grid
  pub cells : surface.is_failed ≡ false → IsSoundDisplay width_of (display_of surface.grid)
  pub most : surface.is_failed ≡ false → surface.log.most ≡ most_due surface.grid.width (length surface.grid.lines)

-- a change has had its effect, and was logged
pub record Adds {W : Type 0} (width_of : List ℕ → ℕ) (before after : Surface W) (change : ChangeValue) : Type 0 where
  pub shown : shown_by after ≡ effect width_of (shown_by before) change
  pub widths : after.grid.widths ≡ before.grid.widths
  pub log : after.log ≡ step_of_kept before.log (Logged change)
  pub stays : after.is_failed ≡ false

-- changes are logged in turn
abbrev pub all_logged : Sized → List ChangeValue → Sized
all_logged log changes = fold (λ l change. step_of_kept l (Logged change)) log changes

-- changes have had their effects in turn, and were logged
pub record AddsAll {W : Type 0} (width_of : List ℕ → ℕ) (before after : Surface W) (changes : List ChangeValue) : Type 0
  where
    pub shown : shown_by after ≡ replay width_of (shown_by before) changes
    pub widths : after.grid.widths ≡ before.grid.widths
    pub log : after.log ≡ all_logged before.log changes
    pub stays : after.is_failed ≡ false

-- the surface was resized
pub record Resizes {W : Type 0} (width height : ℕ) (before after : Surface W) : Type 0 where
  pub shown : shown_by after ≡ resized width height (shown_by before)
  pub widths : after.grid.widths ≡ before.grid.widths
  pub log : after.log ≡ step_of_kept before.log (Resized (most_due width height))
  pub stays : after.is_failed ≡ false

-- due changes are borrowed; where there are none (`None`), the changes of a repaint are owned
abbrev pub Answers : {Z : Type 0} → Option (List ChangeValue) → List ChangeValue → CowSlice Change Z → Type 0
Answers (Some changes) painted answer = (map value_of (cow_slice_items answer) ≡ changes) × (IsOwnedSlice answer → ⊥)
Answers None painted answer = (map value_of (cow_slice_items answer) ≡ painted) × IsOwnedSlice answer

-- some changes were added: on the surface after them `left` has the same effect as `all` before
pub record AddsOn {W : Type 0} (width_of : List ℕ → ℕ) (before now : Surface W) (all left : List ChangeValue) : Type 0
  where
    pub shown : replay width_of (shown_by now) left ≡ replay width_of (shown_by before) all
    pub widths : now.grid.widths ≡ before.grid.widths
    pub log : all_logged now.log left ≡ all_logged before.log all
    pub count : number_of now + length left ≡ number_of before + length all
    pub stays : now.is_failed ≡ false
