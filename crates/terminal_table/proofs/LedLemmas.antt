-- The changes of a difference of screens, replayed on the first, leave the second.
use Rattle.std.proofs.Common.{◌≡◌, ℕ, ◌<◌, Bool, true, false, List, [], ◌∷◌, ◌++◌, length, refl, sym, ap, subst, ◌∙◌, arith}
use Rattle.std.specs.Prelude.{All, ◌==◌, if◌then◌else◌}
use Rattle.std.proofs.lemmas.Bool.Decides.{nat_tests}
use Rattle.std.proofs.lemmas.List.Sums.{fold-append}
use Rattle.cell_base.specs.declared.attributes.Position.TheVariants.{Absolute}
use Rattle.cell_base.specs.Row.{Row, space}
use Rattle.cell_base.specs.Screen.{Screen, IsScreen, height}
use Rattle.cell_base.specs.WholeRow.{IsWhole}
use Rattle.screen_change.specs.ChangeValue.{ChangeValue, AllAttributes, CursorPosition, Title}
use Rattle.screen_change.proofs.TextLemmas.{by_test}
use Rattle.screen_difference.specs.Difference.{difference}
use Rattle.screen_difference.specs.DrawnCells.{HavePositions}
use Rattle.screen_difference.specs.FreshCells.{PlacedCell, region_fresh, screen_fresh}
use Rattle.screen_difference.specs.Redrawn.{KeepsRest}
use Rattle.screen_effects.specs.Display.{Display, IsDisplay}
use Rattle.screen_effects.specs.Effect.{cursor_row, effect, on_screen, replay}
use Rattle.screen_effects.proofs.EffectLaws.{effect_is, replay_is}
use Rattle.screen_effects.specs.WrittenCells.{IsSoundDisplay, IsSoundRow}
use Rattle.xterm_table.specs.Follows.{Follows}
use Rattle.terminal_table.specs.Changes.{changes}
use Rattle.terminal_table.specs.Functions.{ControlFunction}
use Rattle.terminal_table.specs.Led.{last_cell, led, led_behind, led_with_title, position_and_pen, sight_changes, written_again}
use Rattle.terminal_table.specs.State.{State, IsState}
use Rattle.terminal_table.specs.Steps.{step}
use Rattle.terminal_table.specs.Turns.{Turns}
use Rattle.terminal_table.proofs.PositionLemmas.{column_is, row_is, written_is}
use Rattle.terminal_table.proofs.TurnLemmas.{step_turns}

-- ---- premises: laws of differences

abbrev pub DifferencesKeepRest : Type 0
DifferencesKeepRest = (width_of : List ℕ → ℕ) (display : Display) (cells : List PlacedCell) → IsDisplay display → HavePositions width_of display.screen.width (height display.screen) cells
    → KeepsRest display (replay width_of display (difference cells))

abbrev pub RegionsHavePositions : Type 0
RegionsHavePositions = (width_of : List ℕ → ℕ) (screen : Screen) (x : ℕ) (y : ℕ) (width : ℕ) (rows : ℕ) (news : List Row) (other_x : ℕ) (other_y : ℕ) → width_of space ≡ 1 → IsScreen screen → All IsWhole news → All (IsSoundRow width_of) news
    → HavePositions width_of screen.width (height screen) (region_fresh screen.rows x y width rows news other_x other_y)

abbrev pub ScreensAreShown : Type 0
ScreensAreShown = (width_of : List ℕ → ℕ) (display : Display) (new : Screen) → width_of space ≡ 1 → IsDisplay display → IsScreen new → new.width ≡ display.screen.width → height new ≡ height display.screen
    → All IsWhole new.rows → All (IsSoundRow width_of) new.rows → (replay width_of display (difference (screen_fresh display.screen new))).screen.rows ≡ new.rows

is_number : (m n : ℕ) → (m == n) ≡ true → m ≡ n
is_number m n e = grind (arith, nat_tests)

seen_is : (width_of : List ℕ → ℕ) (b v : Bool) (s : Display) → s.screen.visible ≡ b → replay width_of s (sight_changes b v) ≡ on_screen (λ t. record t { visible = v }) s
seen_is width_of true true s e = λ i. on_screen (λ t. record t { visible = e i }) s
seen_is width_of false false s e = λ i. on_screen (λ t. record t { visible = e i }) s
seen_is width_of true false s e = refl
seen_is width_of false true s e = refl

module _ (keeps : DifferencesKeepRest) (positions : RegionsHavePositions) (shows : ScreensAreShown) where
  module _ (width_of : List ℕ → ℕ) (d : Display) (new : Screen) (narrow : width_of space ≡ 1) (g : IsDisplay d) (f : Follows width_of d.screen new) where
    abbrev pub cells : List PlacedCell
    cells = screen_fresh d.screen new

    -- with the new rows
    abbrev pub drawn : Display
    drawn = replay width_of d (difference cells)

    pub cells_positions : HavePositions width_of d.screen.width (height d.screen) cells
    cells_positions = positions width_of d.screen 0 0 d.screen.width (height d.screen) new.rows 0 0 narrow g.lawful f.whole f.sound

    pub drawn_is : IsDisplay drawn
    drawn_is = replay_is width_of (difference cells) d g

    pub drawn_rows : drawn.screen.rows ≡ new.rows
    drawn_rows = shows width_of d new narrow g f.lawful f.wide f.tall f.whole f.sound

    pub drawn_rest : KeepsRest d drawn
    drawn_rest = keeps width_of d cells g cells_positions

    pub drawn_wide : drawn.screen.width ≡ new.width
    drawn_wide = drawn_rest.width ∙ sym f.wide

    drawn_sound : IsSoundDisplay width_of drawn
    drawn_sound = subst (λ (rows : List Row). All (IsSoundRow width_of) rows) (sym drawn_rows) f.sound

    -- with its cursor and its pen
    abbrev pub placed : Display
    placed = on_screen (λ t. record t { column = new.column; row = new.row; pen = new.pen }) drawn

    abbrev again : List ChangeValue
    again = written_again new (last_cell (cursor_row new))

    abbrev moves : List ChangeValue
    moves = CursorPosition (Absolute new.column) (Absolute new.row) ∷ AllAttributes new.pen ∷ []

    position_there : (new.column == new.width) ≡ true → replay width_of drawn (position_and_pen new) ≡ placed
    position_there e =
        let column : drawn.screen.width ≡ new.column = drawn_wide ∙ sym (is_number new.column new.width e) in
        ap (λ b. replay width_of drawn (if b then again else moves)) e
        ∙ written_is width_of new drawn drawn_is drawn_sound drawn_rows f.lawful.row_in
        ∙ (λ i. on_screen (λ t. record t { column = column i; row = new.row; pen = new.pen }) drawn)

    position_here : (new.column == new.width) ≡ false → replay width_of drawn (position_and_pen new) ≡ placed
    position_here e =
        let in_columns = f.lawful.column_in in
        let width = drawn_wide in
        let before : new.column < drawn.screen.width = grind (arith, nat_tests) in
        let in_rows : new.row < length drawn.screen.rows = subst (λ (rows : List Row). new.row < length rows) (sym drawn_rows) f.lawful.row_in in
        ap (λ b. replay width_of drawn (if b then again else moves)) e
        ∙ (λ i. on_screen (λ t. record t { column = column_is drawn.screen.width drawn.screen.column new.column before i; row = row_is (length drawn.screen.rows) drawn.screen.row new.row in_rows i; pen = new.pen }) drawn)

    pub position_is : replay width_of drawn (position_and_pen new) ≡ placed
    position_is = by_test (new.column == new.width) (λ e. position_there e) (λ e. position_here e)

    pub led_leads : new.title ≡ d.screen.title → replay width_of d (led d.screen new) ≡ record d { screen = new }
    led_leads title =
        let sight : List ChangeValue = sight_changes d.screen.visible new.visible in
        let kept : drawn.screen.title ≡ new.title = drawn_rest.title ∙ sym title in
        fold-append (effect width_of) d (difference cells ++ position_and_pen new) sight
        ∙ ap (λ (e : Display). replay width_of e sight) (fold-append (effect width_of) d (difference cells) (position_and_pen new) ∙ position_is)
        ∙ seen_is width_of d.screen.visible new.visible placed drawn_rest.visible
        ∙ (λ i. record { screen = record { width = drawn_wide i; rows = drawn_rows i; column = new.column; row = new.row; visible = new.visible; pen = new.pen; title = kept i }; sizes = drawn_rest.sizes i; shape = drawn_rest.shape i })

  -- with the title first
  pub led_leads_with_title : (width_of : List ℕ → ℕ) (d : Display) (new : Screen) → width_of space ≡ 1 → IsDisplay d → Follows width_of d.screen new
      → replay width_of d (led_with_title d.screen new) ≡ record d { screen = new }
  led_leads_with_title width_of d new narrow g f =
      led_leads width_of (effect width_of d (Title new.title)) new narrow (effect_is width_of d (Title new.title) g)
      (record { wide = f.wide; tall = f.tall; lawful = f.lawful; whole = f.whole; sound = f.sound }) refl

  -- ---- behind a control function

  pub behind_leads : (width_of : List ℕ → ℕ) (function : ControlFunction) (state : State) (d : Display) (new : Screen) → IsState width_of state → IsDisplay d → d.screen ≡ state.screen
      → Follows width_of (step function state).screen new → new.title ≡ (step function state).screen.title
      → Turns d (replay width_of d (led_behind function state.saved state.screen new)) new
  behind_leads width_of function state d new p g same f title =
      let first : List ChangeValue = changes function state.saved state.screen in
      let middle : Display = replay width_of d first in
      let next : Screen = (step function state).screen in
      let turned : Turns d middle next = step_turns width_of function state d p g same in
      let is : middle.screen ≡ next = turned.screen in
      let last : replay width_of middle (led middle.screen new) ≡ record middle { screen = new } =
      led_leads width_of middle new p.narrow (replay_is width_of first d g) (subst (λ (s : Screen). Follows width_of s new) (sym is) f) (title ∙ sym (ap (λ (s : Screen). s.title) is)) in
      let all : replay width_of d (led_behind function state.saved state.screen new) ≡ record middle { screen = new } =
      fold-append (effect width_of) d first (led next new) ∙ ap (λ (s : Screen). replay width_of middle (led s new)) (sym is) ∙ last in
      subst (λ (e : Display). Turns d e new) (sym all) (record { screen = refl; shape = turned.shape; sizes = turned.sizes })
