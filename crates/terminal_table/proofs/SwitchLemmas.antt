-- What the functions of the two screens leave: screens of the same size, lawful both of them; and what is logged leads to
-- the one that is shown.
use Rattle.std.proofs.Common.{◌≡◌, ℕ, ◌-◌, ◌<◌, ◌≤◌, Bool, true, false, List, [], ◌∷◌, length, map, replicate, refl, sym, ap, subst, ◌∙◌, arith}
use Rattle.std.specs.Prelude.{All, ◌==◌, ◌&&◌, min, nat_lt, Option, Some, None, option_map, if◌then◌else◌}
use Rattle.cell_base.specs.Attributes.{plain}
use Rattle.cell_base.specs.Row.{Row, space}
use Rattle.cell_base.specs.Screen.{Screen, IsScreen, height}
use Rattle.cell_base.specs.WholeRow.{IsWhole}
use Rattle.screen_effects.specs.Display.{Display, IsDisplay}
use Rattle.screen_effects.specs.Effect.{blank_row, replay}
use Rattle.screen_effects.specs.WrittenCells.{IsSoundRow}
use Rattle.xterm_table.specs.Follows.{Follows}
use Rattle.terminal_table.specs.Functions.{EraseDisplay}
use Rattle.terminal_table.specs.Led.{led}
use Rattle.terminal_table.specs.Modes.{Modes, Region, other_rows, other_screen, region_on, region_within}
use Rattle.terminal_table.specs.Screens.{ScreenFunction, SaveCursor, RestoreCursor, ShowOther, ClearAndShowOther, SaveAndClear, SaveAndShowCleared, ShowAndRestore, SoftReset, PushTitle, PopTitle, Screens, cleared, cursor_restored, cursor_saved, modes_or_initial, other_shown, restored_column, restored_row, screens_after, screens_changes, screens_of, soft_reset, title_changes, title_popped, title_pushed, with_screens}
use Rattle.terminal_table.specs.RunText.{IsRunText}
use Rattle.terminal_table.specs.State.{CanBeShown, HasLast, State, IsState}
use Rattle.terminal_table.specs.Steps.{cursor_to_restore, display_erased}
use Rattle.terminal_table.specs.Turns.{Turns}
use Rattle.terminal_table.proofs.ListLemmas.{map_same}
use Rattle.terminal_table.proofs.RunLemmas.{no_text}
use Rattle.terminal_table.proofs.ScreenLemmas.{can_still, plain_follows, some_follow}
use Rattle.terminal_table.proofs.StateLemmas.{step_is, step_size}
use Rattle.terminal_table.proofs.TurnLemmas.{screen_turns, step_turns}
use Rattle.terminal_table.proofs.XtermLemmas.{led_turns}

-- screens of the size of a screen, lawful both of them
pub record Leads (width_of : List ℕ → ℕ) (before : Screen) (at : Screens) : Type 0 where
  pub narrow : width_of space ≡ 1
  pub wide : at.screen.width ≡ before.width
  pub tall : height at.screen ≡ height before
  pub lawful : IsScreen at.screen
  pub whole : All IsWhole at.screen.rows
  pub sound : All (IsSoundRow width_of) at.screen.rows
  pub other : Follows width_of at.screen (other_screen at.screen at.modes.other.rows)
  pub last : IsRunText at.modes.last

module _ (width_of : List ℕ → ℕ) (before : Screen) where
  some_rows : (s : Screen) → IsScreen s → 0 < height s
  some_rows s h = let inside = h.row_in in omega (arith, inside)

  saved_leads : (at : Screens) → Leads width_of before at → Leads width_of before (cursor_saved at)
  saved_leads at h = record { narrow = h.narrow; wide = h.wide; tall = h.tall; lawful = h.lawful; whole = h.whole; sound = h.sound; other = h.other; last = h.last }

  -- a screen with other rows, and the cursor elsewhere
  replaced : (s : Screen) (rows : List Row) (column : ℕ) → 0 < s.width → length rows ≡ height s → All (λ row. length row ≡ s.width) rows → column ≤ s.width → s.row < height s → IsScreen (record s { rows = rows; column = column })
  replaced s rows column w tall even c r = record { wide_enough = w; even = even; column_in = c; row_in = omega (arith, tall, r) }

  shown_leads : (at : Screens) → Leads width_of before at → Leads width_of before (other_shown at)
  shown_leads at h =
      let s = at.screen in
      let new : Screen = (other_shown at).screen in
      let inside = h.lawful.row_in in
      let tall = h.other.tall in
      let lawful : IsScreen new = replaced s (other_rows s at.modes.other.rows) s.column h.lawful.wide_enough tall h.other.lawful.even h.lawful.column_in inside in
      record {
        narrow = h.narrow;
        wide = h.wide;
        tall = tall ∙ h.tall;
        lawful = lawful;
        whole = h.other.whole;
        sound = h.other.sound;
        other = some_follow width_of new s.rows lawful (sym tall) h.lawful.even h.whole h.sound;
        last = h.last;
      }

  -- the region is one of the screen
  region_in : (tall : ℕ) (region : Option Region) → 0 < tall → let r = region_within tall region in (r.top ≤ r.bottom) × (r.bottom < tall)
  region_in tall None some = (omega arith, omega (arith, some))
  region_in tall (Some region) some = (omega arith, omega (arith, some))

  row_within : (origin : Bool) (r : Region) (tall row : ℕ) → 0 < tall → r.top ≤ r.bottom → r.bottom < tall → restored_row origin r tall row < tall
  row_within true r tall row some order within = by_test (nat_lt row r.top)
    where
      by_test : (b : Bool) → (if b then r.top else min row r.bottom) < tall
      by_test true = omega (arith, order, within)
      by_test false = omega (arith, within)
  row_within false r tall row some order within = omega (arith, some)

  column_within : (pending : Bool) (width column : ℕ) → restored_column pending width column ≤ width
  column_within pending width column = by_test (pending && min column (width - 1) == width - 1)
    where
      by_test : (b : Bool) → (if b then width else min column (width - 1)) ≤ width
      by_test true = omega arith
      by_test false = omega arith

  restored_leads : (at : Screens) → Leads width_of before at → Leads width_of before (cursor_restored at)
  restored_leads at h =
      let s = at.screen in
      let some = some_rows s h.lawful in
      let cursor = cursor_to_restore at.saved in
      let kept = at.modes.with_cursor in
      let region = region_in (height s) at.modes.region some in
      record {
        narrow = h.narrow;
        wide = h.wide;
        tall = h.tall;
        lawful = record {
          wide_enough = h.lawful.wide_enough;
          even = h.lawful.even;
          column_in = column_within kept.pending s.width cursor.column;
          row_in = row_within kept.origin (region_on at.modes s) (height s) cursor.row some region.0 region.1;
        };
        whole = h.whole;
        sound = h.sound;
        other = can_still width_of s (cursor_restored at).screen at.modes.other.rows refl refl some h.other;
        last = h.last;
      }

  -- a plain state of the screen that is shown
  abbrev pub shown_state : Screens → State
  shown_state at = record { screen = at.screen; saved = at.saved; replies = []; modes = None }

  pub shown_is : (at : Screens) → Leads width_of before at → IsState width_of (shown_state at)
  shown_is at h = record { lawful = h.lawful; whole = h.whole; narrow = h.narrow; sound = h.sound; other = tt; last = tt }

  cleared_leads : (at : Screens) → Leads width_of before at → Leads width_of before (cleared at)
  cleared_leads at h =
      let is = step_is width_of EraseDisplay (shown_state at) (shown_is at h) in
      let size = step_size width_of EraseDisplay (shown_state at) (shown_is at h) in
      record {
        narrow = h.narrow;
        wide = h.wide;
        tall = size.tall ∙ h.tall;
        lawful = is.lawful;
        whole = is.whole;
        sound = is.sound;
        other = can_still width_of at.screen (cleared at).screen at.modes.other.rows refl size.tall (some_rows (cleared at).screen is.lawful) h.other;
        last = h.last;
      }

  -- a screen that differs in its pen, its title or its cursor's visibility alone
  same_leads : (at next : Screens) → Leads width_of before at → IsScreen next.screen → next.screen.width ≡ at.screen.width → next.screen.rows ≡ at.screen.rows → next.modes.other.rows ≡ at.modes.other.rows → next.modes.last ≡ at.modes.last → Leads width_of before next
  same_leads at next h lawful wide rows others last =
      let tall : height next.screen ≡ height at.screen = ap (λ (rs : List Row). length rs) rows in
      record {
        narrow = h.narrow;
        wide = wide ∙ h.wide;
        tall = tall ∙ h.tall;
        lawful = lawful;
        whole = subst (All IsWhole) (sym rows) h.whole;
        sound = subst (All (IsSoundRow width_of)) (sym rows) h.sound;
        other = subst (λ (rs : List Row). Follows width_of next.screen (other_screen next.screen rs)) (sym others)
            (can_still width_of at.screen next.screen at.modes.other.rows wide tall (some_rows next.screen lawful) h.other);
        last = subst IsRunText (sym last) h.last;
      }

  reset_leads : (at : Screens) → Leads width_of before at → Leads width_of before (soft_reset at)
  reset_leads at h =
      same_leads at (soft_reset at) h (record { wide_enough = h.lawful.wide_enough; even = h.lawful.even; column_in = h.lawful.column_in; row_in = h.lawful.row_in }) refl refl refl refl

  popped_leads : (titles : List (List ℕ)) (at : Screens) → Leads width_of before at → Leads width_of before (title_popped titles at)
  popped_leads [] at h = h
  popped_leads (title ∷ titles) at h =
      same_leads at (title_popped (title ∷ titles) at) h (record { wide_enough = h.lawful.wide_enough; even = h.lawful.even; column_in = h.lawful.column_in; row_in = h.lawful.row_in }) refl refl refl refl

  pub all_lead : (function : ScreenFunction) (at : Screens) → Leads width_of before at → Leads width_of before (screens_after function at)
  all_lead SaveCursor at h = saved_leads at h
  all_lead RestoreCursor at h = restored_leads at h
  all_lead ShowOther at h = shown_leads at h
  all_lead ClearAndShowOther at h = shown_leads (cleared at) (cleared_leads at h)
  all_lead SaveAndClear at h = cleared_leads (cursor_saved at) (saved_leads at h)
  all_lead SaveAndShowCleared at h = cleared_leads (other_shown (cursor_saved at)) (shown_leads (cursor_saved at) (saved_leads at h))
  all_lead ShowAndRestore at h = restored_leads (other_shown at) (shown_leads at h)
  all_lead SoftReset at h = reset_leads at h
  all_lead PushTitle at h = same_leads at (title_pushed at) h h.lawful refl refl refl refl
  all_lead PopTitle at h = popped_leads at.modes.titles at h

-- ---- what is logged

-- rows that are erased don't matter
pub erased_same : (s : Screen) (rows : List Row) → length rows ≡ height s → display_erased (record s { rows = rows }) ≡ display_erased s
erased_same s rows e =
    let blank : Row = blank_row s.width s.pen.background in
    let same : map (λ _. blank) rows ≡ map (λ _. blank) s.rows = map_same blank rows ∙ ap (λ n. replicate n blank) e ∙ sym (map_same blank s.rows) in
    λ i. record (display_erased s) { rows = same i }

pub screens_follow : (width_of : List ℕ → ℕ) (function : ScreenFunction) (at : Screens) → Leads width_of at.screen at → Follows width_of at.screen (screens_after function at).screen
screens_follow width_of function at h =
    let after = all_lead width_of at.screen function at h in
    record { wide = after.wide; tall = after.tall; lawful = after.lawful; whole = after.whole; sound = after.sound }

-- what leads to the screen
module _ (width_of : List ℕ → ℕ) (at : Screens) (d : Display) (h : Leads width_of at.screen at) (g : IsDisplay d) (e : d.screen ≡ at.screen) where
  led_there : (function : ScreenFunction) → let new = (screens_after function at).screen in new.title ≡ at.screen.title → Turns d (replay width_of d (led at.screen new)) new
  led_there function title =
      let new : Screen = (screens_after function at).screen in
      subst (λ (s : Screen). Turns d (replay width_of d (led s new)) new) e
      (led_turns width_of d new h.narrow g (subst (λ (s : Screen). Follows width_of s new) (sym e) (screens_follow width_of function at h)) (title ∙ sym (ap (λ (s : Screen). s.title) e)))

  erased_turns : Turns d (replay width_of d (screens_changes SaveAndClear at)) (display_erased at.screen)
  erased_turns = step_turns width_of EraseDisplay (shown_state width_of at.screen at) d (shown_is width_of at.screen at h) g e

  pub screens_turn : (function : ScreenFunction) → Turns d (replay width_of d (screens_changes function at)) (screens_after function at).screen
  screens_turn SaveCursor = screen_turns d d.screen at.screen e
  screens_turn RestoreCursor = led_there RestoreCursor refl
  screens_turn ShowOther = led_there ShowOther refl
  screens_turn ClearAndShowOther = led_there ClearAndShowOther refl
  screens_turn SaveAndClear = erased_turns
  screens_turn SaveAndShowCleared =
      subst (λ (s : Screen). Turns d (replay width_of d (screens_changes SaveAndShowCleared at)) s)
      (sym (erased_same at.screen (other_rows at.screen at.modes.other.rows) h.other.tall)) erased_turns
  screens_turn ShowAndRestore = led_there ShowAndRestore refl
  screens_turn SoftReset = record { screen = ap (λ (s : Screen). record s { pen = plain; visible = true }) e; shape = refl; sizes = λ x. x }
  screens_turn PushTitle = screen_turns d d.screen at.screen e
  screens_turn PopTitle = by_titles at.modes.titles
    where
      by_titles : (titles : List (List ℕ)) → Turns d (replay width_of d (title_changes titles)) (title_popped titles at).screen
      by_titles [] = screen_turns d d.screen at.screen e
      by_titles (title ∷ titles) = record { screen = ap (λ (s : Screen). record s { title = title }) e; shape = refl; sizes = λ x. x }

-- ---- states

pub state_leads : (width_of : List ℕ → ℕ) (state : State) → IsState width_of state → Leads width_of state.screen (screens_of state)
state_leads width_of state h = record {
  narrow = h.narrow;
  wide = refl;
  tall = refl;
  lawful = h.lawful;
  whole = h.whole;
  sound = h.sound;
  other = by_modes state.modes h.other;
  last = last_of state.modes h.last;
}
  where
    last_of : (modes : Option Modes) → HasLast modes → IsRunText (modes_or_initial modes).last
    last_of None l = no_text
    last_of (Some modes) l = l

    by_modes : (modes : Option Modes) → CanBeShown width_of state.screen modes → Follows width_of state.screen (other_screen state.screen (modes_or_initial modes).other.rows)
    by_modes None f = plain_follows width_of state.screen h.narrow h.lawful
    by_modes (Some modes) f = f

pub switched_is : (width_of : List ℕ → ℕ) (function : ScreenFunction) (state : State) → IsState width_of state → IsState width_of (with_screens (screens_after function (screens_of state)) state)
switched_is width_of function state h =
    let after = all_lead width_of state.screen function (screens_of state) (state_leads width_of state h) in
    record { lawful = after.lawful; whole = after.whole; narrow = h.narrow; sound = after.sound; other = by_modes (screens_after function (screens_of state)) state.modes after.other; last = last_of (screens_after function (screens_of state)) state.modes after.last }
  where
    last_of : (next : Screens) (modes : Option Modes) → IsRunText next.modes.last → HasLast (option_map (λ _. next.modes) modes)
    last_of next None l = tt
    last_of next (Some modes) l = l

    by_modes : (next : Screens) (modes : Option Modes) → Follows width_of next.screen (other_screen next.screen next.modes.other.rows) → CanBeShown width_of next.screen (option_map (λ _. next.modes) modes)
    by_modes next None f = tt
    by_modes next (Some modes) f = f

pub switched_turns : (width_of : List ℕ → ℕ) (function : ScreenFunction) (state : State) (d : Display) → IsState width_of state → IsDisplay d → d.screen ≡ state.screen
    → Turns d (replay width_of d (screens_changes function (screens_of state))) (screens_after function (screens_of state)).screen
switched_turns width_of function state d h g e = screens_turn width_of (screens_of state) d (state_leads width_of state h) g e function
