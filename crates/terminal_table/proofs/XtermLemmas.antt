-- The functions that only xterm has leave lawful screens, and what is logged for them leads there.
use Rattle.std.proofs.Common.{◌≡◌, ℕ, ◌+◌, ◌-◌, Bool, true, false, List, refl, sym, subst, ◌∙◌, arith}
use Rattle.std.specs.Prelude.{◌==◌, min, if◌then◌else◌}
use Rattle.cell_base.specs.Row.{Column, Row, space}
use Rattle.cell_base.specs.Screen.{Screen, height}
use Rattle.screen_difference.proofs.RegionLemmas.{rest_stay, region_positions, screen_is_shown}
use Rattle.screen_difference.proofs.SpaceLemmas.{sound_space}
use Rattle.screen_effects.specs.Display.{Display, IsDisplay}
use Rattle.screen_effects.specs.Effect.{replay}
use Rattle.xterm_table.specs.Follows.{Follows}
use Rattle.xterm_table.proofs.ColumnLemmas.{IsKept, IsSoundColumn, sound_kept}
use Rattle.xterm_table.proofs.FollowLemmas.{FollowsWith, characters_deleted_follows, characters_erased_follows, characters_inserted_follows, display_end_erased_follows, display_start_erased_follows, down_follows, follows_with, line_end_erased_follows, line_fed_follows, line_start_erased_follows, lines_deleted_follows, lines_inserted_follows, next_line_follows, reverse_line_fed_follows, up_follows, with_follows}
use Rattle.xterm_table.specs.Displays.{display_end_erased, display_start_erased}
use Rattle.xterm_table.specs.RowEdits.{active_column, characters_deleted, characters_erased, characters_inserted, line_end_erased, line_start_erased}
use Rattle.xterm_table.specs.RowMoves.{in_column, next_row, row_before, scrolled_down, scrolled_up}
use Rattle.terminal_table.specs.Led.{led}
use Rattle.terminal_table.specs.State.{State, IsState}
use Rattle.terminal_table.specs.Turns.{Turns}
use Rattle.terminal_table.specs.Xterm.{XtermFunction, EraseCharacters, InsertCharacters, DeleteCharacters, EraseToEndOfLine, EraseToStartOfLine, EraseToEndOfDisplay, EraseToStartOfDisplay, LineFeed, NextLine, ReverseIndex, ScrollUp, ScrollDown, InsertLines, DeleteLines, xterm_screen}
use Rattle.terminal_table.proofs.LedLemmas.{led_leads}
use Rattle.terminal_table.proofs.ScreenLemmas.{modes_still}

-- ---- what each function keeps

-- a property of columns
pub function_follows : (P : Column → Type 0) → IsKept P → (before : Screen) (function : XtermFunction) (s : Screen) → FollowsWith P before s → FollowsWith P before (xterm_screen function s)
function_follows P kept before (EraseCharacters n) s f = characters_erased_follows P kept before s n f
function_follows P kept before (InsertCharacters n) s f = characters_inserted_follows P kept before s n f
function_follows P kept before (DeleteCharacters n) s f = characters_deleted_follows P kept before s n f
function_follows P kept before EraseToEndOfLine s f = line_end_erased_follows P kept before s f
function_follows P kept before EraseToStartOfLine s f = line_start_erased_follows P kept before s f
function_follows P kept before EraseToEndOfDisplay s f = display_end_erased_follows P kept before s f
function_follows P kept before EraseToStartOfDisplay s f = display_start_erased_follows P kept before s f
function_follows P kept before (LineFeed r) s f = line_fed_follows P kept before s r.top r.bottom f
function_follows P kept before (NextLine r) s f = next_line_follows P kept before s r.top r.bottom f
function_follows P kept before (ReverseIndex r) s f = reverse_line_fed_follows P kept before s r.top r.bottom f
function_follows P kept before (ScrollUp r n) s f = up_follows P kept before s r.top (r.bottom + 1 - r.top) n f
function_follows P kept before (ScrollDown r n) s f = down_follows P kept before s r.top (r.bottom + 1 - r.top) n f
function_follows P kept before (InsertLines r n) s f = lines_inserted_follows P kept before s r.bottom n f
function_follows P kept before (DeleteLines r n) s f = lines_deleted_follows P kept before s r.bottom n f

-- of two screens either has a part
either : {A : Type 0} (part : Screen → A) (b : Bool) (x y : Screen) (a : A) → part x ≡ a → part y ≡ a → part (if b then x else y) ≡ a
either part true x y a h k = h
either part false x y a h k = k

-- a part of screens that no row and no place is
module _ {A : Type 0} (part : Screen → A) (stays : (s : Screen) (rows : List Row) (column row : ℕ) → part (record s { rows = rows; column = column; row = row }) ≡ part s) where
  below_stays : (top bottom : ℕ) (s : Screen) → part (next_row top bottom s) ≡ part s
  below_stays top bottom s =
      let next : Screen = record s { row = min (s.row + 1) (height s - 1) } in
      either part (s.row == bottom) (scrolled_up top bottom 1 s) next (part s) (stays s (scrolled_up top bottom 1 s).rows s.column s.row) (stays s s.rows s.column next.row)

  above_stays : (top bottom : ℕ) (s : Screen) → part (row_before top bottom s) ≡ part s
  above_stays top bottom s =
      let next : Screen = record s { row = s.row - 1 } in
      either part (s.row == top) (scrolled_down top bottom 1 s) next (part s) (stays s (scrolled_down top bottom 1 s).rows s.column s.row) (stays s s.rows s.column next.row)

  part_stays : (function : XtermFunction) (s : Screen) → part (xterm_screen function s) ≡ part s
  part_stays (EraseCharacters n) s = stays s (characters_erased n s).rows (active_column s) s.row
  part_stays (InsertCharacters n) s = stays s (characters_inserted n s).rows (active_column s) s.row
  part_stays (DeleteCharacters n) s = stays s (characters_deleted n s).rows (active_column s) s.row
  part_stays EraseToEndOfLine s = stays s (line_end_erased s).rows (active_column s) s.row
  part_stays EraseToStartOfLine s = stays s (line_start_erased s).rows (active_column s) s.row
  part_stays EraseToEndOfDisplay s = stays s (display_end_erased s).rows (active_column s) s.row
  part_stays EraseToStartOfDisplay s = stays s (display_start_erased s).rows (active_column s) s.row
  part_stays (LineFeed r) s = below_stays r.top r.bottom (in_column (active_column s) s) ∙ stays s s.rows (active_column s) s.row
  part_stays (NextLine r) s = below_stays r.top r.bottom (in_column 0 s) ∙ stays s s.rows 0 s.row
  part_stays (ReverseIndex r) s = above_stays r.top r.bottom (in_column (active_column s) s) ∙ stays s s.rows (active_column s) s.row
  part_stays (ScrollUp r n) s = stays s (scrolled_up r.top r.bottom n s).rows s.column s.row
  part_stays (ScrollDown r n) s = stays s (scrolled_down r.top r.bottom n s).rows s.column s.row
  part_stays (InsertLines r n) s = stays s (scrolled_down s.row r.bottom n s).rows 0 s.row
  part_stays (DeleteLines r n) s = stays s (scrolled_up s.row r.bottom n s).rows 0 s.row

pub title_stays : (function : XtermFunction) (s : Screen) → (xterm_screen function s).title ≡ s.title
title_stays = part_stays (λ (s : Screen). s.title) (λ s rows column row. refl)

pub pen_stays : (function : XtermFunction) (s : Screen) → (xterm_screen function s).pen ≡ s.pen
pen_stays = part_stays (λ (s : Screen). s.pen) (λ s rows column row. refl)

-- ---- states

pub xterm_follows : (width_of : List ℕ → ℕ) (function : XtermFunction) (state : State) → IsState width_of state → Follows width_of state.screen (xterm_screen function state.screen)
xterm_follows width_of function state h =
    let s : Screen = state.screen in
    with_follows width_of s (xterm_screen function s)
    (function_follows (IsSoundColumn width_of) (sound_kept width_of h.narrow) s function s
    (follows_with width_of s s h.narrow (record { wide = refl; tall = refl; lawful = h.lawful; whole = h.whole; sound = h.sound })))

pub xterm_is : (width_of : List ℕ → ℕ) (function : XtermFunction) (state : State) → IsState width_of state → IsState width_of (record state { screen = xterm_screen function state.screen })
xterm_is width_of function state h =
    let f = xterm_follows width_of function state h in
    let inside = h.lawful.row_in in
    let tall = f.tall in
    record {
      lawful = f.lawful;
      whole = f.whole;
      narrow = h.narrow;
      sound = f.sound;
      other = modes_still width_of state.screen (xterm_screen function state.screen) state.modes f.wide tall (omega (arith, inside, tall)) h.other;
      last = h.last;
    }

-- ---- what is logged

-- what leads to a screen that follows turns a display into one of that screen
pub led_turns : (width_of : List ℕ → ℕ) (d : Display) (new : Screen) → width_of space ≡ 1 → IsDisplay d → Follows width_of d.screen new → new.title ≡ d.screen.title → Turns d (replay width_of d (led d.screen new)) new
led_turns width_of d new narrow g f title =
    let leads : replay width_of d (led d.screen new) ≡ record d { screen = new } =
    led_leads rest_stay (λ width_of s x y width rows news other_x other_y e. region_positions width_of s x y width rows news other_x other_y (sound_space width_of e))
    (λ width_of d new e. screen_is_shown width_of d new (sound_space width_of e)) width_of d new narrow g f title in
    subst (λ (e : Display). Turns d e new) (sym leads) (record { screen = refl; shape = refl; sizes = λ h. h })

pub xterm_turns : (width_of : List ℕ → ℕ) (function : XtermFunction) (state : State) (d : Display) → IsState width_of state → IsDisplay d → d.screen ≡ state.screen
    → Turns d (replay width_of d (led state.screen (xterm_screen function state.screen))) (xterm_screen function state.screen)
xterm_turns width_of function state d h g e =
    subst (λ (s : Screen). Turns d (replay width_of d (led s (xterm_screen function s))) (xterm_screen function s)) e
    (led_turns width_of d (xterm_screen function d.screen) h.narrow g
    (subst (λ (s : Screen). Follows width_of s (xterm_screen function s)) (sym e) (xterm_follows width_of function state h)) (title_stays function d.screen))
