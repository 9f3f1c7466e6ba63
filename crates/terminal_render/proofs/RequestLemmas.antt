-- Steps, other modes and the functions of the two screens leave states whose parts have an encoding, and so have the
-- changes that are logged for them. What was asked for leaves the screen's size.
use Rattle.std.proofs.Common.{ℕ, ◌<◌, List, [], ◌∷◌, replicate, refl, sym, subst, arith}
use Rattle.std.specs.Prelude.{All, Option, Some, None, option_map}
use Rattle.std.proofs.lemmas.List.{length-replicate}
use Rattle.std.proofs.lemmas.List.Elements.{All-cons, All-head, All-nil, All-tail, All-take}
use Rattle.cell_base.specs.declared.attributes.LineAttribute.TheVariants.{SingleWidthLine}
use Rattle.cell_base.specs.declared.attributes.CursorVisibility.TheVariants.{Visible}
use Rattle.cell_base.specs.Attributes.{plain}
use Rattle.cell_base.specs.Row.{Row}
use Rattle.cell_base.specs.Screen.{Screen, IsScreen, height, new_screen}
use Rattle.cell_base.specs.WholeRow.{IsWhole}
use Rattle.screen_change.specs.ChangeValue.{ChangeValue, AllAttributes, CursorVisibility, Title}
use Rattle.escape_stream.specs.StreamAction.{StreamAction}
use Rattle.screen_effects.specs.Display.{Display, IsDisplay}
use Rattle.terminal_table.specs.Modes.{AreNew, Modes, SavedCursor, initial_modes, other_rows, resized_modes, resized_rows, with_last}
use Rattle.terminal_table.specs.Charsets.{charset_in_use}
use Rattle.terminal_table.specs.RunText.{IsRunText}
use Rattle.terminal_table.specs.Runs.{run_modes}
use Rattle.terminal_table.specs.State.{State, IsState}
use Rattle.terminal_table.specs.Functions as table
use Rattle.terminal_table.specs.Functions.{ControlFunction}
use Rattle.terminal_table.specs.Led.{led}
use Rattle.terminal_table.specs.Request.{Request, Setting, ToReset, ToRegion, ToOrigin, ToInsert, ToAutowrap, ToNewline, ToStop, ToNoStops, ToFirst, ToSecond, ToShift, ToFlag, ToMouse, ToEncoding, WithoutEncoding, ToStyle, modes_set}
use Rattle.terminal_table.specs.Requests.{acted, request_changes, request_done, request_of, without_last}
use Rattle.terminal_table.specs.Screens as screens
use Rattle.terminal_table.specs.Screens.{ScreenFunction, Screens, cleared, cursor_restored, cursor_saved, modes_or_initial, other_shown, screens_after, screens_changes, screens_of, soft_reset, title_changes, title_popped, title_pushed, with_screens}
use Rattle.terminal_table.specs.Steps.{saved_step, step}
use Rattle.terminal_table.specs.Changes.{changes}
use Rattle.terminal_table.proofs.StateLemmas.{HasSize, turned_size}
use Rattle.terminal_table.proofs.SwitchLemmas.{Leads, all_lead, screens_follow, shown_is, shown_state, state_leads}
use Rattle.terminal_table.proofs.TurnLemmas.{step_turns}
use Rattle.terminal_table.proofs.RequestLemmas.{request_turns}
use Rattle.terminal_render.specs.Spelling.{IsSpelledScreen, IsSpelledSaved, IsSpelledModes, IsSpelledText, IsSpelledTitle, AreSpelledModes, IsSpelledRow, IsSpelledState, IsSpelledFunction, HaveEncodings}
use Rattle.terminal_render.proofs.DisplayLemmas.{plain_spelled, replay_spelled, size_spelled, screen_spelled}
use Rattle.terminal_render.proofs.ChangeLemmas.{is_encoded, have_encodings, changes_are_parts, changes_spelled, changes_placed, restored_spelled}
use Rattle.terminal_render.proofs.LedLemmas.{led_has}
use Rattle.terminal_render.proofs.TextLemmas.{spelled_in, spelled_nil}

-- ---- steps

-- a display that shows a screen
abbrev pub display_on : Screen → Display
display_on screen = record { screen = screen; sizes = replicate (height screen) SingleWidthLine; shape = None }

pub display_on_is : (s : Screen) → IsScreen s → All IsWhole s.rows → IsDisplay (display_on s)
display_on_is s h w = record { lawful = h; whole = w; sized = length-replicate (height s) SingleWidthLine }

saved_spelled : (function : ControlFunction) (saved : Option SavedCursor) (s : Screen) → IsSpelledSaved saved → IsSpelledScreen s → IsSpelledSaved (saved_step function saved s)
saved_spelled table.SaveCursor saved s g p = p.pen
saved_spelled table.FullReset saved s g p = tt
saved_spelled _ saved s g p = g

pub step_spelled : (width_of : List ℕ → ℕ) (function : ControlFunction) (state : State) → IsState width_of state → IsSpelledFunction function → IsSpelledState state → IsSpelledState (step function state)
step_spelled width_of function state h f p =
    let d = display_on_is state.screen h.lawful h.whole in
    record {
      screen = subst IsSpelledScreen (step_turns width_of function state (display_on state.screen) h d refl).screen
          (replay_spelled width_of (changes function state.saved state.screen) (display_on state.screen) d (changes_spelled function state.saved state.screen f p.saved p.screen) p.screen);
      saved = saved_spelled function state.saved state.screen p.saved p.screen;
      modes = p.modes;
    }

-- ---- modes

-- those of a new terminal
pub initial_spelled : IsSpelledModes initial_modes
initial_spelled = record { other = record { rows = λ k d i. absurd (omega arith); cursor = tt }; titles = All-nil IsSpelledTitle; last = spelled_nil }

-- modes that become others
modes_set_spelled : (setting : Setting) (modes : Modes) → IsSpelledModes modes → IsSpelledModes (modes_set setting modes)
modes_set_spelled ToReset modes p = record { other = initial_spelled.other; titles = p.titles; last = spelled_nil }
modes_set_spelled (ToRegion region) modes p = record { other = p.other; titles = p.titles; last = p.last }
modes_set_spelled (ToOrigin origin) modes p = record { other = p.other; titles = p.titles; last = p.last }
modes_set_spelled (ToInsert insert) modes p = record { other = p.other; titles = p.titles; last = p.last }
modes_set_spelled (ToAutowrap autowrap) modes p = record { other = p.other; titles = p.titles; last = p.last }
modes_set_spelled (ToNewline newline) modes p = record { other = p.other; titles = p.titles; last = p.last }
modes_set_spelled (ToStop column stop) modes p = record { other = p.other; titles = p.titles; last = p.last }
modes_set_spelled (ToNoStops width) modes p = record { other = p.other; titles = p.titles; last = p.last }
modes_set_spelled (ToFirst set) modes p = record { other = p.other; titles = p.titles; last = p.last }
modes_set_spelled (ToSecond set) modes p = record { other = p.other; titles = p.titles; last = p.last }
modes_set_spelled (ToShift shifted) modes p = record { other = p.other; titles = p.titles; last = p.last }
modes_set_spelled (ToFlag flag on) modes p = record { other = p.other; titles = p.titles; last = p.last }
modes_set_spelled (ToMouse protocol) modes p = record { other = p.other; titles = p.titles; last = p.last }
modes_set_spelled (ToEncoding encoding) modes p = record { other = p.other; titles = p.titles; last = p.last }
modes_set_spelled (WithoutEncoding reset) modes p = record { other = p.other; titles = p.titles; last = p.last }
modes_set_spelled (ToStyle style) modes p = record { other = p.other; titles = p.titles; last = p.last }

pub set_spelled : (setting : Setting) (modes : Option Modes) → AreSpelledModes modes → AreSpelledModes (option_map (modes_set setting) modes)
set_spelled setting None p = tt
set_spelled setting (Some modes) p = modes_set_spelled setting modes p

pub new_modes_spelled : (modes : Option Modes) → AreNew modes → AreSpelledModes modes
new_modes_spelled None new = tt
new_modes_spelled (Some modes) new = subst (λ (m : Modes). AreSpelledModes (Some m)) (sym new) initial_spelled

-- with a run before, or none
pub run_modes_spelled : (text : List ℕ) (modes : Option Modes) → IsRunText text → IsSpelledText text → AreSpelledModes modes → AreSpelledModes (run_modes text modes)
run_modes_spelled text None n t p = tt
run_modes_spelled text (Some modes) n t p = record { other = p.other; titles = p.titles; last = spelled_in (charset_in_use modes.charsets) text n t }

pub without_spelled : (state : State) → IsSpelledState state → IsSpelledState (without_last state)
without_spelled state p = record { screen = p.screen; saved = p.saved; modes = by_modes state.modes p.modes }
  where
    by_modes : (modes : Option Modes) → AreSpelledModes modes → AreSpelledModes (option_map (with_last []) modes)
    by_modes None q = tt
    by_modes (Some modes) q = record { other = q.other; titles = q.titles; last = spelled_nil }

-- of another size
resized_spelled : (width tall : ℕ) (rows : List Row) → All IsSpelledRow rows → All IsSpelledRow (resized_rows width tall rows)
resized_spelled width tall [] p = p
resized_spelled width tall (row ∷ rows) p =
    let new : Screen = new_screen width tall in
    let plain = screen_spelled width tall in
    (size_spelled width tall (record new { rows = row ∷ rows }) (record { rows = p; pen = plain.pen; title = plain.title })).rows

pub resized_modes_spelled : (width tall : ℕ) (modes : Option Modes) → AreSpelledModes modes → AreSpelledModes (option_map (resized_modes width tall) modes)
resized_modes_spelled width tall None p = tt
resized_modes_spelled width tall (Some modes) p = record {
  other = record { rows = resized_spelled width tall modes.other.rows p.other.rows; cursor = p.other.cursor };
  titles = p.titles;
  last = p.last;
}

-- ---- what the functions of the two screens leave

pub record AreSpelled (at : Screens) : Type 0 where
  pub screen : IsSpelledScreen at.screen
  pub saved : IsSpelledSaved at.saved
  pub modes : IsSpelledModes at.modes

cursor_saved_spelled : (at : Screens) → AreSpelled at → AreSpelled (cursor_saved at)
cursor_saved_spelled at p = record { screen = p.screen; saved = p.screen.pen; modes = record { other = p.modes.other; titles = p.modes.titles; last = p.modes.last } }

cursor_restored_spelled : (at : Screens) → AreSpelled at → AreSpelled (cursor_restored at)
cursor_restored_spelled at p = record {
  screen = record { rows = p.screen.rows; pen = restored_spelled at.saved p.saved; title = p.screen.title };
  saved = p.saved;
  modes = record { other = p.modes.other; titles = p.modes.titles; last = p.modes.last };
}

other_rows_spelled : (s : Screen) (rows : List Row) → All IsSpelledRow rows → All IsSpelledRow (other_rows s rows)
other_rows_spelled s [] p = (screen_spelled s.width (height s)).rows
other_rows_spelled s (row ∷ rows) p = p

other_shown_spelled : (at : Screens) → AreSpelled at → AreSpelled (other_shown at)
other_shown_spelled at p = record {
  screen = record { rows = other_rows_spelled at.screen at.modes.other.rows p.modes.other.rows; pen = p.screen.pen; title = p.screen.title };
  saved = p.modes.other.cursor;
  modes = record { other = record { rows = p.screen.rows; cursor = p.saved }; titles = p.modes.titles; last = p.modes.last };
}

soft_reset_spelled : (at : Screens) → AreSpelled at → AreSpelled (soft_reset at)
soft_reset_spelled at p = record {
  screen = record { rows = p.screen.rows; pen = plain_spelled; title = p.screen.title };
  saved = tt;
  modes = record { other = p.modes.other; titles = p.modes.titles; last = p.modes.last };
}

title_pushed_spelled : (at : Screens) → AreSpelled at → AreSpelled (title_pushed at)
title_pushed_spelled at p =
    let titles : List (List ℕ) = at.screen.title ∷ at.modes.titles in
    record {
      screen = p.screen;
      saved = p.saved;
      modes = record {
        other = p.modes.other;
        titles = All-take IsSpelledTitle 10 titles (All-cons IsSpelledTitle at.screen.title at.modes.titles p.screen.title p.modes.titles);
        last = p.modes.last;
      };
    }

title_popped_spelled : (titles : List (List ℕ)) (at : Screens) → All IsSpelledTitle titles → AreSpelled at → AreSpelled (title_popped titles at)
title_popped_spelled [] at t p = p
title_popped_spelled (title ∷ titles) at t p = record {
  screen = record { rows = p.screen.rows; pen = p.screen.pen; title = All-head IsSpelledTitle title titles t };
  saved = p.saved;
  modes = record { other = p.modes.other; titles = All-tail IsSpelledTitle title titles t; last = p.modes.last };
}

module _ (width_of : List ℕ → ℕ) (before : Screen) where
  cleared_spelled : (at : Screens) → Leads width_of before at → AreSpelled at → AreSpelled (cleared at)
  cleared_spelled at h p =
      let state : State = shown_state width_of before at in
      let q = step_spelled width_of table.EraseDisplay state (shown_is width_of before at h) tt (record { screen = p.screen; saved = p.saved; modes = tt }) in
      record { screen = q.screen; saved = p.saved; modes = p.modes }

  all_spelled : (function : ScreenFunction) (at : Screens) → Leads width_of before at → AreSpelled at → AreSpelled (screens_after function at)
  all_spelled screens.SaveCursor at h p = cursor_saved_spelled at p
  all_spelled screens.RestoreCursor at h p = cursor_restored_spelled at p
  all_spelled screens.ShowOther at h p = other_shown_spelled at p
  all_spelled screens.ClearAndShowOther at h p = other_shown_spelled (cleared at) (cleared_spelled at h p)
  all_spelled screens.SaveAndClear at h p = cleared_spelled (cursor_saved at) (all_lead width_of before screens.SaveCursor at h) (cursor_saved_spelled at p)
  all_spelled screens.SaveAndShowCleared at h p =
      cleared_spelled (other_shown (cursor_saved at)) (all_lead width_of before screens.ShowOther (cursor_saved at) (all_lead width_of before screens.SaveCursor at h))
      (other_shown_spelled (cursor_saved at) (cursor_saved_spelled at p))
  all_spelled screens.ShowAndRestore at h p = cursor_restored_spelled (other_shown at) (other_shown_spelled at p)
  all_spelled screens.SoftReset at h p = soft_reset_spelled at p
  all_spelled screens.PushTitle at h p = title_pushed_spelled at p
  all_spelled screens.PopTitle at h p = title_popped_spelled at.modes.titles at p.modes.titles p

-- of a state; a plain terminal has the modes of a new one
pub or_initial_spelled : (modes : Option Modes) → AreSpelledModes modes → IsSpelledModes (modes_or_initial modes)
or_initial_spelled None p = initial_spelled
or_initial_spelled (Some modes) p = p

switched_spelled : (width_of : List ℕ → ℕ) (function : ScreenFunction) (state : State) → IsState width_of state → IsSpelledState state → AreSpelled (screens_after function (screens_of state))
switched_spelled width_of function state h p =
    all_spelled width_of state.screen function (screens_of state) (state_leads width_of state h) (record { screen = p.screen; saved = p.saved; modes = or_initial_spelled state.modes p.modes })

-- the state with them
pub switches_spelled : (width_of : List ℕ → ℕ) (function : ScreenFunction) (state : State) → IsState width_of state → IsSpelledState state → IsSpelledState (with_screens (screens_after function (screens_of state)) state)
switches_spelled width_of function state h p =
    let at : Screens = screens_after function (screens_of state) in
    let q : AreSpelled at = switched_spelled width_of function state h p in
    record { screen = q.screen; saved = q.saved; modes = by_modes at state.modes q }
  where
    by_modes : (at : Screens) (modes : Option Modes) → AreSpelled at → AreSpelledModes (option_map (λ _. at.modes) modes)
    by_modes at None q = tt
    by_modes at (Some modes) q = q.modes

-- ---- sizes

pub request_size : (width_of : List ℕ → ℕ) (request : Option Request) (state : State) → IsState width_of state → HasSize (request_done width_of request state).screen state.screen
request_size width_of request state h =
    let d = display_on_is state.screen h.lawful h.whole in
    turned_size width_of (request_changes width_of request state) state.screen (request_done width_of request state).screen d (request_turns width_of request state (display_on state.screen) h d refl).screen

pub acted_size : (width_of : List ℕ → ℕ) (action : StreamAction) (state : State) → IsState width_of state → HasSize (acted width_of action state).screen state.screen
acted_size width_of action state h = request_size width_of (request_of state.modes state.screen action) state h

-- changes that have encodings at one screen have them at another screen of the same width and height
pub moved_has : (s t : Screen) (changes : List ChangeValue) → HasSize s t → HaveEncodings s.width (height s) changes → HaveEncodings t.width (height t) changes
moved_has s t changes size h = subst (λ n. HaveEncodings t.width n changes) size.tall (subst (λ n. HaveEncodings n (height s) changes) size.wide h)

-- ---- encodings of what is logged

pub changes_have : (function : ControlFunction) (state : State) → 0 < state.screen.width → IsSpelledFunction function → IsSpelledState state
    → HaveEncodings state.screen.width (height state.screen) (changes function state.saved state.screen)
changes_have function state w f p =
    have_encodings state.screen.width (height state.screen) (changes function state.saved state.screen)
    (changes_spelled function state.saved state.screen f p.saved p.screen) (changes_placed function state.saved state.screen w) (changes_are_parts function state.saved state.screen)

-- a function of the two screens logs an erasure, the pen and the cursor's visibility, a title, or what leads to the screen
-- after it
erased_has : (state : State) → 0 < state.screen.width → IsSpelledState state → HaveEncodings state.screen.width (height state.screen) (changes table.EraseDisplay state.saved state.screen)
erased_has state w p = changes_have table.EraseDisplay state w tt p

titles_have : (width tall : ℕ) (titles : List (List ℕ)) → All IsSpelledTitle titles → HaveEncodings width tall (title_changes titles)
titles_have width tall [] t = tt
titles_have width tall (title ∷ titles) t = (is_encoded width tall (Title title) (All-head IsSpelledTitle title titles t) tt tt, tt)

switched_led : (width_of : List ℕ → ℕ) (function : ScreenFunction) (state : State) → IsState width_of state → IsSpelledState state
    → HaveEncodings state.screen.width (height state.screen) (led state.screen (screens_after function (screens_of state)).screen)
switched_led width_of function state h p =
    let new : Screen = (screens_after function (screens_of state)).screen in
    let follows = screens_follow width_of function (screens_of state) (state_leads width_of state h) in
    moved_has new state.screen (led state.screen new) (record { wide = follows.wide; tall = follows.tall })
    (led_has width_of state.screen new h.lawful follows (switched_spelled width_of function state h p).screen)

pub switches_have : (width_of : List ℕ → ℕ) (function : ScreenFunction) (state : State) → IsState width_of state → IsSpelledState state
    → HaveEncodings state.screen.width (height state.screen) (screens_changes function (screens_of state))
switches_have width_of screens.SaveCursor state h p = tt
switches_have width_of screens.RestoreCursor state h p = switched_led width_of screens.RestoreCursor state h p
switches_have width_of screens.ShowOther state h p = switched_led width_of screens.ShowOther state h p
switches_have width_of screens.ClearAndShowOther state h p = switched_led width_of screens.ClearAndShowOther state h p
switches_have width_of screens.SaveAndClear state h p = erased_has state h.lawful.wide_enough p
switches_have width_of screens.SaveAndShowCleared state h p = erased_has state h.lawful.wide_enough p
switches_have width_of screens.ShowAndRestore state h p = switched_led width_of screens.ShowAndRestore state h p
switches_have width_of screens.SoftReset state h p =
    let w = state.screen.width in
    let n = height state.screen in
    (is_encoded w n (AllAttributes plain) plain_spelled tt tt, (is_encoded w n (CursorVisibility Visible) tt tt tt, tt))
switches_have width_of screens.PushTitle state h p = tt
switches_have width_of screens.PopTitle state h p = titles_have state.screen.width (height state.screen) (modes_or_initial state.modes).titles (or_initial_spelled state.modes p.modes).titles
