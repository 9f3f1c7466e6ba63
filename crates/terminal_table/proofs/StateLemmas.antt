-- Steps, runs and other sizes leave lawful states.
use Rattle.std.proofs.Common.{◌≡◌, ℕ, ◌<◌, ◌-◌, List, [], ◌∷◌, length, map, replicate, take, refl, sym, subst, ◌∙◌, arith, length-append, length-take}
use Rattle.std.specs.Prelude.{All, Option, Some, None, option_map}
use Rattle.std.proofs.lemmas.List.{length-replicate}
use Rattle.cell_base.specs.declared.attributes.LineAttribute.TheVariants.{SingleWidthLine}
use Rattle.cell_base.specs.Row.{Row, plain_row, space}
use Rattle.cell_base.specs.Screen.{Screen, IsScreen, height, put_run}
use Rattle.cell_base.specs.WholeRow.{IsWhole}
use Rattle.screen_change.specs.ChangeValue.{ChangeValue}
use Rattle.screen_effects.specs.Display.{Display, IsDisplay, new_display}
use Rattle.screen_effects.specs.Effect.{effect, replay}
use Rattle.screen_effects.specs.Resize.{fitted, resized, resized_row, resized_screen}
use Rattle.screen_effects.specs.WrittenCells.{IsSoundDisplay, IsSoundRow}
use Rattle.screen_effects.proofs.EffectLaws.{effect_is, replay_is, resized_is}
use Rattle.screen_effects.proofs.SizeLemmas.{effect_size}
use Rattle.screen_effects.proofs.SoundLemmas.{new_is_sound, effect_is_sound, resized_is_sound}
use Rattle.screen_effects.proofs.StrokeLaws.{new_display_is}
use Rattle.terminal_table.specs.Modes.{AreNew, Modes, other_screen, resized_modes, resized_rows}
use Rattle.terminal_table.specs.State.{CanBeShown, HasLast, State, IsState, new_state_with}
use Rattle.xterm_table.specs.Follows.{Follows}
use Rattle.terminal_table.specs.Functions.{ControlFunction}
use Rattle.terminal_table.specs.Runs.{screen_alone}
use Rattle.terminal_table.specs.Steps.{step}
use Rattle.terminal_table.specs.Changes.{changes, run_change}
use Rattle.terminal_table.specs.Meaning.{with_size}
use Rattle.terminal_table.specs.RunText.{IsRunText}
use Rattle.terminal_table.proofs.RunLemmas.{run_turns}
use Rattle.terminal_table.proofs.ScreenLemmas.{modes_still, new_can, new_last, plain_follows, some_follow}
use Rattle.terminal_table.proofs.SoundLemmas.{changes_utf8, replay_sound}
use Rattle.terminal_table.proofs.TurnLemmas.{function_turns}

-- a display that shows a screen
abbrev pub display_on : Screen → Display
display_on screen = record { screen = screen; sizes = replicate (height screen) SingleWidthLine; shape = None }

pub display_on_is : (width_of : List ℕ → ℕ) (state : State) → IsState width_of state → IsDisplay (display_on state.screen)
display_on_is width_of state h = record { lawful = h.lawful; whole = h.whole; sized = length-replicate (height state.screen) SingleWidthLine }

-- ---- sizes

-- as wide and as high
pub record HasSize (s t : Screen) : Type 0 where
  pub wide : s.width ≡ t.width
  pub tall : height s ≡ height t

pub replay_size : (width_of : List ℕ → ℕ) (cs : List ChangeValue) (d : Display) → IsDisplay d → HasSize (replay width_of d cs).screen d.screen
replay_size width_of [] d h = record { wide = refl; tall = refl }
replay_size width_of (change ∷ cs) d h =
    let one = effect_size width_of d change h in
    let rest = replay_size width_of cs (effect width_of d change) (effect_is width_of d change h) in
    record { wide = rest.wide ∙ one.width; tall = rest.tall ∙ one.tall }

-- a screen into which changes turn another screen has that screen's size
pub turned_size : (width_of : List ℕ → ℕ) (cs : List ChangeValue) (s t : Screen) → IsDisplay (display_on s) → (replay width_of (display_on s) cs).screen ≡ t → HasSize t s
turned_size width_of cs s t h e = subst (λ (x : Screen). HasSize x s) e (replay_size width_of cs (display_on s) h)

pub step_size : (width_of : List ℕ → ℕ) (function : ControlFunction) (state : State) → IsState width_of state → HasSize (step function state).screen state.screen
step_size width_of function state h =
    let d = display_on_is width_of state h in
    turned_size width_of (changes function state.saved state.screen) state.screen (step function state).screen d (function_turns width_of function state.saved (display_on state.screen) d).screen

-- ---- states

-- a state of a size whose screen a lawful display with sound cells shows
shown_is : (width_of : List ℕ → ℕ) (d : Display) (state : State) → width_of space ≡ 1 → IsDisplay d → IsSoundDisplay width_of d → d.screen ≡ state.screen → CanBeShown width_of state.screen state.modes → HasLast state.modes → IsState width_of state
shown_is width_of d state narrow h p e other last = record {
  lawful = subst IsScreen e h.lawful;
  whole = subst (λ (s : Screen). All IsWhole s.rows) e h.whole;
  narrow = narrow;
  sound = subst (λ (s : Screen). All (IsSoundRow width_of) s.rows) e p;
  other = other;
  last = last;
}

-- a screen into which changes turn that of a state
other_still : (width_of : List ℕ → ℕ) (cs : List ChangeValue) (state : State) (t : Screen) → IsState width_of state → (replay width_of (display_on state.screen) cs).screen ≡ t → CanBeShown width_of t state.modes
other_still width_of cs state t h e =
    let size = turned_size width_of cs state.screen t (display_on_is width_of state h) e in
    let inside = h.lawful.row_in in
    let tall = size.tall in
    modes_still width_of state.screen t state.modes size.wide tall (omega (arith, inside, tall)) h.other

pub new_is : (width_of : List ℕ → ℕ) (modes : Option Modes) (width height : ℕ) → AreNew modes → width_of space ≡ 1 → 0 < width → 0 < height → IsState width_of (new_state_with modes width height)
new_is width_of modes width height new narrow w t =
    let is = new_display_is width height w t in
    shown_is width_of (new_display width height) (new_state_with modes width height) narrow is (new_is_sound width_of width height narrow) refl
    (new_can width_of (new_state_with modes width height).screen modes narrow is.lawful new) (new_last modes new)

pub step_is : (width_of : List ℕ → ℕ) (function : ControlFunction) (state : State) → IsState width_of state → IsState width_of (step function state)
step_is width_of function state h =
    let before : Display = display_on state.screen in
    let d = display_on_is width_of state h in
    let all : List ChangeValue = changes function state.saved state.screen in
    let turns = function_turns width_of function state.saved before d in
    shown_is width_of (replay width_of before all) (step function state) h.narrow (replay_is width_of all before d)
    (replay_sound width_of h.narrow all before d (changes_utf8 function state.saved state.screen) h.sound) turns.screen
    (other_still width_of all state (step function state).screen h turns.screen) h.last

-- ---- a text of a run that is put, on a state with a screen alone

pub put_size : (width_of : List ℕ → ℕ) (text : List ℕ) (s : Screen) → IsRunText text → IsState width_of (screen_alone s) → HasSize (put_run width_of s text) s
put_size width_of text s t h =
    turned_size width_of (run_change text ∷ []) s (put_run width_of s text) (display_on_is width_of (screen_alone s) h) (run_turns width_of text (display_on s) t.printed).screen

pub put_is : (width_of : List ℕ → ℕ) (text : List ℕ) (s : Screen) → IsRunText text → IsState width_of (screen_alone s) → IsState width_of (screen_alone (put_run width_of s text))
put_is width_of text s t h =
    let before : Display = display_on s in
    let d = display_on_is width_of (screen_alone s) h in
    shown_is width_of (effect width_of before (run_change text)) (screen_alone (put_run width_of s text)) h.narrow (effect_is width_of before (run_change text) d)
    (effect_is_sound width_of before (run_change text) h.narrow d t.utf8 h.sound) (run_turns width_of text before t.printed).screen tt tt

-- another size of the other screen
fitted_length : {A : Type 0} (other : A) (size : ℕ) (xs : List A) → length (fitted other size xs) ≡ size
fitted_length other size xs =
    let both = length-append (take size xs) (replicate (size - length xs) other) in
    let part = length-take size xs in
    let rest = length-replicate (size - length xs) other in
    omega (arith, both, part, rest)

resized_other : (width_of : List ℕ → ℕ) (width tall : ℕ) (s : Screen) (rows : List Row) → width_of space ≡ 1 → 0 < width → 0 < tall → IsScreen (resized_screen width tall s) → Follows width_of s (other_screen s rows)
    → Follows width_of (resized_screen width tall s) (other_screen (resized_screen width tall s) (resized_rows width tall rows))
resized_other width_of width tall s [] narrow w t new f = plain_follows width_of (resized_screen width tall s) narrow new
resized_other width_of width tall s (row ∷ rows) narrow w t new f =
    let own : Screen = other_screen s (row ∷ rows) in
    let is = resized_is width tall (display_on own) w t (record { lawful = f.lawful; whole = f.whole; sized = length-replicate (height own) SingleWidthLine }) in
    some_follow width_of (resized_screen width tall s) (resized_screen width tall own).rows new
    (fitted_length (plain_row width) tall (map (resized_row width) own.rows) ∙ sym (fitted_length (plain_row width) tall (map (resized_row width) s.rows)))
    is.lawful.even is.whole (resized_is_sound width_of width tall (display_on own) narrow f.sound)

pub size_is : (width_of : List ℕ → ℕ) (width height : ℕ) (state : State) → 0 < width → 0 < height → IsState width_of state → IsState width_of (with_size width height state)
size_is width_of width height state w t h =
    let before : Display = display_on state.screen in
    let is = resized_is width height before w t (display_on_is width_of state h) in
    shown_is width_of (resized width height before) (with_size width height state) h.narrow is (resized_is_sound width_of width height before h.narrow h.sound) refl
    (by_modes state.modes is.lawful h.other) (last_still state.modes h.last)
  where
    last_still : (modes : Option Modes) → HasLast modes → HasLast (option_map (resized_modes width height) modes)
    last_still None l = tt
    last_still (Some modes) l = l

    by_modes : (modes : Option Modes) → IsScreen (resized_screen width height state.screen) → CanBeShown width_of state.screen modes → CanBeShown width_of (resized_screen width height state.screen) (option_map (resized_modes width height) modes)
    by_modes None new f = tt
    by_modes (Some modes) new f = resized_other width_of width height state.screen modes.other.rows h.narrow w t new f
