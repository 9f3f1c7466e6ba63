-- What was asked for leaves a state whose parts have an encoding, and so have the changes that are logged for it.
use Rattle.std.proofs.Common.{ℕ, zero, suc, Bool, true, false, List, [], ◌∷◌, replicate, refl, arith}
use Rattle.std.specs.Prelude.{nat_le, Option, Some, None, option_map, if◌then◌else◌}
use Rattle.std.proofs.lemmas.List.Elements.{All-replicate}
use Rattle.cell_base.specs.Attributes.{Attributes, plain}
use Rattle.cell_base.specs.Row.{Narrow, space}
use Rattle.cell_base.specs.Screen.{Screen, height}
use Rattle.terminal_table.specs.Alignment.{alignment_letter, alignment_row, modes_aligned, screen_aligned}
use Rattle.terminal_table.specs.Led.{led}
use Rattle.terminal_table.specs.Modes.{Modes}
use Rattle.terminal_table.specs.Request.{Request, Table, Xterm, Sets, SetsAlone, Switches, Repeats, Aligns, Replies, Nothing}
use Rattle.terminal_table.specs.Requests.{request_changes, request_done, request_of}
use Rattle.terminal_table.specs.Runs.{changes_repeated, screen_repeated}
use Rattle.terminal_table.specs.Screens.{modes_or_initial}
use Rattle.terminal_table.specs.State.{HasLast, State, IsState}
use Rattle.terminal_table.proofs.AlignLemmas.{aligned_follows}
use Rattle.terminal_table.proofs.RunLemmas.{no_text}
use Rattle.terminal_table.proofs.RunningLemmas.{alone_is}
use Rattle.terminal_render.specs.Spelling.{AreSpelledModes, IsSpelledPen, IsSpelledRow, IsSpelledRun, IsSpelledScreen, IsSpelledState, HaveEncodings, ActionsHaveEncodings}
use Rattle.terminal_render.proofs.AskedLemmas.{IsSpelledAsked, asked_spelled}
use Rattle.terminal_render.proofs.DisplayLemmas.{plain_spelled}
use Rattle.terminal_render.proofs.LedLemmas.{led_has}
use Rattle.terminal_render.proofs.RequestLemmas.{changes_have, moved_has, or_initial_spelled, set_spelled, step_spelled, switches_have, switches_spelled}
use Rattle.terminal_render.proofs.RunningLemmas.{repeated_spelled, xterm_logged}
use Rattle.terminal_render.proofs.TextLemmas.{spelled_ascii, spelled_space}
use Rattle.terminal_render.proofs.XtermLemmas.{xterm_spelled}

-- ---- the alignment display

letter_spelled : (b : Bool) → IsSpelledRun (if b then space else 69 ∷ [])
letter_spelled true = spelled_space
letter_spelled false = record { spelled = spelled_ascii 69 (omega arith); printed = refl }

row_spelled : (n : ℕ) (text : List ℕ) (a : Attributes) → IsSpelledRun text → IsSpelledPen a → IsSpelledRow (replicate n (Narrow text a))
row_spelled zero text a t p = tt
row_spelled (suc n) text a t p = (t, p, row_spelled n text a t p)

aligned_spelled : (width_of : List ℕ → ℕ) (s : Screen) → IsSpelledScreen s → IsSpelledScreen (screen_aligned width_of s)
aligned_spelled width_of s p = record {
  rows = All-replicate IsSpelledRow (height s) (alignment_row width_of s.width)
      (row_spelled s.width (alignment_letter width_of) plain (letter_spelled (nat_le 2 (width_of (69 ∷ [])))) plain_spelled);
  pen = plain_spelled;
  title = p.title;
}

aligned_has : (width_of : List ℕ → ℕ) (state : State) → IsState width_of state → IsSpelledScreen state.screen
    → HaveEncodings state.screen.width (height state.screen) (led state.screen (screen_aligned width_of state.screen))
aligned_has width_of state h p =
    let new : Screen = screen_aligned width_of state.screen in
    let follows = aligned_follows width_of state.screen h.narrow h.lawful in
    moved_has new state.screen (led state.screen new) (record { wide = follows.wide; tall = follows.tall })
    (led_has width_of state.screen new h.lawful follows (aligned_spelled width_of state.screen p))

-- ---- a cluster that is repeated

repeats : (width_of : List ℕ → ℕ) (count : ℕ) (state : State) → IsState width_of state → IsSpelledState state
    → let modes = modes_or_initial state.modes in
    HaveEncodings state.screen.width (height state.screen) (changes_repeated modes width_of count state.screen) × IsSpelledScreen (screen_repeated modes width_of count state.screen)
repeats width_of count state h p =
    repeated_spelled width_of (modes_or_initial state.modes) (by_modes state.modes h.last) (or_initial_spelled state.modes p.modes).last count state.screen (alone_is width_of state h) p.screen
  where
    by_modes : (modes : Option Modes) → HasLast modes → HasLast (Some (modes_or_initial modes))
    by_modes None l = no_text
    by_modes (Some modes) l = l

-- ---- what was asked for leaves a spelled state

pub request_spelled : (width_of : List ℕ → ℕ) (request : Option Request) (state : State) → IsState width_of state → IsSpelledAsked request → IsSpelledState state → IsSpelledState (request_done width_of request state)
request_spelled width_of None state h f p = p
request_spelled width_of (Some (Table function)) state h f p = step_spelled width_of function state h f p
request_spelled width_of (Some (Xterm function)) state h f p = record { screen = xterm_spelled width_of function state h p.screen; saved = p.saved; modes = p.modes }
request_spelled width_of (Some (Sets setting function)) state h f p =
    let q = step_spelled width_of function state h f p in
    record { screen = q.screen; saved = q.saved; modes = set_spelled setting state.modes q.modes }
request_spelled width_of (Some (SetsAlone setting)) state h f p = record { screen = p.screen; saved = p.saved; modes = set_spelled setting state.modes p.modes }
request_spelled width_of (Some (Switches function)) state h f p = switches_spelled width_of function state h p
request_spelled width_of (Some (Repeats count)) state h f p = record { screen = (repeats width_of count state h p).1; saved = p.saved; modes = p.modes }
request_spelled width_of (Some Aligns) state h f p = record { screen = aligned_spelled width_of state.screen p.screen; saved = p.saved; modes = by_modes state.modes p.modes }
  where
    by_modes : (modes : Option Modes) → AreSpelledModes modes → AreSpelledModes (option_map modes_aligned modes)
    by_modes None q = tt
    by_modes (Some modes) q = record { other = q.other; titles = q.titles; last = q.last }
request_spelled width_of (Some (Replies text)) state h f p = record { screen = p.screen; saved = p.saved; modes = p.modes }
request_spelled width_of (Some Nothing) state h f p = p

-- ---- encodings of what is logged

request_has : (width_of : List ℕ → ℕ) (request : Option Request) (state : State) → IsState width_of state → IsSpelledAsked request → IsSpelledState state
    → HaveEncodings state.screen.width (height state.screen) (request_changes width_of request state)
request_has width_of None state h f p = tt
request_has width_of (Some (Table function)) state h f p = changes_have function state h.lawful.wide_enough f p
request_has width_of (Some (Xterm function)) state h f p = xterm_logged width_of function state h p.screen
request_has width_of (Some (Sets setting function)) state h f p = changes_have function state h.lawful.wide_enough f p
request_has width_of (Some (SetsAlone setting)) state h f p = tt
request_has width_of (Some (Switches function)) state h f p = switches_have width_of function state h p
request_has width_of (Some (Repeats count)) state h f p = (repeats width_of count state h p).0
request_has width_of (Some Aligns) state h f p = aligned_has width_of state h p.screen
request_has width_of (Some (Replies text)) state h f p = tt
request_has width_of (Some Nothing) state h f p = tt

-- the third fact that is asked of the table
pub actions_have_encodings : ActionsHaveEncodings
actions_have_encodings width_of action state h p q = request_has width_of (request_of state.modes state.screen action) state h (asked_spelled state.modes state.screen action q) p
