-- What actions ask for: the changes that are logged for it have the effect of its step, and states stay lawful.
use Rattle.std.proofs.Common.{◌≡◌, ℕ, List, [], refl, sym, ap, ◌∙◌, arith}
use Rattle.std.specs.Prelude.{Option, Some, None, option_map}
use Rattle.escape_stream.specs.StreamAction.{StreamAction}
use Rattle.escape_stream.specs.StreamWritable.{string_terminator}
use Rattle.screen_effects.specs.Display.{Display, IsDisplay}
use Rattle.screen_effects.specs.Effect.{replay}
use Rattle.terminal_table.specs.Changes.{changes_of}
use Rattle.terminal_table.specs.Facts.{ActionsAreLogged, ActionsKeepStates}
use Rattle.terminal_table.specs.Functions.{ControlFunction, function_of}
use Rattle.terminal_table.specs.Modes.{Modes, with_last}
use Rattle.terminal_table.specs.Request.{Request, Table, Xterm, Sets, SetsAlone, Switches, Repeats, Aligns, Replies, Nothing, Setting, modes_set}
use Rattle.terminal_table.specs.Requests.{AsksForNothing, acted, acted_changes, request_changes, request_done, request_of, without_last}
use Rattle.terminal_table.specs.Runs.{screen_repeated}
use Rattle.terminal_table.specs.Screens.{modes_or_initial}
use Rattle.terminal_table.specs.State.{CanBeShown, HasLast, State, IsState}
use Rattle.terminal_table.specs.Steps.{step, step_of}
use Rattle.terminal_table.specs.Turns.{Turns}
use Rattle.terminal_table.specs.XtermRequests.{xterm_request}
use Rattle.terminal_table.proofs.AlignLemmas.{aligned_is, aligned_turns}
use Rattle.terminal_table.proofs.RunLemmas.{no_text}
use Rattle.terminal_table.proofs.RunningLemmas.{alone_is, repeated_is, repeated_turns}
use Rattle.terminal_table.proofs.ScreenLemmas.{modes_still, set_can, set_last}
use Rattle.terminal_table.proofs.StateLemmas.{step_is}
use Rattle.terminal_table.proofs.SwitchLemmas.{switched_is, switched_turns}
use Rattle.terminal_table.proofs.TurnLemmas.{screen_turns, step_turns}
use Rattle.terminal_table.proofs.XtermLemmas.{xterm_is, xterm_turns}

module _ (width_of : List ℕ → ℕ) where
  -- the state whose modes count, where a run is repeated
  repeat_is : (state : State) → IsState width_of state → HasLast (Some (modes_or_initial state.modes))
  repeat_is state h = by_modes state.modes h.last
    where
      by_modes : (modes : Option Modes) → HasLast modes → HasLast (Some (modes_or_initial modes))
      by_modes None l = no_text
      by_modes (Some modes) l = l

  pub request_turns : (request : Option Request) (state : State) (d : Display) → IsState width_of state → IsDisplay d → d.screen ≡ state.screen
      → Turns d (replay width_of d (request_changes width_of request state)) (request_done width_of request state).screen
  request_turns None state d h g e = screen_turns d d.screen state.screen e
  request_turns (Some (Table function)) state d h g e = step_turns width_of function state d h g e
  request_turns (Some (Xterm function)) state d h g e = xterm_turns width_of function state d h g e
  request_turns (Some (Sets setting function)) state d h g e = step_turns width_of function state d h g e
  request_turns (Some (SetsAlone setting)) state d h g e = screen_turns d d.screen state.screen e
  request_turns (Some (Switches function)) state d h g e = switched_turns width_of function state d h g e
  request_turns (Some (Repeats count)) state d h g e = repeated_turns width_of (modes_or_initial state.modes) count state.screen d (repeat_is state h) (alone_is width_of state h) g e
  request_turns (Some Aligns) state d h g e = aligned_turns width_of state d h g e
  request_turns (Some (Replies text)) state d h g e = screen_turns d d.screen state.screen e
  request_turns (Some Nothing) state d h g e = screen_turns d d.screen state.screen e

  -- the modes become others
  modes_are : (setting : Setting) (state : State) → IsState width_of state → IsState width_of (record state { modes = option_map (modes_set setting) state.modes })
  modes_are setting state h = record { lawful = h.lawful; whole = h.whole; narrow = h.narrow; sound = h.sound; other = by_modes state.modes h.other; last = last_still state.modes h.last }
    where
      by_modes : (modes : Option Modes) → CanBeShown width_of state.screen modes → CanBeShown width_of state.screen (option_map (modes_set setting) modes)
      by_modes None f = tt
      by_modes (Some modes) f = set_can width_of state.screen setting modes h.narrow h.lawful f

      last_still : (modes : Option Modes) → HasLast modes → HasLast (option_map (modes_set setting) modes)
      last_still None l = tt
      last_still (Some modes) l = set_last setting modes l

  pub request_is : (request : Option Request) (state : State) → IsState width_of state → IsState width_of (request_done width_of request state)
  request_is None state h = h
  request_is (Some (Table function)) state h = step_is width_of function state h
  request_is (Some (Xterm function)) state h = xterm_is width_of function state h
  request_is (Some (Sets setting function)) state h = modes_are setting (step function state) (step_is width_of function state h)
  request_is (Some (SetsAlone setting)) state h = modes_are setting state h
  request_is (Some (Switches function)) state h = switched_is width_of function state h
  request_is (Some (Repeats count)) state h =
      let modes = modes_or_initial state.modes in
      let is = repeated_is width_of modes count state.screen (repeat_is state h) (alone_is width_of state h) in
      let inside = h.lawful.row_in in
      let tall = is.1.tall in
      record {
        lawful = is.0.lawful;
        whole = is.0.whole;
        narrow = h.narrow;
        sound = is.0.sound;
        other = modes_still width_of state.screen (screen_repeated modes width_of count state.screen) state.modes is.1.wide tall (omega (arith, inside, tall)) h.other;
        last = h.last;
      }
  request_is (Some Aligns) state h = aligned_is width_of state h
  request_is (Some (Replies text)) state h = record { lawful = h.lawful; whole = h.whole; narrow = h.narrow; sound = h.sound; other = h.other; last = h.last }
  request_is (Some Nothing) state h = h

  -- no run is the one before
  pub without_is : (state : State) → IsState width_of state → IsState width_of (without_last state)
  without_is state h = record { lawful = h.lawful; whole = h.whole; narrow = h.narrow; sound = h.sound; other = by_modes state.modes h.other; last = none state.modes }
    where
      by_modes : (modes : Option Modes) → CanBeShown width_of state.screen modes → CanBeShown width_of state.screen (option_map (with_last []) modes)
      by_modes None f = tt
      by_modes (Some modes) f = f

      none : (modes : Option Modes) → HasLast (option_map (with_last []) modes)
      none None = tt
      none (Some modes) = no_text

pub actions_are_logged : ActionsAreLogged
actions_are_logged width_of action state d = request_turns width_of (request_of state.modes state.screen action) state d

pub actions_keep_states : ActionsKeepStates
actions_keep_states width_of action state h =
    let request : Option Request = request_of state.modes state.screen action in
    without_is width_of (request_done width_of request state) (request_is width_of request state h)

-- ---- string terminators

-- they ask for nothing
pub terminator_asks : (modes : Option Modes) → AsksForNothing modes string_terminator
unfolding function_of xterm_request
terminator_asks None text screen = refl
terminator_asks (Some modes) text screen = refl

-- in a state
pub terminator_nothing : (state : State) → request_of state.modes state.screen string_terminator ≡ None
unfolding function_of xterm_request
terminator_nothing state = by_modes state.modes
  where
    by_modes : (modes : Option Modes) → request_of modes state.screen string_terminator ≡ None
    by_modes None = refl
    by_modes (Some modes) = refl

-- no run before is none
pub twice : (state : State) → without_last (without_last state) ≡ without_last state
twice state = by_modes state.modes
  where
    by_modes : (modes : Option Modes) → record state { modes = option_map (with_last []) (option_map (with_last []) modes) } ≡ record state { modes = option_map (with_last []) modes }
    by_modes None = refl
    by_modes (Some modes) = refl

-- ---- plain terminals

-- what an action leaves
pub plain_last : (state : State) → state.modes ≡ None → without_last state ≡ state
plain_last state e = ap (λ (modes : Option Modes). record state { modes = option_map (with_last []) modes }) e ∙ ap (λ (modes : Option Modes). record state { modes = modes }) (sym e)

module _ (width_of : List ℕ → ℕ) where
  pub plain_done : (function : Option ControlFunction) (state : State) → request_done width_of (option_map Table function) state ≡ step_of function state
  plain_done None state = refl
  plain_done (Some function) state = refl

  pub plain_changes : (function : Option ControlFunction) (state : State) → request_changes width_of (option_map Table function) state ≡ changes_of function state
  plain_changes None state = refl
  plain_changes (Some function) state = refl

  -- the table's functions leave the modes
  pub step_modes : (function : Option ControlFunction) (state : State) → (step_of function state).modes ≡ state.modes
  step_modes None state = refl
  step_modes (Some function) state = refl

  pub plain_acted : (action : StreamAction) (state : State) → state.modes ≡ None → acted width_of action state ≡ step_of (function_of action) state
  plain_acted action state e =
      ap (λ (modes : Option Modes). without_last (request_done width_of (request_of modes state.screen action) state)) e
      ∙ ap without_last (plain_done (function_of action) state)
      ∙ plain_last (step_of (function_of action) state) (step_modes (function_of action) state ∙ e)

  pub plain_acted_changes : (action : StreamAction) (state : State) → state.modes ≡ None → acted_changes width_of action state ≡ changes_of (function_of action) state
  plain_acted_changes action state e = ap (λ (modes : Option Modes). request_changes width_of (request_of modes state.screen action) state) e ∙ plain_changes (function_of action) state

  pub plain_modes : (action : StreamAction) (state : State) → state.modes ≡ None → (acted width_of action state).modes ≡ None
  plain_modes action state e = ap (λ (s : State). s.modes) (plain_acted action state e) ∙ step_modes (function_of action) state ∙ e
