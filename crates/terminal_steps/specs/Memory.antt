-- What a terminal can be refused memory for.
use Rattle.std.specs.Prelude.{◌≡◌, ◌<◌, ◌+◌, ◌^◌, ◌⊎◌, ℕ, Bool, true, false, List, Option, Some, None, fold}
use Rattle.screen_log.specs.LogSteps.{Sized, step_of_kept}
use Rattle.csi_codec.specs.declared.rendition.Sgr.{Sgr}
use Rattle.csi_codec.specs.declared.rendition.Sgr.TheVariants as sgr
use Rattle.escape_stream.specs.StreamAction.{StreamAction, is_print}
use Rattle.terminal_table.specs.Functions.{ControlFunction, LineFeed, CarriageReturn, NextRow, EraseToEndOfDisplay}
use Rattle.terminal_table.specs.Functions.{EraseDisplay, EraseToEndOfLine, EraseLine, Rendition, SaveCursor}
use Rattle.terminal_table.specs.Functions.{RestoreCursor, ReportStatus, ReportPosition}
use Rattle.terminal_table.specs.History.{Event, Act}
use Rattle.terminal_table.specs.Logged.{event_logged, run_logged}
use Rattle.terminal_table.specs.Meaning.{View, settled}
use Rattle.terminal_table.specs.Request.{Request, Table, Xterm, Sets, SetsAlone, Switches, Repeats, Aligns, Replies}
use Rattle.terminal_table.specs.Request.{Nothing, Setting, ToStop, ToNoStops}
use Rattle.terminal_table.specs.Requests.{request_of}
use Rattle.terminal_table.specs.Screens.{ScreenFunction}
use Rattle.terminal_table.specs.Screens as screens
use Rattle.terminal_table.specs.State.{State}
use Rattle.xterm_steps.specs.Additions.{IsChangeRefused}
use Rattle.terminal_steps.specs.Events.{IsReady, view_of}
use Rattle.terminal_steps.specs.declared.state.TerminalState.{TerminalState}

-- SGR that sets the pen as a whole, from a copy
abbrev pub copies_pen : Sgr → Bool
copies_pen sgr.Reset = true
copies_pen (sgr.UnderlineColor color) = true
copies_pen (sgr.Overline on) = true
copies_pen (sgr.VerticalAlign align) = true
copies_pen _ = false

-- a control function copies a text or a pen for its changes
abbrev pub copies : ControlFunction → Bool
copies LineFeed = true
copies CarriageReturn = true
copies NextRow = true
copies EraseToEndOfDisplay = true
copies EraseDisplay = true
copies EraseToEndOfLine = true
copies EraseLine = true
copies (Rendition value) = copies_pen value
copies RestoreCursor = true
copies _ = false

-- a control function saves a copy of the cursor, or writes a reply
abbrev pub keeps : ControlFunction → Bool
keeps SaveCursor = true
keeps ReportStatus = true
keeps ReportPosition = true
keeps _ = false

-- Beside its changes an action takes memory for a text or a pen that its control function copies, or for the row that a
-- function of xterm's own copies, if the number after the current one fits in 64 bits; or for a cursor or a reply that
-- it keeps, or for one that is given, if the current number does.
abbrev pub TakesTableMemory : Option ControlFunction → ℕ → Type 0
TakesTableMemory None number = ⊥
TakesTableMemory (Some function) number =
    ((copies function ≡ true) × (number + 1 < 2 ^ 64)) ⊎ ((keeps function ≡ true) × (number < 2 ^ 64))

-- a function of the two screens adds a change in any case
abbrev pub adds_always : ScreenFunction → Bool
adds_always screens.SaveCursor = false
adds_always screens.PushTitle = false
adds_always screens.PopTitle = false
adds_always _ = true

-- it copies a cursor, rows or a title: where it adds changes in any case, if the number after the current one fits
abbrev pub TakesScreenMemory : ScreenFunction → ℕ → Type 0
TakesScreenMemory screens.SaveCursor number = number < 2 ^ 64
TakesScreenMemory screens.PushTitle number = number < 2 ^ 64
TakesScreenMemory screens.PopTitle number = number < 2 ^ 64
TakesScreenMemory function number = number + 1 < 2 ^ 64

-- a setting keeps tab stops
abbrev pub TakesSettingMemory : Setting → ℕ → Type 0
TakesSettingMemory (ToStop column stop) number = number < 2 ^ 64
TakesSettingMemory (ToNoStops width) number = number < 2 ^ 64
TakesSettingMemory _ number = ⊥

abbrev pub TakesOwnMemory : Option Request → ℕ → Type 0
TakesOwnMemory None number = ⊥
TakesOwnMemory (Some (Table function)) number = TakesTableMemory (Some function) number
TakesOwnMemory (Some (Xterm function)) number = number + 1 < 2 ^ 64
TakesOwnMemory (Some (Sets setting function)) number =
    TakesTableMemory (Some function) number ⊎ TakesSettingMemory setting number
TakesOwnMemory (Some (SetsAlone setting)) number = TakesSettingMemory setting number
TakesOwnMemory (Some (Switches function)) number = TakesScreenMemory function number
TakesOwnMemory (Some (Repeats count)) number = number + 1 < 2 ^ 64
TakesOwnMemory (Some Aligns) number = number + 1 < 2 ^ 64
TakesOwnMemory (Some (Replies text)) number = number < 2 ^ 64
TakesOwnMemory (Some Nothing) number = ⊥

-- what an action asks for in a state
abbrev pub asked_in : State → StreamAction → Option Request
asked_in state action = request_of state.modes state.screen action

-- the log's number once the held run has ended
abbrev pub number_settled : (List ℕ → ℕ) → View → Sized → ℕ
number_settled width_of view log = (fold step_of_kept log (run_logged width_of view)).log.number

-- An event after a view and a log is refused memory, and `failed` is whether the surface has failed then: the event is
-- a print, which joins the run; or its control function takes memory of its own; or one of its changes is refused
-- memory.
abbrev pub TakesMemory : (List ℕ → ℕ) → View → Sized → Event → Bool → Type 0
TakesMemory width_of view log (Act action) failed =
    (is_print action ≡ true)
    ⊎ TakesOwnMemory (asked_in (settled width_of view).state action) (number_settled width_of view log)
    ⊎ IsChangeRefused (event_logged width_of view (Act action)) log.log.number failed
TakesMemory width_of view log event failed = IsChangeRefused (event_logged width_of view event) log.log.number failed

-- a terminal that was ready for an event is refused memory for it
abbrev pub NeedsMemory : {W : Type 0} → (W → List ℕ → ℕ) → TerminalState W → Event → TerminalState W → Type 0
NeedsMemory width_of before event after =
    IsReady width_of before
    → TakesMemory (width_of before.surface.grid.widths) (view_of before) before.surface.log event
    after.surface.is_failed
