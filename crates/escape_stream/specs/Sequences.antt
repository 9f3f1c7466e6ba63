-- The actions of control sequences, and of other events, one by one.
use Rattle.std.specs.Prelude.{◌≡◌, ℕ, List, [], ◌∷◌, not, Bool, ◌==◌, map, Option, Some, None}
use Rattle.csi_codec.specs.Parsing.{actions_from}
use Rattle.csi_codec.specs.Tokens.{Parameters}
use Rattle.escape_framing.specs.Lending.{Lending}
use Rattle.escape_framing.specs.Event.{dispatch_in}
use Rattle.escape_framing.specs.declared.event.Event.{Event}
use Rattle.escape_framing.specs.declared.event.Event.TheVariants as event
use Rattle.escape_osc.specs.Parts.{semicolon}
use Rattle.escape_stream.specs.declared.action.Action.{Action}
use Rattle.escape_stream.specs.declared.sequence.Sequence.{Sequence}
use Rattle.csi_codec.specs.Sequences.{NeedsMemory}
use Rattle.escape_stream.specs.StreamAction.{StreamAction, csi, command, enter}
use Rattle.escape_stream.specs.StreamActionView.{value_of}
use Rattle.escape_stream.specs.StreamActions.{actions_of_dispatch}

-- no action, or one
abbrev pub optional_action : Option Action → List StreamAction
optional_action None = []
optional_action (Some a) = value_of a ∷ []

-- the next action, or that there is none
abbrev pub Gives : List StreamAction → Option Action → List StreamAction → Type 0
Gives before (Some a) after = before ≡ value_of a ∷ after
Gives before None after = before ≡ []

-- an action that takes memory: it holds a list of parameters that has no reading, a request, a command or a header
abbrev pub ActionTakesMemory : StreamAction → Type 0
ActionTakesMemory (csi action) = NeedsMemory action
ActionTakesMemory (command c) = Unit {0}
ActionTakesMemory (enter header final) = Unit {0}
ActionTakesMemory _ = ⊥

-- the next action takes memory
abbrev pub FirstTakes : List StreamAction → Type 0
FirstTakes [] = ⊥
FirstTakes (action ∷ actions) = ActionTakesMemory action

-- the actions of a control sequence from a position on
abbrev pub actions_left : Parameters → Option Sequence → List StreamAction
actions_left p None = []
actions_left p (Some s) = map csi (actions_from s.offset p.tokens p.truncated s.control)

-- the actions of an event, with what the framer lends
abbrev pub event_actions : Lending → Event → List StreamAction
event_actions l e = actions_of_dispatch (dispatch_in l e)

-- the actions of an event that is not a control sequence
abbrev pub own_actions : Lending → Event → List StreamAction
own_actions l (event.ControlSequence control) = []
own_actions l e = event_actions l e

-- a byte of a part of a command's body
abbrev pub is_in_part : ℕ → Bool
is_in_part b = not (b == semicolon)
