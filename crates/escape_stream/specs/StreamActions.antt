-- The actions of a stream: those of its dispatches, in order.
use Rattle.std.specs.Prelude.{◌≡◌, ◌≢◌, ℕ, ◌<◌, ◌≤◌, Option, Some, None, List, [], ◌∷◌, ◌++◌, length, take, map}
use Rattle.std.specs.List.{flat_map, slice_get}
use Rattle.csi_codec.specs.Actions.{csi_reading}
use Rattle.csi_codec.specs.Escapes.{esc_reading}
use Rattle.escape_osc.specs.Parts.{parts_of}
use Rattle.escape_osc.specs.Reading.{osc_reading}
use Rattle.escape_framing.specs.Dispatch.{Dispatch, Print, Control, Escape, ControlSequence, OperatingSystemCommand}
use Rattle.escape_framing.specs.Dispatch.{Enter, Data, Exit}
use Rattle.escape_framing.specs.Cut.{dispatches, newly_decided}
use Rattle.escape_framing.specs.Placed.{placed_dispatches}
use Rattle.escape_stream.specs.Controls.{control_named, control_number}
use Rattle.escape_stream.specs.declared.control.ControlCode.{ControlCode}
use Rattle.escape_stream.specs.StreamAction.{StreamAction, print, control, enter, data_byte, exit, command, csi, esc}

-- a control by its name
abbrev pub named_control : Option ControlCode → List StreamAction
named_control (Some code) = control (control_number code) ∷ []
named_control None = []

-- What a dispatch asks of a terminal: a control sequence can be several actions, every other dispatch is one.
abbrev pub actions_of_dispatch : Dispatch → List StreamAction
actions_of_dispatch (Print c) = print c ∷ []
actions_of_dispatch (Control b) = named_control (control_named b)
actions_of_dispatch (Escape intermediate final) = esc (esc_reading intermediate final) ∷ []
actions_of_dispatch (ControlSequence tokens truncated final) = map csi (csi_reading tokens truncated final)
actions_of_dispatch (OperatingSystemCommand body) = command (osc_reading (parts_of body)) ∷ []
actions_of_dispatch (Enter header final) = enter header final ∷ []
actions_of_dispatch (Data b) = data_byte b ∷ []
actions_of_dispatch Exit = exit ∷ []

-- the actions of dispatches, in order
abbrev pub actions_of : List Dispatch → List StreamAction
actions_of ds = flat_map actions_of_dispatch ds

-- the actions that a stream decides, however it goes on
abbrev pub stream_actions : List ℕ → List StreamAction
stream_actions stream = actions_of (dispatches stream)

-- the actions that are decided once more bytes follow a stream
abbrev pub newly_decided_actions : List ℕ → List ℕ → List StreamAction
newly_decided_actions stream more = actions_of (newly_decided stream more)

-- the actions that a stream decides, in order, each with the count of bytes that decides it
abbrev pub placed_actions : List ℕ → List (ℕ × StreamAction)
placed_actions stream =
    flat_map (λ (p : ℕ × Dispatch). map (λ a. (p.0, a)) (actions_of_dispatch p.1)) (placed_dispatches stream)

-- The first `offset` bytes of the stream decide the action at the index, and fewer don't.
pub record IsPlacedAction (stream : List ℕ) (index offset : ℕ) (action : StreamAction) : Type 0 where
  -- the stream has at least `offset` bytes
  pub within : offset ≤ length stream
  -- however the stream goes on after `offset` bytes, this action is at the index
  pub decided : (more : List ℕ) → slice_get (stream_actions (take offset stream ++ more)) index ≡ Some action
  -- after fewer bytes the stream can go on so that it is not
  pub least : (fewer : ℕ) → fewer < offset
      → ((more : List ℕ) → slice_get (stream_actions (take fewer stream ++ more)) index ≡ Some action) → ⊥

-- The stream can go on so that one action comes next, and so that another does: no further one is decided.
pub record IsUndecidedAction (stream : List ℕ) : Type 0 where
  pub one : List ℕ
  pub other : List ℕ
  pub first : StreamAction
  pub second : StreamAction
  pub after_first : List StreamAction
  pub after_second : List StreamAction
  pub gives_first : newly_decided_actions stream one ≡ first ∷ after_first
  pub gives_second : newly_decided_actions stream other ≡ second ∷ after_second
  pub differ : first ≢ second
