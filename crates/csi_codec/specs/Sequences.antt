-- What a CSI value shows, what its iterator hands out, and the text of an action.
use Rattle.std.specs.Prelude.{◌≡◌, ℕ, List, [], ◌∷◌, Option, Some, None, Result, Ok, Err}
use Rattle.std.specs.declared.alloc.AllocError.{AllocError}
use Rattle.csi_codec.specs.Parameters.{sequence_text}
use Rattle.csi_codec.specs.Actions.{Action, sgr, cursor, edit, mode, device, unspecified, spelling_of}
use Rattle.csi_codec.specs.declared.parameters.Unspecified.{Unspecified}
use Rattle.csi_codec.specs.declared.sequences.CSI.{CSI}
use Rattle.csi_codec.specs.declared.sequences.CSI.TheVariants as csi

-- the rest of a list without where it lies in memory
abbrev pub rest_of : Unspecified → Action
rest_of rest = unspecified rest.params.items rest.parameters_truncated rest.control

-- the rests of two lists are equal: parameters, flags and final bytes
pub record IsSameRest (a b : Unspecified) : Type 0 where
  pub params : a.params.items ≡ b.params.items
  pub truncated : a.parameters_truncated ≡ b.parameters_truncated
  pub control : a.control ≡ b.control

-- a CSI value without where it lies in memory
abbrev pub action_of : CSI → Action
action_of (csi.Sgr value) = sgr value
action_of (csi.Cursor value) = cursor value
action_of (csi.Edit value) = edit value
action_of (csi.Mode value) = mode value
action_of (csi.Device value) = device value.value
action_of (csi.Unspecified rest) = rest_of rest.value

-- requests and the rest of a list are boxed, and so need memory
abbrev pub NeedsMemory : Action → Type 0
NeedsMemory (device value) = Unit {0}
NeedsMemory (unspecified params truncated final) = Unit {0}
NeedsMemory _ = ⊥

abbrev pub FirstNeedsMemory : List Action → Type 0
FirstNeedsMemory [] = ⊥
FirstNeedsMemory (first ∷ remaining) = NeedsMemory first

-- one step of the iterator: it returns the first of the remaining actions, or `None` where none remains;
-- after a refusal of memory no action remains
abbrev pub HandsOut : List Action → Option (Result CSI AllocError) → List Action → Type 0
HandsOut before None after = (before ≡ []) × (after ≡ [])
HandsOut before (Some (Ok value)) after = before ≡ action_of value ∷ after
HandsOut before (Some (Err error)) after = (after ≡ []) × FirstNeedsMemory before

-- ECMA-48 5.4: ESC [, the parameters side by side, and the final byte
abbrev pub csi_text : Action → List ℕ
csi_text action = sequence_text (spelling_of action)
