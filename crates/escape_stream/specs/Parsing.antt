-- What a parser that has read a stream hands out.
use Rattle.std.specs.Prelude.{◌≡◌, ◌≢◌, ℕ, ◌<◌, ◌≤◌, Option, Some, None, List, [], ◌∷◌, ◌++◌, length, take}
use Rattle.std.specs.List.{FoldsTo}
use Rattle.escape_framing.specs.Segment.{Begun}
use Rattle.escape_framing.specs.Cut.{tail_of}
use Rattle.escape_stream.specs.declared.action.Action.{Action}
use Rattle.escape_stream.specs.StreamAction.{StreamAction}
use Rattle.escape_stream.specs.StreamActionView.{value_of}
use Rattle.escape_stream.specs.StreamActions.{newly_decided_actions}

-- a step of a callback, by the value of the action that it was called with
abbrev pub by_value : {F : Type 0} → (F → Action → F → Type 0) → F → StreamAction → F → Type 0
by_value step f value f' = (a : Action) × (value_of a ≡ value) × step f a f'

-- the callback was called with actions of these values, in order, and is `last` after the last call
pub record IsCalledAt {F : Type 0} (step : F → Action → F → Type 0) (callback : F) (values : List StreamAction)
    (last : F) : Type 0 where
  pub calls : FoldsTo (by_value step) callback values last

-- ---- The first actions

-- the first of some actions, unless there is one before them
abbrev pub first_of : Option StreamAction → List StreamAction → Option StreamAction
first_of None [] = None
first_of None (a ∷ actions) = Some a
first_of (Some a) actions = Some a

-- after the stream, the bytes decide an action
abbrev pub DecidesAction : List ℕ → List ℕ → Type 0
DecidesAction stream bytes = newly_decided_actions stream bytes ≢ []

-- after the stream, the bytes decide an action, and no segment is unfinished
abbrev pub Settles : List ℕ → List ℕ → Type 0
Settles stream bytes = DecidesAction stream bytes × (tail_of (stream ++ bytes) ≡ Begun [])

-- the first `count` bytes satisfy P, and no fewer of them do
pub record IsShortest (P : List ℕ → Type 0) (bytes : List ℕ) (count : ℕ) : Type 0 where
  pub within : count ≤ length bytes
  pub holds : P (take count bytes)
  pub least : (fewer : ℕ) → fewer < count → P (take fewer bytes) → ⊥

-- no prefix of the bytes satisfies P
abbrev pub IsNowhere : (List ℕ → Type 0) → List ℕ → Type 0
IsNowhere P bytes = (count : ℕ) → count ≤ length bytes → P (take count bytes) → ⊥

-- after the stream, the first action of the shortest prefix that decides one, and its length; none where no prefix
-- does
abbrev pub IsFirst : List ℕ → List ℕ → Option (StreamAction × ℕ) → Type 0
IsFirst stream bytes None = IsNowhere (DecidesAction stream) bytes
IsFirst stream bytes (Some found) =
    IsShortest (DecidesAction stream) bytes found.1
    × ((remaining : List StreamAction) × (newly_decided_actions stream (take found.1 bytes) ≡ found.0 ∷ remaining))

-- after the stream, the actions of the shortest prefix that decides one and after which no segment is unfinished, and
-- its length; none where there is no such prefix
abbrev pub IsFirstSettled : List ℕ → List ℕ → Option (List StreamAction × ℕ) → Type 0
IsFirstSettled stream bytes None = IsNowhere (Settles stream) bytes
IsFirstSettled stream bytes (Some found) =
    IsShortest (Settles stream) bytes found.1 × (newly_decided_actions stream (take found.1 bytes) ≡ found.0)

-- the bytes that were read: those up to what was found, or all
abbrev pub bytes_read : {A : Type 0} → Option (A × ℕ) → List ℕ → List ℕ
bytes_read None bytes = bytes
bytes_read (Some found) bytes = take found.1 bytes
