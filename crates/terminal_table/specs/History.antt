-- What happens to a terminal, and the events that follow from it.
use Rattle.std.specs.Prelude.{ℕ, List, [], ◌∷◌, ◌++◌, map}
use Rattle.escape_stream.specs.StreamAction.{StreamAction}
use Rattle.escape_stream.specs.StreamActions.{newly_decided_actions}

-- the terminal reads a chunk of the stream, its screen is looked at, it takes a new width and height, or its log
-- forgets the changes before a number
pub data Step : Type 0 where
  Piece : List ℕ → Step
  Look : Step
  Resize : ℕ → ℕ → Step
  Forget : ℕ → Step

abbrev pub History : Type 0
History = List Step

-- the bytes that the terminal reads, joined
abbrev pub pieces : History → List ℕ
pieces [] = []
pieces (Piece bytes ∷ history) = bytes ++ pieces history
pieces (Look ∷ history) = pieces history
pieces (Resize width height ∷ history) = pieces history
pieces (Forget number ∷ history) = pieces history

-- an action that the bytes have decided, a look, a new size, or a log that forgets, which leaves the screen alone
pub data Event : Type 0 where
  Act : StreamAction → Event
  Looked : Event
  Resized : ℕ → ℕ → Event
  Forgot : ℕ → Event

-- The events of a history that goes on after a stream. An action comes as soon as the bytes so far decide it, so that
-- every continuation has it; a look or another size follows all actions that the bytes before it decide.
abbrev pub events : List ℕ → History → List Event
events stream [] = []
events stream (Piece bytes ∷ history) = map Act (newly_decided_actions stream bytes) ++ events (stream ++ bytes) history
events stream (Look ∷ history) = Looked ∷ events stream history
events stream (Resize width height ∷ history) = Resized width height ∷ events stream history
events stream (Forget number ∷ history) = Forgot number ∷ events stream history
