-- What `pieces` hands out: texts, lent from the bytes of one call, and actions by themselves.
use Rattle.std.specs.Prelude.{◌≡◌, ℕ, ◌+◌, List, [], ◌∷◌, ◌++◌, length, map, encode_utf8_all}
use Rattle.std.specs.List.{flat_map}
use Rattle.std.specs.Str.{chars}
use Rattle.escape_framing.specs.Framed as framing
use Rattle.escape_framing.specs.Framed.{Framed, framed}
use Rattle.escape_framing.specs.Segment.{Segment}
use Rattle.escape_framing.specs.Dispatch.{dispatches_of}
use Rattle.escape_framing.specs.Placed.{placed_from}
use Rattle.escape_framing.specs.PlacedSegments.{LiesBetween}
use Rattle.escape_stream.specs.StreamAction.{StreamAction, print}
use Rattle.escape_stream.specs.StreamActions.{actions_of_dispatch, actions_of}

-- a text, with the count of the stream's bytes before it; or an action
pub data Piece : Type 0 where
  Text : ℕ → List ℕ → Piece
  Single : StreamAction → Piece

-- a text as it is, a dispatch by its actions
abbrev pub pieces_of_framed : Framed → List Piece
pieces_of_framed (framing.Text from text) = Text from text ∷ []
pieces_of_framed (framing.Single d) = map Single (actions_of_dispatch d)

abbrev pub pieces_of : List Framed → List Piece
pieces_of items = flat_map pieces_of_framed items

-- The pieces that a call hands out of these bytes, after a stream: the actions that the bytes decide, where adjacent
-- characters, each wholly of these bytes, are a text.
abbrev pub pieces : List ℕ → List ℕ → List Piece
pieces stream bytes = pieces_of (framed (length stream) (placed_from stream bytes))

-- the actions of pieces: a text prints its characters
abbrev pub actions_of_piece : Piece → List StreamAction
actions_of_piece (Text from text) = map print (chars text)
actions_of_piece (Single a) = a ∷ []

abbrev pub actions_of_pieces : List Piece → List StreamAction
actions_of_pieces items = flat_map actions_of_piece items

-- the actions, where each text is printed character by character; no text is empty
pub data Spells : List Piece → List StreamAction → Type 0 where
  nothing : Spells [] []
  alone : (a : StreamAction) (items : List Piece) (actions : List StreamAction) → Spells items actions
      → Spells (Single a ∷ items) (a ∷ actions)
  in_text : (from c : ℕ) (cs text : List ℕ) (items : List Piece) (actions all : List StreamAction)
      → text ≡ encode_utf8_all (c ∷ cs) → all ≡ map print (c ∷ cs) ++ actions → Spells items actions
      → Spells (Text from text ∷ items) all

-- between two adjacent texts lies a segment of the stream without an action
abbrev pub AreSeparate : List ℕ → List Piece → Type 0
AreSeparate stream items =
    (before after : List Piece) (from next : ℕ) (text more : List ℕ)
    → items ≡ before ++ Text from text ∷ Text next more ∷ after
    → (segment : Segment) × LiesBetween stream (from + length text) next segment
    × (actions_of (dispatches_of segment) ≡ [])
