-- What an iterator of pieces has yet to hand out, and the parser that it borrows.
use Rattle.std.specs.Prelude.{◌≡◌, ◌≤◌, ◌⊎◌, ℕ, ◌+◌, ◌-◌, ◌*◌, true, false, List, [], ◌∷◌, ◌++◌, length, take, drop}
use Rattle.std.specs.Prelude.{map, Option, Some, None, Result, Ok, Err, IfOk, OnErr}
use Rattle.std.specs.List.{FoldsTo}
use base.Fml.{GName}
use Rattle.std.specs.declared.alloc.AllocError.{AllocError}
use Rattle.escape_framing.specs.Event.{rank}
use Rattle.escape_framing.specs.Read.{held_after}
use Rattle.escape_framing.specs.Framed.{framed_after, IsReached, IsCarried}
use Rattle.escape_framing.specs.Held.{Held, TakesMemory, hand_out, held_of}
use Rattle.escape_framing.specs.declared.error.ParseError.{ParseError}
use Rattle.escape_framing.specs.declared.error.ParseError.TheVariants as refusal
use Rattle.escape_framing.specs.declared.event.Event.{Event}
use Rattle.escape_stream.specs.Items as item
use Rattle.escape_stream.specs.Items.{Item, items_of}
use Rattle.escape_stream.specs.ParserShown.{Parsing, lending_in}
use Rattle.escape_stream.specs.Pieces.{Piece, Text, Single, pieces, pieces_of}
use Rattle.escape_stream.specs.Sequences.{Gives, actions_left, event_actions, ActionTakesMemory, FirstTakes}
use Rattle.escape_stream.specs.StreamActionView.{value_of}
use Rattle.escape_stream.specs.declared.action.Action.{Action}
use Rattle.escape_stream.specs.declared.pieces.Piece.{Piece as PieceCode}
use Rattle.escape_stream.specs.declared.pieces.Piece.TheVariants as code
use Rattle.escape_stream.specs.declared.pieces.Stage.{Stage}
use Rattle.escape_stream.specs.declared.pieces.Stage.TheVariants as stage
use Rattle.escape_stream.specs.declared.pieces.Reading.{Reading as Pieces}
use Rattle.escape_stream.specs.declared.sequence.Sequence.{Sequence}

-- the reference to the parser, by its name
abbrev pub lender_of : Pieces → GName
lender_of it = it.parser.ghost_name

-- what the parser shows
abbrev pub parser_of : Pieces → Parsing
parser_of it = it.parser.now

-- the pieces of the bytes that weren't read yet, after the remaining actions of a control sequence, in a call after
-- `start` bytes
abbrev pub open_pieces : ℕ → Pieces → List Piece
open_pieces start it =
    map Single (actions_left it.parser.now.parameters it.sequence)
    ++ pieces_of (framed_after start (start + it.count) it.parser.now.held (drop it.count it.bytes.now))

-- what is held of the stream once all is read
abbrev pub held_at_end : Pieces → Held
held_at_end it = (hand_out it.parser.now.held (drop it.count it.bytes.now)).held

-- nothing of the bytes of its call was read yet
pub record IsAtStart (held : Held) (bytes : List ℕ) (it : Pieces) : Type 0 where
  pub same : it.parser.now.held ≡ held
  pub start : it.count ≡ 0
  pub bytes_are : it.bytes.now ≡ bytes

-- The bytes read so far end some stream, whatever came before the call. A character that has begun within the call is
-- none that a text can lend.
pub record IsUnderWay (it : Pieces) : Type 0 where
  pub within : it.count ≤ length it.bytes.now
  pub reached : IsReached it.parser.now.held
  pub carried : IsCarried 0 it.count it.parser.now.held (drop it.count it.bytes.now)

-- the next piece is an action that takes memory
abbrev pub FirstTakesMemory : List Piece → Type 0
FirstTakesMemory [] = ⊥
FirstTakesMemory (Text from text ∷ pieces) = ⊥
FirstTakesMemory (Single action ∷ pieces) = ActionTakesMemory action

-- one of the pieces is an action that takes memory
pub record SomeTakesMemory (pieces : List Piece) : Type 0 where
  pub done : List Piece
  pub left : List Piece
  pub whole : pieces ≡ done ++ left
  pub takes : FirstTakesMemory left

-- Bytes after a stream take memory: after some of them the body of a command or a header is read, or they hand out an
-- action that takes memory.
abbrev pub BytesTakeMemory : List ℕ → List ℕ → Type 0
BytesTakeMemory stream bytes =
    ((n : ℕ) × (n ≤ length bytes) × TakesMemory (held_of (stream ++ take n bytes)).kept)
    ⊎ SomeTakesMemory (pieces stream bytes)

-- the pieces that a call after `stream` hands out of its bytes after the first n
abbrev pub pieces_after : List ℕ → List ℕ → ℕ → List Piece
pieces_after stream bytes n =
    pieces_of (framed_after (length stream) (length stream + n) (held_of (stream ++ take n bytes)) (drop n bytes))

-- These pieces of a call remain where memory is taken: for the body of a command or a header that is read after the
-- bytes of all pieces before them, or for the first of them.
abbrev pub TakesMemoryBefore : List ℕ → List ℕ → List Piece → Type 0
TakesMemoryBefore stream bytes left =
    ((n : ℕ) × (n ≤ length bytes) × TakesMemory (held_of (stream ++ take n bytes)).kept
    × (left ≡ pieces_after stream bytes n))
    ⊎ FirstTakesMemory left

-- a performer did the pieces of a call that come before memory is taken
pub record PerformsUpToMemory {P : Type 0} (does : P → Item → P → Type 0) (first : P) (stream bytes : List ℕ) (last : P)
    : Type 0 where
  pub done : List Piece
  pub left : List Piece
  pub whole : pieces stream bytes ≡ done ++ left
  pub performed : FoldsTo does first (items_of done) last
  pub takes : TakesMemoryBefore stream bytes left

-- a piece of the code has the value of this piece
abbrev pub IsPiece : Piece → PieceCode → Type 0
IsPiece (Text from text) (code.Text t) = t.now ≡ text
IsPiece (Text from text) (code.Action a) = ⊥
IsPiece (Single a) (code.Text t) = ⊥
IsPiece (Single a) (code.Action b) = value_of b ≡ a

-- the item of a piece: a text without its offset, or the action
abbrev pub item_handed : PieceCode → Item
item_handed (code.Text t) = item.Text t.now
item_handed (code.Action a) = item.Single (value_of a)

-- the next piece of `before`, and the rest, `after`
abbrev pub GivesPiece : List Piece → Option PieceCode → List Piece → Type 0
GivesPiece before None after = before ≡ []
GivesPiece before (Some p) after = (piece : Piece) × IsPiece piece p × (before ≡ piece ∷ after)

-- what is held after `offset` bytes of its call, those already read among them
abbrev pub held_at : Pieces → ℕ → Held
held_at it offset = held_after it.parser.now.held (drop it.count it.bytes.now) (offset - it.count)

-- the pieces of the bytes after these, in a call after `start` bytes
abbrev pub pieces_at : ℕ → Pieces → ℕ → List Piece
pieces_at start it offset =
    pieces_of (framed_after start (start + offset) (held_at it offset) (drop offset it.bytes.now))

-- at this offset of the call the body of a command or a header is read
pub record ReadsBody (it : Pieces) (offset : ℕ) : Type 0 where
  pub after : it.count ≤ offset
  pub within : offset ≤ length it.bytes.now
  pub takes : TakesMemory (held_at it offset).kept

-- the body or the header is read before anything is handed out: all remaining pieces come after it
pub record ReadsBodyFirst (it : Pieces) (offset : ℕ) : Type 0 where
  pub reads : ReadsBody it offset
  pub first : (start : ℕ) → open_pieces start it ≡ pieces_at start it offset

-- a body or a header that is read later is read here too, with the same pieces after it
abbrev pub HaveSameBodies : Pieces → Pieces → Type 0
HaveSameBodies old new = (offset : ℕ) → ReadsBody new offset
    → ReadsBody old offset × ((start : ℕ) → pieces_at start new offset ≡ pieces_at start old offset)

-- memory is taken for a body or a header that is read before the next piece, or for the next piece itself
abbrev pub AsksMemory : Pieces → Type 0
AsksMemory it = ((offset : ℕ) × ReadsBodyFirst it offset) ⊎ ((start : ℕ) → FirstTakesMemory (open_pieces start it))

-- memory is taken for a body or a header that is yet to be read, or for any remaining action
abbrev pub AsksMemoryLater : Pieces → Type 0
AsksMemoryLater it = ((offset : ℕ) × ReadsBody it offset) ⊎ ((start : ℕ) → SomeTakesMemory (open_pieces start it))

-- what one call has handed out, and how it goes on
pub record HasGiven (old : Pieces) (piece : Option PieceCode) (new : Pieces) : Type 0 where
  pub gives : (start : ℕ) → GivesPiece (open_pieces start old) piece (open_pieces start new)
  pub ready : IsUnderWay new
  pub ends : held_at_end new ≡ held_at_end old
  pub done : piece ≡ None → new.parser.now.held ≡ held_at_end old
  pub bodies : HaveSameBodies old new

-- the remaining pieces stay the same
pub record GoesOn (old new : Pieces) : Type 0 where
  pub same : (start : ℕ) → open_pieces start new ≡ open_pieces start old
  pub ready : IsUnderWay new
  pub ends : held_at_end new ≡ held_at_end old
  pub bodies : HaveSameBodies old new

-- the start of the remaining bytes was read: it gives the next piece, or none yet, and then the same pieces remain
abbrev pub FindsHere : Pieces → Option PieceCode → Pieces → Type 0
FindsHere old None new = GoesOn old new
FindsHere old (Some piece) new = HasGiven old (Some piece) new

-- only the rest of a control sequence has changed
pub record SameBut (old new : Pieces) : Type 0 where
  pub same : lender_of new ≡ lender_of old
  pub parser : new.parser.now ≡ old.parser.now
  pub bytes : new.bytes ≡ old.bytes
  pub count : new.count ≡ old.count
  pub stage : new.stage ≡ old.stage

-- The next action of a control sequence is handed out, unless memory is refused.
pub record HandsOutOf (old : Pieces) (sequence : Option Sequence) (answer : Result (Option Action) AllocError)
    (new : Pieces) : Type 0 where
  pub remaining : SameBut old new
  pub gives : IfOk answer
      (λ next. Gives (actions_left old.parser.now.parameters sequence) next
      (actions_left old.parser.now.parameters new.sequence))
  pub over : IfOk answer (λ next. next ≡ None → new.sequence ≡ None)
  pub memory : OnErr answer (FirstTakes (actions_left old.parser.now.parameters sequence))

-- The first action of an event is handed out, unless memory is refused; those of a control sequence go on after it.
pub record Begins (old : Pieces) (event : Event) (answer : Result (Option Action) AllocError) (new : Pieces) : Type 0
  where
    pub same : lender_of new ≡ lender_of old
    pub parser : parser_of new ≡ record (parser_of old) { body = (parser_of new).body }
    pub bytes : new.bytes ≡ old.bytes
    pub count : new.count ≡ old.count
    pub stage : new.stage ≡ old.stage
    pub gives : IfOk answer
        (λ next. Gives (event_actions (lending_in old.parser.now) event) next
        (actions_left old.parser.now.parameters new.sequence))
    pub over : IfOk answer (λ next. next ≡ None → new.sequence ≡ None)
    pub memory : OnErr answer (FirstTakes (event_actions (lending_in old.parser.now) event))

-- the largest count of further reading steps
abbrev pub steps_left : Pieces → ℕ
steps_left it = 4 * (length it.bytes.now - it.count) + rank it.parser.now.held

-- its stage: its parser had failed before, it is open, or it is over
abbrev pub HadFailed : Pieces → Type 0
HadFailed it = it.stage ≡ stage.Failed

abbrev pub IsOpen : Pieces → Type 0
IsOpen it = it.stage ≡ stage.Open

abbrev pub IsOver : Pieces → Type 0
IsOver it = it.stage ≡ stage.Over

-- while it is open, the bytes read so far end some stream, and its parser counts as failed
abbrev pub ready_at : Stage → Pieces → Type 0
ready_at stage.Failed it = Unit {0}
ready_at stage.Open it = IsUnderWay it × ((parser_of it).failed ≡ true)
ready_at stage.Over it = Unit {0}

-- it is open: the bytes read so far end some stream, and its parser counts as failed
pub record IsGoing (it : Pieces) : Type 0 where
  pub «open» : IsOpen it
  pub ready : IsUnderWay it
  pub failed : (parser_of it).failed ≡ true

-- `next` may be called
abbrev pub IsReady : Pieces → Type 0
IsReady it = ready_at it.stage it

-- What a call of `next` returns: the next piece while there is one, and `None` from then on. It may return `Memory` in
-- place of a piece, and it returns `Failed` first where the parser had failed; after either error it returns `None`.
abbrev pub HandsOutPiece : Pieces → Option (Result PieceCode ParseError) → Pieces → Type 0
HandsOutPiece old (Some (Ok piece)) new = IsOpen old × IsOpen new × HasGiven old (Some piece) new
HandsOutPiece old (Some (Err refusal.Memory)) new = IsOpen old × IsOver new × AsksMemory old
HandsOutPiece old (Some (Err refusal.Failed)) new = HadFailed old × IsOver new
HandsOutPiece old None new = IsOver new × (IsOpen old → HasGiven old None new) × (HadFailed old → ⊥)

-- The parser counts as failed until the first `None` after its pieces; an error leaves it failed.
abbrev pub LeavesParser : Pieces → Option (Result PieceCode ParseError) → Pieces → Type 0
LeavesParser old (Some (Ok piece)) new = (parser_of new).failed ≡ true
LeavesParser old (Some (Err refusal.Memory)) new = (parser_of new).failed ≡ true
LeavesParser old (Some (Err refusal.Failed)) new = parser_of new ≡ parser_of old
LeavesParser old None new = (IsOpen old → (parser_of new).failed ≡ false) × (IsOver old → parser_of new ≡ parser_of old)

-- what a call of `next` does
pub record PiecesGo (old : Pieces) (answer : Option (Result PieceCode ParseError)) (new : Pieces) : Type 0 where
  -- it borrows the same parser as before
  pub same : lender_of new ≡ lender_of old
  pub items : HandsOutPiece old answer new
  pub parser : LeavesParser old answer new

-- how many items may come before there is none: memory may be refused in place of the last
abbrev pub items_at : Stage → List Piece → ℕ
items_at stage.Failed left = 1
items_at stage.Open left = 1 + length left
items_at stage.Over left = 0

abbrev pub items_left : Pieces → ℕ
items_left it = items_at it.stage (open_pieces 0 it)

-- what is yet to be handed out
abbrev pub items_at_stage : Stage → List Item → List Item
items_at_stage stage.Failed left = []
items_at_stage stage.Open left = left
items_at_stage stage.Over left = []

abbrev pub items_to_come : Pieces → List Item
items_to_come it = items_at_stage it.stage (items_of (open_pieces 0 it))
