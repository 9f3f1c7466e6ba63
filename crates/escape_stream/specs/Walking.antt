-- Definitions for the private functions of the walk over the bytes of a call.
use Rattle.std.specs.Prelude.{◌≡◌, ◌<◌, ℕ, Bool, true, false, List, [], ◌∷◌, ◌++◌, length, map, Option, Some}
use Rattle.std.specs.Prelude.{None, Result, Ok, Err, IfOk, IfSome}
use Rattle.std.specs.Prelude.{OnErr}
use Rattle.std.specs.List.{FoldsTo}
use Rattle.std.specs.Borrow.{Bor}
use Rattle.std.specs.declared.alloc.AllocError.{AllocError}
use Rattle.escape_framing.specs.Prefixes.{IsShortList}
use Rattle.escape_stream.specs.Pieces.{Piece}
use Rattle.escape_stream.specs.Items.{Item}
use Rattle.escape_stream.specs.PiecesView.{lender_of, parser_of, open_pieces, held_at_end, item_handed, steps_left}
use Rattle.escape_stream.specs.PiecesView.{AsksMemory, IsPiece, IsUnderWay, GoesOn, HasGiven, HaveSameBodies}
use Rattle.csi_codec.specs.Parsing.{IsStart}
use Rattle.csi_codec.specs.Sources.{settings_left}
use Rattle.csi_codec.specs.Tokens.{parameters_of}
use Rattle.csi_codec.specs.declared.param_cursor.ParamCursor.{ParamCursor}
use Rattle.escape_stream.specs.Sequences.{actions_left}
use Rattle.escape_stream.specs.StreamAction.{csi}
use Rattle.escape_stream.specs.declared.action.Action.{Action}
use Rattle.escape_stream.specs.declared.perform.Halted.{Halted}
use Rattle.escape_stream.specs.declared.perform.Halted.TheVariants as halted
use Rattle.escape_stream.specs.declared.pieces.Piece.{Piece as PieceCode}
use Rattle.escape_stream.specs.declared.pieces.Piece.TheVariants as code
use Rattle.escape_stream.specs.declared.pieces.Reading.{Reading}

-- an item was performed, or refused
abbrev pub Performs : {P E : Type 0} → (P → Item → P → Type 0) → (P → Item → E → P → Type 0) → P → Item
    → Result Bool (Halted E) → P → Type 0
Performs does refuses first item (Ok true) last = ⊥
Performs does refuses first item (Ok false) last = does first item last
Performs does refuses first item (Err halted.Failed) last = ⊥
Performs does refuses first item (Err halted.Memory) last = ⊥
Performs does refuses first item (Err (halted.Refused refusal)) last = refuses first item refusal last

-- the next piece was found, if there is one, unless memory is refused
pub record Finds (old : Reading) (answer : Result (Option PieceCode) AllocError) (new : Reading) : Type 0 where
  pub same : lender_of new ≡ lender_of old
  pub stage : new.stage ≡ old.stage
  pub failed : (parser_of new).failed ≡ true
  pub gives : IfOk answer (λ piece. HasGiven old piece new)
  pub memory : OnErr answer (AsksMemory old)

-- an action was found whole at the start, unless memory is refused, or nothing was read
pub record FindsWhole (old : Reading) (answer : Option (Result Action AllocError)) (new : Reading) : Type 0 where
  pub same : lender_of new ≡ lender_of old
  pub stage : new.stage ≡ old.stage
  pub failed : (parser_of new).failed ≡ true
  pub finds : IfSome answer (λ found. IfOk found (λ action. HasGiven old (Some (code.Action action)) new))
  pub closer : IfSome answer (λ found. steps_left new < steps_left old)
  pub none : answer ≡ None → new ≡ old
  pub memory : IfSome answer (λ found. OnErr found (AsksMemory old))

-- a piece was found whole at the start, or nothing was read
pub record FindsPiece {A : Type 0} (piece_of : A → PieceCode) (old : Reading) (answer : Option A) (new : Reading) :
    Type 0 where
  pub same : lender_of new ≡ lender_of old
  pub stage : new.stage ≡ old.stage
  pub failed : (parser_of new).failed ≡ true
  pub finds : IfSome answer (λ found. HasGiven old (Some (piece_of found)) new)
  pub none : answer ≡ None → new ≡ old

-- with these parameters and these actions of a control sequence before the bytes that are left
abbrev pub with_list : Reading → ParamCursor → List ℕ → ℕ → Reading
with_list it offset list control = record it {
  parser = record it.parser { now = record it.parser.now { parameters = parameters_of list } };
  sequence = Some (record { offset = offset; control = control });
}

-- a control sequence was found whole at the start: its parameter bytes and its final byte; or nothing was read
pub record ReadsList (old : Reading) (answer : Option (Bor (List ℕ) × ℕ)) (new : Reading) : Type 0 where
  pub same : lender_of new ≡ lender_of old
  pub stage : new.stage ≡ old.stage
  pub parser : parser_of new ≡ parser_of old
  pub over : new.sequence ≡ None
  pub ready : IfSome answer (λ found. IsUnderWay new)
  pub list : IfSome answer (λ found. IsShortList found.0.now)
  pub reads : IfSome answer
      (λ found. (offset : ParamCursor) → IsStart offset → GoesOn old (with_list new offset found.0.now found.1))
  pub none : answer ≡ None → new ≡ old

-- parameter bytes were kept: what remains begins with the actions of this control sequence
pub record KeepsList (old : Reading) (offset : ParamCursor) (list : List ℕ) (control : ℕ) (new : Reading) : Type 0 where
  pub same : lender_of new ≡ lender_of old
  pub stage : new.stage ≡ old.stage
  pub parser : parser_of new ≡ record (parser_of old) { parameters = parameters_of list }
  pub bytes : new.bytes ≡ old.bytes
  pub count : new.count ≡ old.count
  pub sequence : new.sequence ≡ Some (record { offset = offset; control = control })

-- what is left of an SGR list after a setting was kept, where anything is
pub record LeavesSettings (old : Reading) (rest : List ℕ) (new : Reading) : Type 0 where
  pub same : lender_of new ≡ lender_of old
  pub stage : new.stage ≡ old.stage
  pub failed : (parser_of new).failed ≡ (parser_of old).failed
  pub held : (parser_of new).held ≡ (parser_of old).held
  pub bytes : new.bytes ≡ old.bytes
  pub count : new.count ≡ old.count
  pub actions : actions_left new.parser.now.parameters new.sequence ≡ map csi (settings_left rest false)

-- a piece was handed to the performer
pub record HandsPiece (happens : Item → Type 0) (old new : Reading) : Type 0 where
  pub piece : PieceCode
  pub given : HasGiven old (Some piece) new
  pub performed : happens (item_handed piece)

-- the pieces of the code have the values of these pieces
abbrev pub ArePieces : List Piece → List PieceCode → Type 0
ArePieces [] [] = Unit {0}
ArePieces [] (x ∷ xs) = ⊥
ArePieces (p ∷ ps) [] = ⊥
ArePieces (p ∷ ps) (x ∷ xs) = IsPiece p x × ArePieces ps xs

-- the pieces that were handed out between two states of the iterator, in a call after `start` bytes
pub record HandsOver (done : List PieceCode) (old new : Reading) (start : ℕ) : Type 0 where
  pub pieces : List Piece
  pub are : ArePieces pieces done
  pub whole : open_pieces start old ≡ pieces ++ open_pieces start new

-- a walk has come this far: the performer performed the pieces that were handed out
pub record Reaches {P : Type 0} (does : P → Item → P → Type 0) (old : Reading) (first : P) (new : Reading) (last : P) :
    Type 0 where
  pub done : List PieceCode
  pub performed : FoldsTo (λ before x after. does before (item_handed x) after) first done last
  pub handed : (start : ℕ) → HandsOver done old new start
  pub ready : IsUnderWay new
  pub ends : held_at_end new ≡ held_at_end old
  pub bodies : HaveSameBodies old new

-- a walk that ended: at the end, or early
pub record WalksAll {P : Type 0} (does : P → Item → P → Type 0) (old : Reading) (first : P) (new : Reading) (last : P) :
    Type 0 where
  pub it : Reading
  pub reached : Reaches does old first it last
  pub none : HasGiven it None new

pub record WalksSome {P : Type 0} (does : P → Item → P → Type 0) (old : Reading) (first : P) (last : P) : Type 0 where
  pub it : Reading
  pub reached : Reaches does old first it last
  pub memory : AsksMemory it

pub record WalksUpTo {P E : Type 0} (does : P → Item → P → Type 0) (refuses : P → Item → E → P → Type 0) (old : Reading)
    (first : P) (refusal : E) (new : Reading) (last : P) : Type 0 where
  pub it : Reading
  pub before : P
  pub reached : Reaches does old first it before
  pub refused : HandsPiece (λ item. refuses before item refusal last) it new

abbrev pub WalksTo : {P E : Type 0} → (P → Item → P → Type 0) → (P → Item → E → P → Type 0) → Reading → P
    → Result (Unit {0}) (Halted E) → Reading → P → Type 0
WalksTo does refuses old first (Ok done) new last = WalksAll does old first new last
WalksTo does refuses old first (Err halted.Failed) new last = ⊥
WalksTo does refuses old first (Err halted.Memory) new last = WalksSome does old first last
WalksTo does refuses old first (Err (halted.Refused refusal)) new last =
    WalksUpTo does refuses old first refusal new last

-- a step of a walk: it performed one piece or more, came to the end (`true`), or ended early
abbrev pub StepsTo : {P E : Type 0} → (P → Item → P → Type 0) → (P → Item → E → P → Type 0) → Reading → P
    → Result Bool (Halted E) → Reading → P → Type 0
StepsTo does refuses old first (Ok true) new last = WalksAll does old first new last
StepsTo does refuses old first (Ok false) new last =
    Reaches does old first new last × (length (open_pieces 0 new) < length (open_pieces 0 old))
StepsTo does refuses old first (Err halted) new last = WalksTo does refuses old first (Err halted) new last
