-- Items that are handed to a performer, one by one.
use Rattle.std.proofs.Common.{◌≡◌, ℕ, List, [], ◌∷◌, ◌++◌, fold, refl, ap, sym, subst, ◌∙◌}
use Rattle.std.specs.List.{FoldsTo}
use Rattle.std.proofs.lemmas.Grind.{fold-append}
use Rattle.escape_stream.specs.declared.action.Action.{Action}
use Rattle.escape_stream.specs.declared.pieces.Piece.{Piece as PieceCode}
use Rattle.escape_stream.specs.declared.pieces.Piece.TheVariants as code
use Rattle.escape_stream.specs.StreamAction.{StreamAction, appended}
use Rattle.escape_stream.specs.StreamActions.{newly_decided_actions}
use Rattle.escape_stream.specs.Parsing.{IsCalledAt}
use Rattle.escape_stream.specs.Pieces.{Piece, Text, Single, pieces, actions_of_piece, actions_of_pieces}
use Rattle.escape_stream.specs.Items as item
use Rattle.escape_stream.specs.Items.{Item, item_of, items_of, items, actions_of_item, actions_of_items}
use Rattle.escape_stream.specs.PiecesView.{IsPiece, item_handed}
use Rattle.escape_stream.proofs.PendingLemmas.{called_none, called_then}
use Rattle.escape_stream.proofs.SpokenLemmas.{pieces_say}

-- ---- the items of pieces

pub same_item : (p : Piece) (x : PieceCode) → IsPiece p x → item_of p ≡ item_handed x
same_item (Text from text) (code.Text t) e = ap item.Text (sym e)
same_item (Text from text) (code.Action a) e = absurd e
same_item (Single a) (code.Text t) e = absurd e
same_item (Single a) (code.Action b) e = ap item.Single (sym e)

-- ---- actions

one_says : (p : Piece) → actions_of_item (item_of p) ≡ actions_of_piece p
one_says (Text from text) = refl
one_says (Single a) = refl

all_say : (ps : List Piece) → actions_of_items (items_of ps) ≡ actions_of_pieces ps
all_say [] = refl
all_say (p ∷ ps) = λ i. one_says p i ++ all_say ps i

pub items_say : (stream bytes : List ℕ) → actions_of_items (items stream bytes) ≡ newly_decided_actions stream bytes
items_say stream bytes = all_say (pieces stream bytes) ∙ pieces_say stream bytes

-- calls at the actions of each item in turn are calls at the actions of all items
pub called_items : {P F : Type 0} (get : P → F) (step : F → Action → F → Type 0) (p : P) (xs : List Item) (q : P)
    → FoldsTo (λ a x b. IsCalledAt step (get a) (actions_of_item x) (get b)) p xs q → IsCalledAt step (get p) (actions_of_items xs) (get q)
called_items get step p [] q s = subst (λ f. IsCalledAt step (get p) [] f) (ap get s) (called_none step (get p))
called_items get step p (x ∷ xs) q s = called_then step (get p) (get s.0) (get q) (actions_of_item x) (actions_of_items xs) s.1 (called_items get step s.0 xs q s.2)

pub called_newly : {P F : Type 0} (get : P → F) (step : F → Action → F → Type 0) (p : P) (stream bytes : List ℕ) (q : P)
    → FoldsTo (λ a x b. IsCalledAt step (get a) (actions_of_item x) (get b)) p (items stream bytes) q → IsCalledAt step (get p) (newly_decided_actions stream bytes) (get q)
called_newly get step p stream bytes q s = subst (λ (l : List StreamAction). IsCalledAt step (get p) l (get q)) (items_say stream bytes) (called_items get step p (items stream bytes) q s)

-- each item's actions are appended
pub joined_items : {P : Type 0} (get : P → List StreamAction) (p : P) (xs : List Item) (q : P)
    → FoldsTo (λ a x b. get b ≡ fold appended (get a) (actions_of_item x)) p xs q → get q ≡ fold appended (get p) (actions_of_items xs)
joined_items get p [] q s = ap get (sym s)
joined_items get p (x ∷ xs) q s =
    joined_items get s.0 xs q s.2
    ∙ ap (λ (v : List StreamAction). fold appended v (actions_of_items xs)) s.1
    ∙ sym (fold-append appended (get p) (actions_of_item x) (actions_of_items xs))

pub joined_newly : {P : Type 0} (get : P → List StreamAction) (p : P) (stream bytes : List ℕ) (q : P) → get p ≡ []
    → FoldsTo (λ a x b. get b ≡ fold appended (get a) (actions_of_item x)) p (items stream bytes) q → get q ≡ fold appended [] (newly_decided_actions stream bytes)
joined_newly get p stream bytes q n s = joined_items get p (items stream bytes) q s ∙ (λ i. fold appended (n i) (items_say stream bytes i))
