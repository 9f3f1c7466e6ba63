-- Between two neighbouring texts is a segment without an action.
use Rattle.std.proofs.Common.{◌≡◌, ℕ, List, [], ◌∷◌, ◌++◌, length, map, refl, sym, ap, ◌∙◌, arith}
use Rattle.std.proofs.lemmas.Grind.{flat_map-append}
use Rattle.escape_framing.specs.Dispatch.{Dispatch, dispatches_of}
use Rattle.escape_framing.specs.Framed as framing
use Rattle.escape_framing.specs.Framed.{Framed, framed}
use Rattle.escape_framing.specs.Placed.{placed_from}
use Rattle.escape_framing.proofs.SeparateLemmas.{texts_between}
use Rattle.escape_stream.specs.StreamAction.{StreamAction}
use Rattle.escape_stream.specs.StreamActions.{actions_of_dispatch, actions_of}
use Rattle.escape_stream.specs.Pieces.{Piece, Text, Single, pieces_of, pieces, AreSeparate}

no_pieces : (before : List Piece) (i : Piece) (remaining : List Piece) → [] ≡ before ++ i ∷ remaining → ⊥
no_pieces [] i remaining e = cc
no_pieces (x ∷ before) i remaining e = cc

-- after actions by themselves
after_actions : (actions : List StreamAction) (rest before : List Piece) (from : ℕ) (text : List ℕ) (remaining : List Piece) → map Single actions ++ rest ≡ before ++ Text from text ∷ remaining
    → (prefix : List Piece) × (rest ≡ prefix ++ Text from text ∷ remaining)
after_actions [] rest before from text remaining e = (before, e)
after_actions (a ∷ actions) rest [] from text remaining e = cc
after_actions (a ∷ actions) rest (p ∷ before) from text remaining e = after_actions actions rest before from text remaining (let k : map Single actions ++ rest ≡ before ++ Text from text ∷ remaining = cc in k)

-- a text among the pieces is one of the items that the pieces are of
record IsItem (items : List Framed) (from : ℕ) (text : List ℕ) (remaining : List Piece) : Type 0 where
  before : List Framed
  after : List Framed
  are : items ≡ before ++ framing.Text from text ∷ after
  rest : remaining ≡ pieces_of after

is_item : (items : List Framed) (before : List Piece) (from : ℕ) (text : List ℕ) (remaining : List Piece) → pieces_of items ≡ before ++ Text from text ∷ remaining → IsItem items from text remaining
is_item [] before from text remaining e = absurd (no_pieces before (Text from text) remaining e)
is_item (framing.Text first shown ∷ items) [] from text remaining e =
    let f : first ≡ from = cc in
    let t : shown ≡ text = cc in
    let r : pieces_of items ≡ remaining = cc in
    record { before = []; after = items; are = (λ i. framing.Text (f i) (t i) ∷ items); rest = sym r }
is_item (framing.Text first shown ∷ items) (p ∷ before) from text remaining e =
    let k = is_item items before from text remaining (let m : pieces_of items ≡ before ++ Text from text ∷ remaining = cc in m) in
    record { before = framing.Text first shown ∷ k.before; after = k.after; are = (λ i. framing.Text first shown ∷ k.are i); rest = k.rest }
is_item (framing.Single d ∷ items) before from text remaining e =
    let b = after_actions (actions_of_dispatch d) (pieces_of items) before from text remaining e in
    let k = is_item items b.0 from text remaining b.1 in
    record { before = framing.Single d ∷ k.before; after = k.after; are = (λ i. framing.Single d ∷ k.are i); rest = k.rest }

-- before a text that is the first piece are only dispatches without an action
record IsFirst (items : List Framed) (next : ℕ) (more : List ℕ) : Type 0 where
  silent : List Dispatch
  remaining : List Framed
  are : items ≡ map framing.Single silent ++ framing.Text next more ∷ remaining
  none : actions_of silent ≡ []

is_first : (items : List Framed) (next : ℕ) (more : List ℕ) (after : List Piece) → pieces_of items ≡ Text next more ∷ after → IsFirst items next more
is_first [] next more after e = cc
is_first (framing.Text first shown ∷ items) next more after e =
    let f : first ≡ next = cc in
    let t : shown ≡ more = cc in
    record { silent = []; remaining = items; are = (λ i. framing.Text (f i) (t i) ∷ items); none = refl }
is_first (framing.Single d ∷ items) next more after e = by_actions (actions_of_dispatch d) refl (λ k. is_first items next more after k)
  where
    by_actions : (actions : List StreamAction) → actions_of_dispatch d ≡ actions → (pieces_of items ≡ Text next more ∷ after → IsFirst items next more) → IsFirst (framing.Single d ∷ items) next more
    by_actions [] k later =
        let r = later (sym (ap (λ (l : List StreamAction). map Single l ++ pieces_of items) k) ∙ e) in
        record { silent = d ∷ r.silent; remaining = r.remaining; are = (λ i. framing.Single d ∷ r.are i); none = ap (λ (l : List StreamAction). l ++ actions_of r.silent) k ∙ r.none }
    by_actions (a ∷ actions) k later =
        let m : Single a ∷ (map Single actions ++ pieces_of items) ≡ Text next more ∷ after = sym (ap (λ (l : List StreamAction). map Single l ++ pieces_of items) k) ∙ e in cc

none_first : (xs ys : List StreamAction) → xs ++ ys ≡ [] → xs ≡ []
none_first [] ys e = refl
none_first (x ∷ xs) ys e = cc

pub pieces_separate : (stream bytes : List ℕ) → AreSeparate (stream ++ bytes) (pieces stream bytes)
pieces_separate stream bytes before after from next text more e =
    let i = is_item (framed (length stream) (placed_from stream bytes)) before from text (Text next more ∷ after) e in
    let f = is_first i.after next more after (sym i.rest) in
    let b = texts_between bytes stream (length stream) i.before from text f.silent next more f.remaining (omega arith) (i.are ∙ ap (λ (l : List Framed). i.before ++ framing.Text from text ∷ l) f.are) in
    let none : actions_of (dispatches_of b.segment) ++ actions_of b.rest ≡ [] = sym (flat_map-append actions_of_dispatch (dispatches_of b.segment) b.rest) ∙ ap actions_of (sym b.first) ∙ f.none in
    (b.segment, b.lies, none_first (actions_of (dispatches_of b.segment)) (actions_of b.rest) none)
