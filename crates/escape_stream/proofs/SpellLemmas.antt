-- Pieces, their texts character by character, are the actions of the placed dispatches.
use Rattle.std.proofs.Common.{◌≡◌, ℕ, List, [], ◌∷◌, ◌++◌, map, refl, ap, ◌∙◌}
use Rattle.escape_framing.specs.Dispatch.{Dispatch, Print}
use Rattle.escape_framing.specs.Framed as framing
use Rattle.escape_framing.specs.Framed.{Framed, framed}
use Rattle.escape_framing.specs.Placed.{placed_from}
use Rattle.escape_framing.proofs.SpellLemmas.{framed_spells}
use Rattle.escape_stream.specs.StreamAction.{StreamAction, print}
use Rattle.escape_stream.specs.StreamActions.{actions_of_dispatch, actions_of}
use Rattle.escape_stream.specs.Pieces.{Piece, Single, pieces_of, pieces, Spells, nothing, alone, in_text}

all_alone : (actions : List StreamAction) (items : List Piece) (remaining : List StreamAction) → Spells items remaining → Spells (map Single actions ++ items) (actions ++ remaining)
all_alone [] items remaining h = h
all_alone (a ∷ actions) items remaining h = alone a (map Single actions ++ items) (actions ++ remaining) (all_alone actions items remaining h)

prints_of : (cs : List ℕ) (ds : List Dispatch) → actions_of (map Print cs ++ ds) ≡ map print cs ++ actions_of ds
prints_of [] ds = refl
prints_of (c ∷ cs) ds = ap (λ l. print c ∷ l) (prints_of cs ds)

spelled : (items : List Framed) (ds : List Dispatch) → framing.Spells items ds → Spells (pieces_of items) (actions_of ds)
spelled [] ds framing.nothing = nothing
spelled (i ∷ items) ds (framing.alone d rest remaining h) = all_alone (actions_of_dispatch d) (pieces_of rest) (actions_of remaining) (spelled rest remaining h)
spelled (i ∷ items) ds (framing.in_text from c cs text rest remaining all e f h) =
    in_text from c cs text (pieces_of rest) (actions_of remaining) (actions_of all) e (ap actions_of f ∙ prints_of (c ∷ cs) remaining) (spelled rest remaining h)

pub pieces_spell : (stream bytes : List ℕ) → Spells (pieces stream bytes) (actions_of (map (λ (p : ℕ × Dispatch). p.1) (placed_from stream bytes)))
pieces_spell stream bytes = spelled _ _ (framed_spells _ (placed_from stream bytes))
