-- Calls of a callback, one after another.
use Rattle.std.proofs.Common.{◌≡◌, List, [], ◌∷◌, ◌++◌, refl}
use Rattle.std.specs.List.{FoldsTo}
use Rattle.escape_framing.specs.Held.{Held, hand_out}
use Rattle.escape_stream.specs.declared.action.Action.{Action}
use Rattle.escape_stream.specs.StreamAction.{StreamAction}
use Rattle.escape_stream.specs.StreamActionView.{value_of}
use Rattle.escape_stream.specs.Parsing.{by_value, IsCalledAt}

-- no call
pub called_none : {F : Type 0} (step : F → Action → F → Type 0) (f : F) → IsCalledAt step f [] f
called_none step f = record { calls = refl }

-- one call, and then the calls of the remaining actions
pub called_next : {F : Type 0} (step : F → Action → F → Type 0) (f f' last : F) (a : Action) (before after : List StreamAction) → before ≡ value_of a ∷ after → step f a f' → IsCalledAt step f' after last → IsCalledAt step f before last
called_next step f f' last a before after e now then = rw e (record { calls = (f', (a, refl, now), then.calls) })

folds_then : {F : Type 0} (R : F → StreamAction → F → Type 0) (f g h : F) (xs ys : List StreamAction) → FoldsTo R f xs g → FoldsTo R g ys h → FoldsTo R f (xs ++ ys) h
folds_then R f g h [] ys p q = rw p q
folds_then R f g h (x ∷ xs) ys p q = (p.0, p.1, folds_then R p.0 g h xs ys p.2 q)

-- the calls of two lists of actions in turn
pub called_then : {F : Type 0} (step : F → Action → F → Type 0) (f g h : F) (xs ys : List StreamAction) → IsCalledAt step f xs g → IsCalledAt step g ys h → IsCalledAt step f (xs ++ ys) h
called_then step f g h xs ys p q = record { calls = folds_then (by_value step) f g h xs ys p.calls q.calls }

pub held_end : (h : Held) → (hand_out h []).held ≡ h
unfolding hand_out
held_end h = refl

pub handed_end : (h : Held) → (hand_out h []).dispatches ≡ []
unfolding hand_out
handed_end h = refl
