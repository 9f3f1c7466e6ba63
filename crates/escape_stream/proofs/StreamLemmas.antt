-- Walks over lists of actions: their texts, and an action that joins the last of them.
use Rattle.std.proofs.Common.{◌≡◌, ℕ, zero, suc, ◌+◌, ◌<◌, ◌≤◌, Bool, true, false, cond, ◌&&◌, List, [], ◌∷◌, ◌++◌, length, get_or, set, drop, map, arith, refl, ap, subst, sym, ◌∙◌, append_assoc, append-nil}
use Rattle.std.proofs.lemmas.List.{at_drop_more, at_drop_all}
use Rattle.escape_stream.specs.declared.action.Action.{Action}
use Rattle.escape_stream.specs.StreamAction.{StreamAction, print_string, printed}
use Rattle.escape_stream.specs.StreamActionView.{value_of}
use Rattle.escape_stream.specs.StreamText.{action_text, closes_string, text_after, texts_after, stream_text, ends_closed, begins_terminated, TextsJoin}
use Rattle.escape_stream.specs.Joining.{JoinsPair, JoinsLast}

-- ---- Texts

-- the steps of a walk that writes actions, with the bytes so far
pub encode_next : (bytes : List ℕ) (actions : List Action) (i : ℕ) (action : Action) (closed : Bool) → i < length actions → action ≡ get_or actions i action
    → bytes ++ text_after closed (value_of action) ++ texts_after (closes_string (value_of action)) (map value_of (drop (i + 1) actions)) ≡ bytes ++ texts_after closed (map value_of (drop i actions))
encode_next bytes actions i action closed below item =
    append_assoc bytes (text_after closed (value_of action)) (texts_after (closes_string (value_of action)) (map value_of (drop (i + 1) actions)))
    ∙ ap (λ (a : Action). bytes ++ texts_after closed (value_of a ∷ map value_of (drop (i + 1) actions))) item
    ∙ sym (at_drop_more (λ (rest : List Action). bytes ++ texts_after closed (map value_of rest)) actions i action below)

pub encode_end : (bytes : List ℕ) (actions : List Action) (i : ℕ) (closed : Bool) → length actions ≤ i → bytes ++ texts_after closed (map value_of (drop i actions)) ≡ bytes
encode_end bytes actions i closed h = at_drop_all (λ (rest : List Action). bytes ++ texts_after closed (map value_of rest)) actions i h ∙ append-nil bytes

-- the texts of a list whose first action is not closed twice
not_twice : (closed : Bool) (b : List StreamAction) → (closed && begins_terminated b) ≡ false → texts_after closed b ≡ texts_after false b
not_twice closed [] h = refl
not_twice closed (x ∷ b) h = ap (λ v. cond v [] (action_text x) ++ texts_after (closes_string x) b) h

texts_after-append : (closed : Bool) (a b : List StreamAction) → (ends_closed closed a && begins_terminated b) ≡ false → texts_after closed (a ++ b) ≡ texts_after closed a ++ stream_text b
texts_after-append closed [] b h = not_twice closed b h
texts_after-append closed (x ∷ a) b h =
    ap (λ rest. text_after closed x ++ rest) (texts_after-append (closes_string x) a b h)
    ∙ sym (append_assoc (text_after closed x) (texts_after (closes_string x) a) (stream_text b))

pub texts_join-lem : TextsJoin
texts_join-lem a b h = texts_after-append false a b h

-- ---- The last action

-- the last action joins with the next one in the list as it does alone
single : (last next after : StreamAction) (joined : Bool) → JoinsPair last next joined after → JoinsLast (last ∷ []) next joined (after ∷ [])
single last next after true h = ap (λ a. a ∷ []) h.1 ∙ sym (ap (λ v. cond v (print_string (printed last ++ printed next) ∷ []) (last ∷ next ∷ [])) h.0)
single last next after false h =
    (ap (λ a. a ∷ []) h.1, ap (λ v. cond v (print_string (printed last ++ printed next) ∷ []) (last ∷ next ∷ [])) h.0)

after_first : (first second : StreamAction) (remaining after : List StreamAction) (next : StreamAction) (joined : Bool) → JoinsLast (second ∷ remaining) next joined after → JoinsLast (first ∷ second ∷ remaining) next joined (first ∷ after)
after_first first second remaining after next true h = ap (λ rest. first ∷ rest) h
after_first first second remaining after next false h = (ap (λ rest. first ∷ rest) h.0, ap (λ rest. first ∷ rest) h.1)

pub joins_at : (actions : List Action) (n : ℕ) (last after : Action) (next : StreamAction) (joined : Bool) → length actions ≡ suc n → last ≡ get_or actions n last
    → JoinsPair (value_of last) next joined (value_of after) → JoinsLast (map value_of actions) next joined (map value_of (set actions n after))
joins_at [] n last after next joined len item h = absurd (omega (arith, len))
joins_at (a ∷ []) zero last after next joined len item h = single (value_of a) next (value_of after) joined (subst (λ (x : Action). JoinsPair (value_of x) next joined (value_of after)) item h)
joins_at (a ∷ []) (suc n) last after next joined len item h = absurd (omega (arith, len))
joins_at (a ∷ b ∷ actions) zero last after next joined len item h = absurd (omega (arith, len))
joins_at (a ∷ b ∷ actions) (suc n) last after next joined len item h =
    after_first (value_of a) (value_of b) (map value_of actions) (map value_of (set (b ∷ actions) n after)) next joined (joins_at (b ∷ actions) n last after next joined (cc len) item h)

-- an action of an equal value, at the index of another, leaves the values of the list
pub kept_at : (actions : List Action) (n : ℕ) (last after : Action) → last ≡ get_or actions n last → value_of after ≡ value_of last → map value_of (set actions n after) ≡ map value_of actions
kept_at [] n last after item h = refl
kept_at (a ∷ actions) zero last after item h = ap (λ v. v ∷ map value_of actions) (h ∙ ap value_of item)
kept_at (a ∷ actions) (suc n) last after item h = ap (λ rest. value_of a ∷ rest) (kept_at actions n last after item h)
