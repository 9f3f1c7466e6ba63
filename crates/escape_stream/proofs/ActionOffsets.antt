-- The actions of a stream have the offsets of its dispatches.
use Rattle.std.proofs.Common.{◌≡◌, ◌≢◌, ℕ, zero, suc, ◌+◌, ◌<◌, ◌≤◌, Bool, true, false, Some, List, [], ◌∷◌, ◌++◌, length, take, drop, map, refl, sym, ap, subst, ◌∙◌, arith, append_assoc, length-append}
use Rattle.std.specs.Prelude.{nat_lt, filter}
use Rattle.std.specs.List.{flat_map, slice_get}
use Rattle.std.proofs.lemmas.Bool.Decides.{nat_tests}
use Rattle.std.proofs.lemmas.Grind.{flat_map-append}
use Rattle.std.proofs.lemmas.List.{append-nil, map-append, take_at, take-append-le, take-append-drop, drop_all}
use Rattle.std.proofs.lemmas.List.Elements.{filter-append}
use Rattle.std.proofs.lemmas.Option.{slice_get_past}
use Rattle.escape_framing.specs.Dispatch.{Dispatch}
use Rattle.escape_framing.specs.Decode.{read_on}
use Rattle.escape_framing.specs.Cut.{the_cut, dispatches, newly_decided}
use Rattle.escape_framing.specs.Placed.{placed_from}
use Rattle.escape_framing.proofs.HeldLemmas.{newly_handed}
use Rattle.escape_framing.proofs.PlacedLemmas.{dispatches_grow, newly_join, at_prefix, at_after, OfOne, here, there, of_one}
use Rattle.escape_framing.proofs.UndecidedLemmas.{AreSeparate, stops, prints, data_bytes, goes_on, stream_differs}
use Rattle.escape_stream.specs.StreamAction.{StreamAction, print, control, data_byte, exit}
use Rattle.escape_stream.specs.StreamActions.{actions_of_dispatch, actions_of, stream_actions, newly_decided_actions, placed_actions, IsPlacedAction, IsUndecidedAction}

-- ---- more bytes

pub actions_grow : (s x : List ℕ) → stream_actions (s ++ x) ≡ stream_actions s ++ newly_decided_actions s x
actions_grow s x = ap actions_of (dispatches_grow s x) ∙ flat_map-append actions_of_dispatch (dispatches s) (newly_decided s x)

pub actions_join : (s x y : List ℕ) → newly_decided_actions s (x ++ y) ≡ newly_decided_actions s x ++ newly_decided_actions (s ++ x) y
actions_join s x y = ap actions_of (newly_join s x y) ∙ flat_map-append actions_of_dispatch (newly_decided s x) (newly_decided (s ++ x) y)

no_actions : stream_actions [] ≡ []
unfolding the_cut read_on
no_actions = refl

none_new : (s : List ℕ) → newly_decided_actions s [] ≡ []
none_new s = ap actions_of (ap (λ l. drop (length (dispatches s)) (dispatches l)) (append-nil s) ∙ drop_all (length (dispatches s)) (dispatches s) (omega arith))

-- a prefix decides no more than the whole
prefix_decides : (s : List ℕ) (n : ℕ) → length (stream_actions (take n s)) ≤ length (stream_actions s)
prefix_decides s n =
    let grown = ap length (ap stream_actions (sym (take-append-drop n s)) ∙ actions_grow (take n s) (drop n s)) in
    omega (arith, grown, length-append (stream_actions (take n s)) (newly_decided_actions (take n s) (drop n s)))

-- ---- actions at a position

-- the actions, all at one position
abbrev put_at : ℕ → List StreamAction → List (ℕ × StreamAction)
put_at n xs = map (λ a. (n, a)) xs

-- the actions of dispatches that have positions
abbrev spread : List (ℕ × Dispatch) → List (ℕ × StreamAction)
spread ps = flat_map (λ (p : ℕ × Dispatch). map (λ a. (p.0, a)) (actions_of_dispatch p.1)) ps

-- the placed actions of the bytes after `prefix`
abbrev actions_from : List ℕ → List ℕ → List (ℕ × StreamAction)
actions_from prefix bytes = spread (placed_from prefix bytes)

abbrev new_at : List ℕ → ℕ → List StreamAction
new_at prefix b = newly_decided_actions prefix (b ∷ [])

spread_put : (n : ℕ) (ds : List Dispatch) → spread (map (λ d. (n, d)) ds) ≡ put_at n (actions_of ds)
spread_put n [] = refl
spread_put n (d ∷ ds) = ap (λ l. put_at n (actions_of_dispatch d) ++ l) (spread_put n ds) ∙ sym (map-append (λ a. (n, a)) (actions_of_dispatch d) (actions_of ds))

next_from : (prefix bytes : List ℕ) (b : ℕ) → actions_from prefix (b ∷ bytes) ≡ put_at (length prefix + 1) (new_at prefix b) ++ actions_from (prefix ++ b ∷ []) bytes
next_from prefix bytes b =
    flat_map-append (λ (p : ℕ × Dispatch). map (λ a. (p.0, a)) (actions_of_dispatch p.1)) (map (λ d. (length prefix + 1, d)) (newly_decided prefix (b ∷ []))) (placed_from (prefix ++ b ∷ []) bytes)
    ∙ ap (λ l. l ++ actions_from (prefix ++ b ∷ []) bytes) (spread_put (length prefix + 1) (newly_decided prefix (b ∷ [])))

length-put : (n : ℕ) (xs : List StreamAction) → length (put_at n xs) ≡ length xs
length-put n [] = refl
length-put n (x ∷ xs) = ap suc (length-put n xs)

at_offset : (n : ℕ) (xs : List StreamAction) (i offset : ℕ) (action : StreamAction) → slice_get (put_at n xs) i ≡ Some (offset, action) → (n ≡ offset) × (slice_get xs i ≡ Some action)
at_offset n [] i offset action h = cc
at_offset n (x ∷ xs) zero offset action h =
    let k : (n, x) ≡ (offset, action) = cc in (ap (λ (p : ℕ × StreamAction). p.0) k, ap (λ (p : ℕ × StreamAction). Some p.1) k)
at_offset n (x ∷ xs) (suc i) offset action h = at_offset n xs i offset action h

-- ---- each action has an offset

-- an action that is decided keeps its index, whatever bytes follow
stands : (s x more : List ℕ) (i : ℕ) (action : StreamAction) → slice_get (newly_decided_actions s x) i ≡ Some action
    → slice_get (stream_actions ((s ++ x) ++ more)) (length (stream_actions s) + i) ≡ Some action
stands s x more i action h =
    let grown : stream_actions ((s ++ x) ++ more) ≡ stream_actions s ++ (newly_decided_actions s x ++ newly_decided_actions (s ++ x) more)
    = actions_grow (s ++ x) more ∙ ap (λ l. l ++ newly_decided_actions (s ++ x) more) (actions_grow s x) ∙ append_assoc (stream_actions s) _ _ in
    ap (λ l. slice_get l (length (stream_actions s) + i)) grown ∙ at_after (stream_actions s) _ i _ refl ∙ at_prefix (newly_decided_actions s x) _ i action h

placed_here : (prefix bytes : List ℕ) (b i : ℕ) (action : StreamAction) → slice_get (new_at prefix b) i ≡ Some action
    → IsPlacedAction (prefix ++ b ∷ bytes) (length (stream_actions prefix) + i) (length prefix + 1) action
placed_here prefix bytes b i action h = record {
  within = omega (arith, length-append prefix (b ∷ bytes));
  decided = λ more. ap (λ l. slice_get (stream_actions (l ++ more)) (length (stream_actions prefix) + i)) so_far ∙ stands prefix (b ∷ []) more i action h;
  least = λ fewer l always. too_early fewer (omega arith) (always []);
}
  where
    so_far : take (length prefix + 1) (prefix ++ b ∷ bytes) ≡ prefix ++ b ∷ []
    so_far = ap (λ l. take (length prefix + 1) l) (sym (append_assoc prefix (b ∷ []) bytes)) ∙ take_at (prefix ++ b ∷ []) bytes (length prefix + 1) (length-append prefix (b ∷ []))

    too_early : (fewer : ℕ) → fewer ≤ length prefix → slice_get (stream_actions (take fewer (prefix ++ b ∷ bytes) ++ [])) (length (stream_actions prefix) + i) ≡ Some action → ⊥
    too_early fewer l e =
        let same : take fewer (prefix ++ b ∷ bytes) ++ [] ≡ take fewer prefix = append-nil _ ∙ take-append-le fewer prefix (b ∷ bytes) l in
        let short : length (stream_actions (take fewer prefix)) ≤ length (stream_actions prefix) + i = omega (arith, prefix_decides prefix fewer) in
        let none = sym (slice_get_past (stream_actions (take fewer prefix)) (length (stream_actions prefix) + i) short) ∙ ap (λ l. slice_get (stream_actions l) (length (stream_actions prefix) + i)) (sym same) ∙ e in cc

placing : (bytes prefix : List ℕ) (i offset : ℕ) (action : StreamAction) → slice_get (actions_from prefix bytes) i ≡ Some (offset, action)
    → IsPlacedAction (prefix ++ bytes) (length (stream_actions prefix) + i) offset action
placing [] prefix i offset action h = cc
placing (b ∷ bytes) prefix i offset action h =
    by_part (λ j k. placing bytes (prefix ++ b ∷ []) j offset action k)
    (of_one (put_at (length prefix + 1) (new_at prefix b)) (actions_from (prefix ++ b ∷ []) bytes) i (offset, action) (ap (λ l. slice_get l i) (sym (next_from prefix bytes b)) ∙ h))
  where
    by_part : ((j : ℕ) → slice_get (actions_from (prefix ++ b ∷ []) bytes) j ≡ Some (offset, action) → IsPlacedAction ((prefix ++ b ∷ []) ++ bytes) (length (stream_actions (prefix ++ b ∷ [])) + j) offset action)
        → OfOne (put_at (length prefix + 1) (new_at prefix b)) (actions_from (prefix ++ b ∷ []) bytes) i (offset, action)
        → IsPlacedAction (prefix ++ b ∷ bytes) (length (stream_actions prefix) + i) offset action
    by_part later (here k) =
        let p = at_offset (length prefix + 1) (new_at prefix b) i offset action k in
        subst (λ (n : ℕ). IsPlacedAction (prefix ++ b ∷ bytes) (length (stream_actions prefix) + i) n action) p.0 (placed_here prefix bytes b i action p.1)
    by_part later (there j e k) =
        let index : length (stream_actions (prefix ++ b ∷ [])) + j ≡ length (stream_actions prefix) + i
        = omega (arith, ap length (actions_grow prefix (b ∷ [])), length-append (stream_actions prefix) (new_at prefix b), length-put (length prefix + 1) (new_at prefix b)) in
        subst (λ (n : ℕ). IsPlacedAction (prefix ++ b ∷ bytes) n offset action) index
        (subst (λ l. IsPlacedAction l (length (stream_actions (prefix ++ b ∷ [])) + j) offset action) (append_assoc prefix (b ∷ []) bytes) (later j k))

pub each_placed : (stream : List ℕ) (index offset : ℕ) (action : StreamAction) → slice_get (placed_actions stream) index ≡ Some (offset, action) → IsPlacedAction stream index offset action
each_placed stream index offset action h =
    let start : length (stream_actions []) + index ≡ index = omega (arith, ap length no_actions) in
    subst (λ (n : ℕ). IsPlacedAction stream n offset action) start (placing stream [] index offset action h)

-- ---- all of them

without : (n : ℕ) (xs : List StreamAction) → map (λ (p : ℕ × StreamAction). p.1) (put_at n xs) ≡ xs
without n [] = refl
without n (x ∷ xs) = ap (λ l. x ∷ l) (without n xs)

collected : (bytes prefix : List ℕ) → map (λ (p : ℕ × StreamAction). p.1) (actions_from prefix bytes) ≡ newly_decided_actions prefix bytes
collected [] prefix = sym (none_new prefix)
collected (b ∷ bytes) prefix =
    let rest = actions_from (prefix ++ b ∷ []) bytes in
    ap (map (λ (p : ℕ × StreamAction). p.1)) (next_from prefix bytes b)
    ∙ map-append (λ (p : ℕ × StreamAction). p.1) (put_at (length prefix + 1) (new_at prefix b)) rest
    ∙ ap (λ l. l ++ map (λ (p : ℕ × StreamAction). p.1) rest) (without (length prefix + 1) (new_at prefix b))
    ∙ ap (λ l. new_at prefix b ++ l) (collected bytes (prefix ++ b ∷ []))
    ∙ sym (actions_join prefix (b ∷ []) bytes)

pub each_collected : (stream : List ℕ) → map (λ (p : ℕ × StreamAction). p.1) (placed_actions stream) ≡ stream_actions stream
each_collected stream = collected stream [] ∙ ap (λ l. l ++ newly_decided_actions [] stream) (sym no_actions) ∙ sym (actions_grow [] stream)

-- ---- the actions of a chunk

abbrev after : ℕ → (ℕ × StreamAction) → Bool
after k p = nat_lt k p.0

kept_put : (k n : ℕ) (xs : List StreamAction) → nat_lt k n ≡ true → filter (after k) (put_at n xs) ≡ put_at n xs
kept_put k n [] e = refl
kept_put k n (x ∷ xs) e = rw e (ap (λ l. (n, x) ∷ l) (kept_put k n xs e))

dropped_put : (k n : ℕ) (xs : List StreamAction) → nat_lt k n ≡ false → filter (after k) (put_at n xs) ≡ []
dropped_put k n [] e = refl
dropped_put k n (x ∷ xs) e = rw e (dropped_put k n xs e)

above : (k n : ℕ) → k < n → nat_lt k n ≡ true
above k n l = grind (arith, nat_tests)

not_above : (k n : ℕ) → n ≤ k → nat_lt k n ≡ false
not_above k n l = grind (arith, nat_tests)

all_kept : (bytes prefix : List ℕ) (k : ℕ) → k ≤ length prefix → filter (after k) (actions_from prefix bytes) ≡ actions_from prefix bytes
all_kept [] prefix k l = refl
all_kept (b ∷ bytes) prefix k l =
    let new = put_at (length prefix + 1) (new_at prefix b) in
    let rest = actions_from (prefix ++ b ∷ []) bytes in
    ap (filter (after k)) (next_from prefix bytes b) ∙ filter-append (after k) new rest
    ∙ ap (λ xs. xs ++ filter (after k) rest) (kept_put k (length prefix + 1) (new_at prefix b) (above k (length prefix + 1) (omega arith)))
    ∙ ap (λ xs. new ++ xs) (all_kept bytes (prefix ++ b ∷ []) k (omega (arith, length-append prefix (b ∷ [])))) ∙ sym (next_from prefix bytes b)

none_kept : (bytes prefix : List ℕ) (k : ℕ) → length prefix + length bytes ≤ k → filter (after k) (actions_from prefix bytes) ≡ []
none_kept [] prefix k l = refl
none_kept (b ∷ bytes) prefix k l =
    let new = put_at (length prefix + 1) (new_at prefix b) in
    let rest = actions_from (prefix ++ b ∷ []) bytes in
    ap (filter (after k)) (next_from prefix bytes b) ∙ filter-append (after k) new rest
    ∙ ap (λ xs. xs ++ filter (after k) rest) (dropped_put k (length prefix + 1) (new_at prefix b) (not_above k (length prefix + 1) (omega arith)))
    ∙ none_kept bytes (prefix ++ b ∷ []) k (omega (arith, length-append prefix (b ∷ [])))

actions_from-append : (xs ys prefix : List ℕ) → actions_from prefix (xs ++ ys) ≡ actions_from prefix xs ++ actions_from (prefix ++ xs) ys
actions_from-append [] ys prefix = ap (λ l. actions_from l ys) (sym (append-nil prefix))
actions_from-append (x ∷ xs) ys prefix =
    let new = put_at (length prefix + 1) (new_at prefix x) in
    next_from prefix (xs ++ ys) x ∙ ap (λ l. new ++ l) (actions_from-append xs ys (prefix ++ x ∷ []))
    ∙ sym (append_assoc new (actions_from (prefix ++ x ∷ []) xs) (actions_from ((prefix ++ x ∷ []) ++ xs) ys))
    ∙ ap (λ l. l ++ actions_from ((prefix ++ x ∷ []) ++ xs) ys) (sym (next_from prefix xs x))
    ∙ ap (λ l. actions_from prefix (x ∷ xs) ++ actions_from l ys) (append_assoc prefix (x ∷ []) xs)

pub of_piece : (stream more : List ℕ) → newly_decided_actions stream more ≡ map (λ (p : ℕ × StreamAction). p.1) (filter (λ (p : ℕ × StreamAction). nat_lt (length stream) p.0) (placed_actions (stream ++ more)))
of_piece stream more =
    let k = length stream in
    let parts : filter (after k) (actions_from [] (stream ++ more)) ≡ actions_from stream more
    = ap (filter (after k)) (actions_from-append stream more []) ∙ filter-append (after k) (actions_from [] stream) (actions_from stream more)
    ∙ ap (λ xs. xs ++ filter (after k) (actions_from stream more)) (none_kept stream [] k (omega arith)) ∙ all_kept more stream k (omega arith) in
    sym (ap (map (λ (p : ℕ × StreamAction). p.1)) parts ∙ collected more stream)

-- ---- no further one

-- a dispatch has this action, and no other
abbrev alone : Dispatch → StreamAction → Type 0
alone d a = actions_of_dispatch d ≡ a ∷ []

record TwoActions (first second : Dispatch) : Type 0 where
  one : StreamAction
  other : StreamAction
  is_one : alone first one
  is_other : alone second other
  differ : one ≢ other

two_actions : (first second : Dispatch) → AreSeparate first second → TwoActions first second
two_actions first second (stops e f) = record { one = control 24; other = control 26; is_one = ap actions_of_dispatch e; is_other = ap actions_of_dispatch f; differ = not_alike 24 26 (λ k. absurd (omega arith)) }
  where
    not_alike : (a b : ℕ) → a ≢ b → control a ≢ control b
    not_alike a b n k = n (let l : a ≡ b = cc in l)
two_actions first second (prints a b e f n) = record { one = print a; other = print b; is_one = ap actions_of_dispatch e; is_other = ap actions_of_dispatch f; differ = λ k. n (let l : a ≡ b = cc in l) }
two_actions first second (data_bytes a b e f n) = record { one = data_byte a; other = data_byte b; is_one = ap actions_of_dispatch e; is_other = ap actions_of_dispatch f; differ = λ k. n (let l : a ≡ b = cc in l) }
two_actions first second (goes_on b e f) = record { one = exit; other = data_byte b; is_one = ap actions_of_dispatch e; is_other = ap actions_of_dispatch f; differ = λ k. cc }

pub undecided_action : (stream : List ℕ) → IsUndecidedAction stream
undecided_action stream =
    let d = stream_differs stream in
    let t = two_actions d.first d.second d.separate in
    record {
      one = d.one;
      other = d.other;
      first = t.one;
      second = t.other;
      after_first = actions_of d.after_first;
      after_second = actions_of d.after_second;
      gives_first = ap actions_of (newly_handed stream d.one ∙ d.gives_first) ∙ ap (λ l. l ++ actions_of d.after_first) t.is_one;
      gives_second = ap actions_of (newly_handed stream d.other ∙ d.gives_second) ∙ ap (λ l. l ++ actions_of d.after_second) t.is_other;
      differ = t.differ;
    }
