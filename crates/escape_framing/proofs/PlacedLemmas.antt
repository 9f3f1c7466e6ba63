-- More bytes take no dispatch back, and each dispatch follows the byte that decides it.
use Rattle.std.proofs.Common.{◌≡◌, ℕ, zero, suc, ◌+◌, ◌≤◌, Some, List, [], ◌∷◌, ◌++◌, length, take, drop, map, refl, sym, ap, subst, ◌∙◌, arith, append_assoc, length-append}
use Rattle.std.specs.List.{slice_get}
use Rattle.std.proofs.lemmas.List.{append-nil, map-append, take_at, take-append-le, take-append-drop, drop_at, length-map}
use Rattle.std.proofs.lemmas.Option.{slice_get_past}
use Rattle.escape_framing.specs.Dispatch.{Dispatch}
use Rattle.escape_framing.specs.Decode.{read_on}
use Rattle.escape_framing.specs.Cut.{the_cut, dispatches, newly_decided}
use Rattle.escape_framing.specs.Placed.{IsPlaced, placed_from, placed_dispatches}
use Rattle.escape_framing.proofs.HeldLemmas.{decided_append, newly_handed}

-- ---- more bytes

decided_none : dispatches [] ≡ []
unfolding the_cut read_on
decided_none = refl

pub dispatches_grow : (s x : List ℕ) → dispatches (s ++ x) ≡ dispatches s ++ newly_decided s x
dispatches_grow s x = decided_append s x ∙ ap (λ l. dispatches s ++ l) (sym (newly_handed s x))

pub newly_join : (s x y : List ℕ) → newly_decided s (x ++ y) ≡ newly_decided s x ++ newly_decided (s ++ x) y
newly_join s x y =
    let two : dispatches (s ++ (x ++ y)) ≡ dispatches s ++ (newly_decided s x ++ newly_decided (s ++ x) y)
    = ap dispatches (sym (append_assoc s x y)) ∙ dispatches_grow (s ++ x) y ∙ ap (λ l. l ++ newly_decided (s ++ x) y) (dispatches_grow s x) ∙ append_assoc (dispatches s) _ _ in
    ap (λ l. drop (length (dispatches s)) l) two ∙ drop_at (dispatches s) _ _ refl

-- ---- the elements of two lists that are joined

module _ {X : Type 0} where
  pub at_prefix : (xs ys : List X) (i : ℕ) (x : X) → slice_get xs i ≡ Some x → slice_get (xs ++ ys) i ≡ Some x
  at_prefix [] ys i x h = cc
  at_prefix (y ∷ xs) ys zero x h = h
  at_prefix (y ∷ xs) ys (suc i) x h = at_prefix xs ys i x h

  pub at_after : (xs ys : List X) (i j : ℕ) → j ≡ length xs + i → slice_get (xs ++ ys) j ≡ slice_get ys i
  at_after [] ys i j e = ap (λ (n : ℕ). slice_get ys n) (let k : j ≡ i = omega arith in k)
  at_after (x ∷ xs) ys i zero e = absurd (omega arith)
  at_after (x ∷ xs) ys i (suc j) e = at_after xs ys i j (omega arith)

-- an element of two lists that are joined is of the one or of the other
pub data OfOne {X : Type 0} (xs ys : List X) (i : ℕ) (x : X) : Type 0 where
  here : slice_get xs i ≡ Some x → OfOne xs ys i x
  there : (j : ℕ) → i ≡ length xs + j → slice_get ys j ≡ Some x → OfOne xs ys i x

pub of_one : {X : Type 0} (xs ys : List X) (i : ℕ) (x : X) → slice_get (xs ++ ys) i ≡ Some x → OfOne xs ys i x
of_one [] ys i x h = there i (omega arith) h
of_one (y ∷ xs) ys zero x h = here h
of_one (y ∷ xs) ys (suc i) x h = one_on (of_one xs ys i x h)
  where
    one_on : OfOne xs ys i x → OfOne (y ∷ xs) ys (suc i) x
    one_on (here k) = here k
    one_on (there j e k) = there j (omega arith) k

-- ---- positions

-- the dispatches, all at one position
abbrev put_at : ℕ → List Dispatch → List (ℕ × Dispatch)
put_at n xs = map (λ a. (n, a)) xs

at_offset : (n : ℕ) (xs : List Dispatch) (i offset : ℕ) (dispatch : Dispatch) → slice_get (put_at n xs) i ≡ Some (offset, dispatch) → (n ≡ offset) × (slice_get xs i ≡ Some dispatch)
at_offset n [] i offset dispatch h = cc
at_offset n (x ∷ xs) zero offset dispatch h =
    let k : (n, x) ≡ (offset, dispatch) = cc in (ap (λ (p : ℕ × Dispatch). p.0) k, ap (λ (p : ℕ × Dispatch). Some p.1) k)
at_offset n (x ∷ xs) (suc i) offset dispatch h = at_offset n xs i offset dispatch h

-- a dispatch that is decided keeps its index, whatever bytes follow
stands : (s x more : List ℕ) (i : ℕ) (dispatch : Dispatch) → slice_get (newly_decided s x) i ≡ Some dispatch
    → slice_get (dispatches ((s ++ x) ++ more)) (length (dispatches s) + i) ≡ Some dispatch
stands s x more i dispatch h =
    let grown : dispatches ((s ++ x) ++ more) ≡ dispatches s ++ (newly_decided s x ++ newly_decided (s ++ x) more)
    = dispatches_grow (s ++ x) more ∙ ap (λ l. l ++ newly_decided (s ++ x) more) (dispatches_grow s x) ∙ append_assoc (dispatches s) _ _ in
    ap (λ l. slice_get l (length (dispatches s) + i)) grown ∙ at_after (dispatches s) _ i _ refl ∙ at_prefix (newly_decided s x) _ i dispatch h

-- a prefix decides no more than the whole
prefix_decides : (s : List ℕ) (n : ℕ) → length (dispatches (take n s)) ≤ length (dispatches s)
prefix_decides s n =
    let grown = ap length (ap dispatches (sym (take-append-drop n s)) ∙ dispatches_grow (take n s) (drop n s)) in
    omega (arith, grown, length-append (dispatches (take n s)) (newly_decided (take n s) (drop n s)))

placed_here : (prefix bytes : List ℕ) (b i : ℕ) (dispatch : Dispatch) → slice_get (newly_decided prefix (b ∷ [])) i ≡ Some dispatch
    → IsPlaced (prefix ++ b ∷ bytes) (length (dispatches prefix) + i) (length prefix + 1) dispatch
placed_here prefix bytes b i dispatch h = record {
  within = omega (arith, length-append prefix (b ∷ bytes));
  decided = λ more. ap (λ l. slice_get (dispatches (l ++ more)) (length (dispatches prefix) + i)) so_far ∙ stands prefix (b ∷ []) more i dispatch h;
  least = λ fewer l always. too_early fewer (omega arith) (always []);
}
  where
    so_far : take (length prefix + 1) (prefix ++ b ∷ bytes) ≡ prefix ++ b ∷ []
    so_far = ap (λ l. take (length prefix + 1) l) (sym (append_assoc prefix (b ∷ []) bytes)) ∙ take_at (prefix ++ b ∷ []) bytes (length prefix + 1) (length-append prefix (b ∷ []))

    too_early : (fewer : ℕ) → fewer ≤ length prefix → slice_get (dispatches (take fewer (prefix ++ b ∷ bytes) ++ [])) (length (dispatches prefix) + i) ≡ Some dispatch → ⊥
    too_early fewer l e =
        let same : take fewer (prefix ++ b ∷ bytes) ++ [] ≡ take fewer prefix = append-nil _ ∙ take-append-le fewer prefix (b ∷ bytes) l in
        let short : length (dispatches (take fewer prefix)) ≤ length (dispatches prefix) + i = omega (arith, prefix_decides prefix fewer) in
        let none = sym (slice_get_past (dispatches (take fewer prefix)) (length (dispatches prefix) + i) short) ∙ ap (λ l. slice_get (dispatches l) (length (dispatches prefix) + i)) (sym same) ∙ e in cc

placing : (bytes prefix : List ℕ) (i offset : ℕ) (dispatch : Dispatch) → slice_get (placed_from prefix bytes) i ≡ Some (offset, dispatch)
    → IsPlaced (prefix ++ bytes) (length (dispatches prefix) + i) offset dispatch
placing [] prefix i offset dispatch h = cc
placing (b ∷ bytes) prefix i offset dispatch h =
    by_part (λ j k. placing bytes (prefix ++ b ∷ []) j offset dispatch k) (of_one (put_at (length prefix + 1) (newly_decided prefix (b ∷ []))) (placed_from (prefix ++ b ∷ []) bytes) i (offset, dispatch) h)
  where
    by_part : ((j : ℕ) → slice_get (placed_from (prefix ++ b ∷ []) bytes) j ≡ Some (offset, dispatch) → IsPlaced ((prefix ++ b ∷ []) ++ bytes) (length (dispatches (prefix ++ b ∷ [])) + j) offset dispatch)
        → OfOne (put_at (length prefix + 1) (newly_decided prefix (b ∷ []))) (placed_from (prefix ++ b ∷ []) bytes) i (offset, dispatch)
        → IsPlaced (prefix ++ b ∷ bytes) (length (dispatches prefix) + i) offset dispatch
    by_part later (here k) =
        let p = at_offset (length prefix + 1) (newly_decided prefix (b ∷ [])) i offset dispatch k in
        subst (λ (n : ℕ). IsPlaced (prefix ++ b ∷ bytes) (length (dispatches prefix) + i) n dispatch) p.0 (placed_here prefix bytes b i dispatch p.1)
    by_part later (there j e k) =
        let index : length (dispatches (prefix ++ b ∷ [])) + j ≡ length (dispatches prefix) + i
        = omega (arith, ap length (dispatches_grow prefix (b ∷ [])), length-append (dispatches prefix) (newly_decided prefix (b ∷ [])), length-map {B = ℕ × Dispatch} (newly_decided prefix (b ∷ [])) (λ d. (length prefix + 1, d))) in
        subst (λ (n : ℕ). IsPlaced (prefix ++ b ∷ bytes) n offset dispatch) index
        (subst (λ l. IsPlaced l (length (dispatches (prefix ++ b ∷ [])) + j) offset dispatch) (append_assoc prefix (b ∷ []) bytes) (later j k))

pub all_placed : (stream : List ℕ) (index offset : ℕ) (dispatch : Dispatch) → slice_get (placed_dispatches stream) index ≡ Some (offset, dispatch) → IsPlaced stream index offset dispatch
all_placed stream index offset dispatch h =
    let start : length (dispatches []) + index ≡ index = omega (arith, ap length decided_none) in
    subst (λ (n : ℕ). IsPlaced stream n offset dispatch) start (placing stream [] index offset dispatch h)

-- ---- all of them

without : (n : ℕ) (xs : List Dispatch) → map (λ (p : ℕ × Dispatch). p.1) (put_at n xs) ≡ xs
without n [] = refl
without n (x ∷ xs) = ap (λ l. x ∷ l) (without n xs)

collected : (bytes prefix : List ℕ) → dispatches prefix ++ map (λ (p : ℕ × Dispatch). p.1) (placed_from prefix bytes) ≡ dispatches (prefix ++ bytes)
collected [] prefix = append-nil (dispatches prefix) ∙ ap dispatches (sym (append-nil prefix))
collected (b ∷ bytes) prefix =
    let new = newly_decided prefix (b ∷ []) in
    let rest = placed_from (prefix ++ b ∷ []) bytes in
    ap (λ l. dispatches prefix ++ l) (map-append (λ (p : ℕ × Dispatch). p.1) (put_at (length prefix + 1) new) rest ∙ ap (λ l. l ++ map (λ (p : ℕ × Dispatch). p.1) rest) (without (length prefix + 1) new))
    ∙ sym (append_assoc (dispatches prefix) new _)
    ∙ ap (λ l. l ++ map (λ (p : ℕ × Dispatch). p.1) rest) (sym (dispatches_grow prefix (b ∷ [])))
    ∙ collected bytes (prefix ++ b ∷ [])
    ∙ ap dispatches (append_assoc prefix (b ∷ []) bytes)

pub all_collected : (stream : List ℕ) → map (λ (p : ℕ × Dispatch). p.1) (placed_dispatches stream) ≡ dispatches stream
all_collected stream = ap (λ l. l ++ map (λ (p : ℕ × Dispatch). p.1) (placed_dispatches stream)) (sym decided_none) ∙ collected stream []
