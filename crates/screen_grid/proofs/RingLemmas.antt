-- The items of a list from an index on.
use Rattle.std.proofs.Common.{◌≡◌, ℕ, zero, suc, ◌+◌, ◌-◌, ◌<◌, ◌≤◌, List, [], ◌∷◌, ◌++◌, length, get_or, take, drop, set, swap, refl, sym, ap, ◌∙◌, arith, rules, length-append, length-drop, length-take-le, length-set}
use Rattle.std.specs.Prelude.{min}
use Rattle.std.specs.List.{refill}
use Rattle.std.proofs.lemmas.List.{drop_at, drop-append-le, drop-drop, drop-set-lt, get_or-drop, take-set-le, take_at, take_more, take_more_set, drop-take, get_or-set_same, same_lists, places, take-append-le, take-take, take_all}
use Rattle.std.proofs.lemmas.List.Edits.{swap_is}
use Rattle.std.proofs.lemmas.Bool.{cases_eq, cases_lt}

module _ {X : Type 0} (d : X) (old now new : List X) (start at : ℕ) where
  -- one item more came to the start
  pub brought_more : 0 < start → start + at < length old → length now ≡ length old → take at now ≡ take at (drop start old) → drop (start + at) now ≡ drop (start + at) old → new ≡ swap now at (start + at)
      → take (at + 1) new ≡ take (at + 1) (drop start old)
  brought_more some h n prefix rest e =
      let y = get_or now (start + at) d in
      let rest_len = length-drop start old in
      let same : y ≡ get_or (drop start old) at d =
      ap (λ m. get_or now m d) (let k : start + at ≡ start + at + 0 = omega arith in k) ∙ sym (get_or-drop (start + at) now 0 d) ∙ ap (λ (l : List X). get_or l 0 d) rest ∙ get_or-drop (start + at) old 0 d
      ∙ ap (λ m. get_or old m d) (let k : start + at + 0 ≡ start + at = omega arith in k) ∙ sym (get_or-drop start old at d) in
      ap (take (at + 1)) (e ∙ sym (swap_is now at (start + at) d (omega arith) (omega arith)))
      ∙ take-set-le (at + 1) (set now at y) (start + at) (get_or now at d) (omega arith)
      ∙ take_more_set now at y (omega arith)
      ∙ (λ i. prefix i ++ same i ∷ [])
      ∙ sym (take_more (drop start old) at d (omega arith))

  -- the items after that keep their positions
  pub rest_stay : start + at < length old → length now ≡ length old → drop (start + at) now ≡ drop (start + at) old → new ≡ swap now at (start + at) → drop (start + (at + 1)) new ≡ drop (start + (at + 1)) old
  rest_stay h n rest e =
      let y = get_or now (start + at) d in
      let next : start + (at + 1) ≡ start + at + 1 = omega arith in
      ap (drop (start + (at + 1))) (e ∙ sym (swap_is now at (start + at) d (omega arith) (omega arith)))
      ∙ drop-set-lt (start + (at + 1)) (set now at y) (start + at) (get_or now at d) (omega arith)
      ∙ drop-set-lt (start + (at + 1)) now at y (omega arith)
      ∙ ap (λ m. drop m now) next ∙ sym (drop-drop 1 (start + at) now) ∙ ap (drop 1) rest ∙ drop-drop 1 (start + at) old ∙ sym (ap (λ m. drop m old) next)

pub brought : {X : Type 0} (old now new : List X) (start at : ℕ) → 0 < start → start + at < length old → length now ≡ length old → take at now ≡ take at (drop start old) → drop (start + at) now ≡ drop (start + at) old → new ≡ swap now at (start + at)
    → (take (at + 1) new ≡ take (at + 1) (drop start old)) × (drop (start + (at + 1)) new ≡ drop (start + (at + 1)) old)
brought [] now new start at some h n prefix rest e = absurd (omega arith)
brought (d ∷ ys) now new start at some h n prefix rest e = (brought_more d (d ∷ ys) now new start at some h n prefix rest e, rest_stay d (d ∷ ys) now new start at h n rest e)

-- the first ones of the first ones
first_of_both : {X : Type 0} (n len : ℕ) (xs : List X) → take n (take len xs) ≡ take (min len n) xs
first_of_both zero len xs = let e : 0 ≡ min len 0 = omega arith in ap (λ m. take m xs) e
first_of_both (suc n) zero xs = let e : 0 ≡ min 0 (suc n) = omega arith in ap (λ m. take m xs) e
first_of_both (suc n) (suc len) [] = let e : suc (min len n) ≡ min (suc len) (suc n) = omega arith in ap (λ m. take m []) e
first_of_both {X} (suc n) (suc len) (x ∷ xs) = let e : suc (min len n) ≡ min (suc len) (suc n) = omega arith in ap (λ (l : List X). x ∷ l) (first_of_both n len xs) ∙ ap (λ m. take m (x ∷ xs)) e

-- only the first ones stay
pub first_left : {X : Type 0} (xs new value : List X) (start len n m : ℕ) → m ≡ min len n → new ≡ take (start + m) xs → take len (drop start xs) ≡ value → take m (drop start new) ≡ take n value
first_left xs new value start len n m e k v =
    ap (λ (l : List _). take m (drop start l)) k ∙ ap (take m) (drop-take start m xs) ∙ take-take m m (drop start xs) (omega arith) ∙ ap (λ i. take i (drop start xs)) e
    ∙ sym (first_of_both n len (drop start xs)) ∙ ap (take n) v

-- one more item follows the items
pub one_after : {X : Type 0} (xs new : List X) (start len : ℕ) (x : X) → start + len ≤ length xs → take (start + len + 1) new ≡ take (start + len) xs ++ x ∷ [] → take (len + 1) (drop start new) ≡ take len (drop start xs) ++ x ∷ []
one_after {X} xs new start len x h e =
    let next : start + (len + 1) ≡ start + len + 1 = omega arith in
    let n = length-take-le (start + len) xs h in
    sym (drop-take start (len + 1) new) ∙ ap (λ m. drop start (take m new)) next ∙ ap (drop start) e
    ∙ drop-append-le start (take (start + len) xs) (x ∷ []) (omega arith) ∙ ap (λ (l : List X). l ++ x ∷ []) (drop-take start len xs)

-- how many they are
pub counted : {X : Type 0} (xs value : List X) (start len : ℕ) → start + len ≤ length xs → take len (drop start xs) ≡ value → length value ≡ len
counted xs value start len h e = let n = length-drop start xs in sym (ap length e) ∙ length-take-le len (drop start xs) (omega arith)

-- from the next index on come the items after the first one
pub turned_on : {X : Type 0} (xs value : List X) (start len : ℕ) → take len (drop start xs) ≡ value → 0 < length value → start + len ≤ length xs → take (length value - 1) (take len (drop (start + 1) xs)) ≡ drop 1 value
turned_on xs value start len e some h =
    let n = counted xs value start len h e in
    let less : length value - 1 ≡ len - 1 = omega arith in
    let more : len ≡ 1 + (len - 1) = omega arith in
    ap (λ m. take m (take len (drop (start + 1) xs))) less
    ∙ take-take (len - 1) len (drop (start + 1) xs) (omega arith)
    ∙ ap (take (len - 1)) (sym (drop-drop 1 start xs))
    ∙ sym (drop-take 1 (len - 1) (drop start xs))
    ∙ ap (λ m. drop 1 (take m (drop start xs))) (sym more) ∙ ap (drop 1) e

-- in a list of that length they are as many from any position on
pub as_many : {X : Type 0} (xs ys value : List X) (start next len : ℕ) → take len (drop start xs) ≡ value → start + len ≤ length xs → length ys ≡ length xs → next + len ≤ length xs → length (take len (drop next ys)) ≡ length value
as_many xs ys value start next len e h same k =
    let n = counted xs value start len h e in
    let m = length-drop next ys in
    length-take-le len (drop next ys) (omega arith) ∙ sym n

-- where the first becomes the last
pub rotated_prefix : {X : Type 0} (xs : List X) → take (length xs - 1) (drop 1 xs ++ take 1 xs) ≡ drop 1 xs
rotated_prefix [] = refl
rotated_prefix (x ∷ xs) = take_at xs (x ∷ []) (length (x ∷ xs) - 1) (omega arith)

-- ---- items that are lent

-- of a list that is filled up from another, the first ones are filled up from its first ones
take-refill : {X : Type 0} (n : ℕ) (xs ws : List X) → n ≤ length xs → take n (refill (length xs) xs ws) ≡ refill (length (take n xs)) (take n xs) ws
take-refill n xs ws h =
    let prefix = length-take-le n xs h in
    same_lists _ _ (search (rules, places)) (λ k d j. grind (arith, places, cases_lt k (length ws)))

-- items come over those from a position on
pub all_lent : {X : Type 0} (xs ws : List X) (n start len : ℕ) → n ≡ length xs → start + len ≤ n
    → take len (drop start (take n ((take start xs ++ (ws ++ drop (length ws) (drop start xs))) ++ drop (length (take start xs ++ (ws ++ drop (length ws) (drop start xs)))) xs)))
    ≡ refill (length (take len (drop start xs))) (take len (drop start xs)) ws
all_lent {X} xs ws n start len e h =
    let part = drop start xs in
    let more = ws ++ drop (length ws) part in
    let ys = take start xs ++ more in
    let prefix = length-take-le start xs (omega arith) in
    let rest = length-drop start xs in
    let after = length-drop (length ws) part in
    let long = length-append ws (drop (length ws) part) in
    let whole = length-append (take start xs) more in
    let left : n ≡ start + length part = omega arith in
    ap (λ (l : List X). take len (drop start l)) (take-append-le n ys (drop (length ys) xs) (omega arith))
    ∙ ap (λ m. take len (drop start (take m ys))) left
    ∙ ap (take len) (drop-take start (length part) ys ∙ ap (take (length part)) (drop_at (take start xs) more start prefix))
    ∙ take-refill len part ws (omega arith)

-- a list that is filled up from another of its length
pub refilled : {X : Type 0} (xs ws : List X) → length ws ≡ length xs → refill (length xs) xs ws ≡ ws
refilled xs ws e = take-append-le (length xs) ws (drop (length ws) xs) (omega arith) ∙ take_all (length xs) ws (omega arith)

pub refilled_by : {X : Type 0} (n : ℕ) (xs ws : List X) → n ≡ length xs → length ws ≡ length xs → take n (ws ++ drop (length ws) xs) ≡ ws
refilled_by n xs ws h e = ap (λ m. take m (ws ++ drop (length ws) xs)) h ∙ refilled xs ws e

-- an item replaces one of them
pub one_lent : {X : Type 0} (xs : List X) (start len at : ℕ) (x : X) → at < len → start + len ≤ length xs → take len (drop start (set xs (start + at) x)) ≡ set (take len (drop start xs)) at x
one_lent xs start len at x h k =
    let long = length-set xs (start + at) x in
    same_lists _ _ (search (rules, places)) (λ j d i. grind (arith, places, get_or-set_same, cases_eq j at))
