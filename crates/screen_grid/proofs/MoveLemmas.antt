-- Lines that are changed one after another, and moved.
use Rattle.std.proofs.Common.{◌≡◌, ℕ, zero, suc, ◌+◌, ◌-◌, ◌<◌, ◌≤◌, List, [], ◌∷◌, ◌++◌, length, get_or, take, drop, set, map, replicate, refl, sym, ap, ◌∙◌, arith, append_assoc, length-append, length-drop}
use Rattle.std.proofs.lemmas.List.{take_at, drop_at, length-map, length-take-le, map-append}
use Rattle.cell_edits.proofs.RunLemmas.{written_more}

take_next : {X : Type 0} (k : ℕ) (ys : List X) (d : X) → k < length ys → take (suc k) ys ≡ take k ys ++ get_or ys k d ∷ []
take_next k [] d h = absurd (omega arith)
take_next zero (y ∷ ys) d h = refl
take_next {X} (suc k) (y ∷ ys) d h = ap (λ (l : List X). y ∷ l) (take_next k ys d (omega arith))

get_after : {X : Type 0} (done rest : List X) (i : ℕ) (d : X) → length done ≡ i → get_or (done ++ rest) i d ≡ get_or rest 0 d
get_after [] rest i d e = let z : i ≡ 0 = omega arith in ap (λ n. get_or rest n d) z
get_after (x ∷ done) rest zero d e = absurd (omega arith)
get_after (x ∷ done) rest (suc i) d e = get_after done rest i d (omega arith)

get_dropped : {X : Type 0} (xs : List X) (from k : ℕ) (d : X) → get_or (drop from xs) k d ≡ get_or xs (from + k) d
get_dropped xs zero k d = let e : k ≡ 0 + k = omega arith in ap (λ n. get_or xs n d) e
get_dropped [] (suc from) k d = refl
get_dropped (x ∷ xs) (suc from) k d = let e : suc (from + k) ≡ suc from + k = omega arith in get_dropped xs from k d ∙ ap (λ n. get_or (x ∷ xs) n d) e

-- one element more was changed
pub changed_more : {X : Type 0} (f : X → X) (init now : List X) (from at : ℕ) (x d : X) → from ≤ at → at < length init → now ≡ take from init ++ map f (take (at - from) (drop from init)) ++ drop at init → x ≡ f (get_or now at d)
    → set now at x ≡ take from init ++ map f (take (at + 1 - from) (drop from init)) ++ drop (at + 1) init
changed_more {X} f init now from at x d o h e k =
    let remaining = drop from init in
    let done = take from init ++ map f (take (at - from) remaining) in
    let count = length-take-le from init (omega arith) in
    let rest = length-drop from init in
    let some = length-take-le (at - from) remaining (omega arith) in
    let mapped = length-map (take (at - from) remaining) f in
    let both = length-append (take from init) (map f (take (at - from) remaining)) in
    let long : length done ≡ at = omega arith in
    let on : from + (at - from) ≡ at + 0 = omega arith in
    let was : get_or now at d ≡ get_or remaining (at - from) d =
    ap (λ l. get_or l at d) e ∙ get_after done (drop at init) at d long ∙ get_dropped init at 0 d ∙ ap (λ n. get_or init n d) (sym on) ∙ sym (get_dropped init from (at - from) d) in
    let next : suc (at - from) ≡ at + 1 - from = omega arith in
    written_more init now done at x e long h
    ∙ ap (λ (l : List X). l ++ drop (at + 1) init)
    (append_assoc (take from init) (map f (take (at - from) remaining)) (x ∷ [])
    ∙ ap (λ (l : List X). take from init ++ l)
    (ap (λ y. map f (take (at - from) remaining) ++ y ∷ []) (k ∙ ap f was)
    ∙ sym (map-append f (take (at - from) remaining) (get_or remaining (at - from) d ∷ []))
    ∙ ap (map f) (sym (take_next (at - from) remaining d (omega arith)))
    ∙ ap (λ n. map f (take n remaining)) next))

-- ---- parts of a list

-- the elements between two positions were changed
pub changed_between : {X : Type 0} (f : X → X) (before part rest xs : List X) (from after : ℕ) → length before ≡ from → length before + length part ≡ after → xs ≡ before ++ part ++ rest
    → take from xs ++ map f (take (after - from) (drop from xs)) ++ drop after xs ≡ before ++ map f part ++ rest
changed_between {X} f before part rest xs from after p q e =
    let both = length-append before part in
    let whole : length (before ++ part) ≡ after = omega arith in
    let some : length part ≡ after - from = omega arith in
    let split : xs ≡ before ++ (part ++ rest) = e ∙ append_assoc before part rest in
    let prefix : take from xs ≡ before = ap (take from) split ∙ take_at before (part ++ rest) from p in
    let remaining : drop from xs ≡ part ++ rest = ap (drop from) split ∙ drop_at before (part ++ rest) from p in
    let middle : take (after - from) (drop from xs) ≡ part = ap (take (after - from)) remaining ∙ take_at part rest (after - from) some in
    let end_is : drop after xs ≡ rest = ap (drop after) e ∙ drop_at (before ++ part) rest after whole in
    λ i. prefix i ++ map f (middle i) ++ end_is i

module _ {X : Type 0} (f : X → X) (lines new : List X) (first after count : ℕ) (o : first ≤ after) (w : after ≤ length lines) (k : first + count ≤ after) where
  abbrev region : List X
  region = take (after - first) (drop first lines)

  prefix_length : length (take first lines) ≡ first
  prefix_length = length-take-le first lines (omega arith)

  region_length : length region ≡ after - first
  region_length = let r = length-drop first lines in length-take-le (after - first) (drop first lines) (omega arith)

  -- the region's elements moved to the start, and those that left it were changed
  pub moved_up : new ≡ take first lines ++ (drop count region ++ take count region) ++ drop after lines
      → take (after - count) new ++ map f (take (after - (after - count)) (drop (after - count) new)) ++ drop after new
      ≡ take first lines ++ (drop count region ++ map f (take count region)) ++ drop after lines
  moved_up e =
      let a = prefix_length in
      let n = region_length in
      let b = length-drop count region in
      let c = length-take-le count region (omega arith) in
      let ab = length-append (take first lines) (drop count region) in
      changed_between f (take first lines ++ drop count region) (take count region) (drop after lines) new (after - count) after (omega arith) (omega arith)
      (e ∙ ap (λ (xs : List X). xs ++ drop after lines) (sym (append_assoc (take first lines) (drop count region) (take count region))))
      ∙ ap (λ (xs : List X). xs ++ drop after lines) (append_assoc (take first lines) (drop count region) (map f (take count region)))

  -- the region's elements moved to the end, and those that left it were changed
  pub moved_down : new ≡ take first lines ++ (drop (after - first - count) region ++ take (after - first - count) region) ++ drop after lines
      → take first new ++ map f (take (first + count - first) (drop first new)) ++ drop (first + count) new
      ≡ take first lines ++ (map f (drop (length region - count) region) ++ take (length region - count) region) ++ drop after lines
  moved_down e =
      let a = prefix_length in
      let n = region_length in
      let kept : after - first - count ≡ length region - count = omega arith in
      let b = length-drop (after - first - count) region in
      let dropped = drop (after - first - count) region in
      let stay = take (after - first - count) region in
      changed_between f (take first lines) dropped (stay ++ drop after lines) new first (first + count) a (omega arith)
      (e ∙ ap (λ (xs : List X). xs ++ drop after lines) (sym (append_assoc (take first lines) dropped stay)) ∙ append_assoc (take first lines ++ dropped) stay (drop after lines))
      ∙ sym (append_assoc (take first lines ++ map f dropped) stay (drop after lines)) ∙ ap (λ (xs : List X). xs ++ drop after lines) (append_assoc (take first lines) (map f dropped) stay)
      ∙ ap (λ m. take first lines ++ (map f (drop m region) ++ take m region) ++ drop after lines) kept

pub one_more : {X : Type 0} (n : ℕ) (x : X) → replicate n x ++ x ∷ [] ≡ replicate (suc n) x
one_more zero x = refl
one_more {X} (suc n) x = ap (λ (xs : List X). x ∷ xs) (one_more n x)
