-- Parameters put in the order of their keys.
use Rattle.std.proofs.Common.{◌≡◌, List, [], ◌∷◌, ◌++◌, refl, sym, ◌∙◌, ap, fold}
use Rattle.std.specs.List.{AllByRecursion}
use Rattle.std.specs.List.Sorted.{IsStrictlySortedBy}
use Rattle.std.specs.BTreeMap.{insert_entry}
use Rattle.std.specs.Map.{keys_of}
use Rattle.std.specs.Ordering.{match_ordering, ordering_reverse}
use Rattle.std.specs.Cmp.{IsTotalOrder}
use Rattle.std.specs.declared.cmp.Ordering.{Ordering}
use Rattle.std.specs.declared.cmp.Ordering.TheVariants.{Less, Equal, Greater}
use Rattle.std.proofs.lemmas.List.{append_assoc, append-nil}
use Rattle.cell_base.proofs.Fields.{all_joined}

-- ---- the order of keys

module _ {K : Type 0} (R : K → K → Ordering) where
  abbrev pub Above : K → List K → Type 0
  Above k = AllByRecursion (λ q. R k q ≡ Less)

  module _ (o : IsTotalOrder R) where
    above_more : (k q : K) (ks : List K) → R k q ≡ Less → Above q ks → Above k ks
    above_more k q [] e h = tt
    above_more k q (j ∷ ks) e h = (o.trans k q j e h.0, above_more k q ks e h.1)

    turned_Less : (k q : K) → R k q ≡ Greater → R q k ≡ Less
    turned_Less k q e = o.antisymm q k ∙ ap ordering_reverse e

    turned_Greater : (k q : K) → R q k ≡ Less → R k q ≡ Greater
    turned_Greater k q e = o.antisymm k q ∙ ap ordering_reverse e

module _ {K X : Type 0} (R : K → K → Ordering) where
  abbrev pub put : List (K × X) → K × X → List (K × X)
  put m p = insert_entry R m p.0 p.1

  -- ---- properties of each key and of each value

  module _ (A : K → Type 0) (B : X → Type 0) where
    abbrev pub Each : List (K × X) → Type 0
    Each = AllByRecursion (λ e. A e.0 × B e.1)

    put_each_by : (e : K × X) (es more : List (K × X)) (k : K) (v : X) (o : Ordering) → A k → B v → Each (e ∷ es) → Each more → Each (match_ordering o ((k, v) ∷ e ∷ es) ((e.0, v) ∷ es) (e ∷ more))
    put_each_by e es more k v Less a b h m = ((a, b), h)
    put_each_by e es more k v Equal a b h m = ((h.0.0, b), h.1)
    put_each_by e es more k v Greater a b h m = (h.0, m)

    pub put_each : (es : List (K × X)) (k : K) (v : X) → A k → B v → Each es → Each (insert_entry R es k v)
    put_each [] k v a b h = ((a, b), tt)
    put_each (e ∷ es) k v a b h = put_each_by e es (insert_entry R es k v) k v (R k e.0) a b h (put_each es k v a b h.1)

    pub fold_each : (ps m : List (K × X)) → Each ps → Each m → Each (fold put m ps)
    fold_each [] m h k = k
    fold_each (p ∷ ps) m h k = fold_each ps (put m p) h.1 (put_each m p.0 p.1 h.0.0 h.0.1 k)

  module _ (o : IsTotalOrder R) where
    put_above_by : (q : K) (e : K × X) (es more : List (K × X)) (k : K) (v : X) (r : Ordering) → R q k ≡ Less → Above R q (keys_of (e ∷ es)) → Above R q (keys_of more) → Above R q (keys_of (match_ordering r ((k, v) ∷ e ∷ es) ((e.0, v) ∷ es) (e ∷ more)))
    put_above_by q e es more k v Less a h m = (a, h)
    put_above_by q e es more k v Equal a h m = h
    put_above_by q e es more k v Greater a h m = (h.0, m)

    put_above : (q : K) (es : List (K × X)) (k : K) (v : X) → R q k ≡ Less → Above R q (keys_of es) → Above R q (keys_of (insert_entry R es k v))
    put_above q [] k v a h = (a, tt)
    put_above q (e ∷ es) k v a h = put_above_by q e es (insert_entry R es k v) k v (R k e.0) a h (put_above q es k v a h.1)

    put_sorted_by : (e : K × X) (es : List (K × X)) (k : K) (v : X) (r : Ordering) → R k e.0 ≡ r → IsStrictlySortedBy R (keys_of (e ∷ es)) → IsStrictlySortedBy R (keys_of (insert_entry R es k v)) → IsStrictlySortedBy R (keys_of (match_ordering r ((k, v) ∷ e ∷ es) ((e.0, v) ∷ es) (e ∷ insert_entry R es k v)))
    unfolding IsStrictlySortedBy
    put_sorted_by e es k v Less r h m = ((r, above_more R o k e.0 (keys_of es) r h.0), h)
    put_sorted_by e es k v Equal r h m = h
    put_sorted_by e es k v Greater r h m = (put_above e.0 es k v (turned_Less R o k e.0 r) h.0, m)

    tail_sorted : (e : K × X) (es : List (K × X)) → IsStrictlySortedBy R (keys_of (e ∷ es)) → IsStrictlySortedBy R (keys_of es)
    unfolding IsStrictlySortedBy
    tail_sorted e es h = h.1

    head_above : (e : K × X) (es : List (K × X)) → IsStrictlySortedBy R (keys_of (e ∷ es)) → Above R e.0 (keys_of es)
    unfolding IsStrictlySortedBy
    head_above e es h = h.0

    put_sorted : (es : List (K × X)) (k : K) (v : X) → IsStrictlySortedBy R (keys_of es) → IsStrictlySortedBy R (keys_of (insert_entry R es k v))
    unfolding IsStrictlySortedBy
    put_sorted [] k v h = (tt, tt)
    put_sorted (e ∷ es) k v h = put_sorted_by e es k v (R k e.0) refl h (put_sorted es k v (tail_sorted e es h))

    fold_sorted : (ps m : List (K × X)) → IsStrictlySortedBy R (keys_of m) → IsStrictlySortedBy R (keys_of (fold put m ps))
    fold_sorted [] m h = h
    fold_sorted (p ∷ ps) m h = fold_sorted ps (put m p) (put_sorted m p.0 p.1 h)

    -- the keys ascend
    pub sorted_by_key : (ps : List (K × X)) → IsStrictlySortedBy R (keys_of (fold put [] ps))
    unfolding IsStrictlySortedBy
    sorted_by_key ps = fold_sorted ps [] tt

    -- each key of m is below each of qs
    abbrev Below : List (K × X) → List (K × X) → Type 0
    Below m qs = AllByRecursion (λ e. Above R e.0 (keys_of qs)) m

    put_last : (m : List (K × X)) (q : K × X) (qs : List (K × X)) → Below m (q ∷ qs) → put m q ≡ m ++ q ∷ []
    put_last [] q qs h = refl
    put_last (e ∷ m) q qs h =
        ap (λ r. match_ordering r (q ∷ e ∷ m) ((e.0, q.1) ∷ m) (e ∷ insert_entry R m q.0 q.1)) (turned_Greater R o q.0 e.0 h.0.0) ∙ ap (λ es. e ∷ es) (put_last m q qs h.1)

    below_tail : (m : List (K × X)) (q : K × X) (qs : List (K × X)) → Below m (q ∷ qs) → Below m qs
    below_tail [] q qs h = tt
    below_tail (e ∷ m) q qs h = (h.0.1, below_tail m q qs h.1)

    fold_sorted_is : (qs m : List (K × X)) → Below m qs → IsStrictlySortedBy R (keys_of qs) → fold put m qs ≡ m ++ qs
    fold_sorted_is [] m b h = sym (append-nil m)
    fold_sorted_is (q ∷ qs) m b h =
        ap (λ n. fold put n qs) (put_last m q qs b)
        ∙ fold_sorted_is qs (m ++ q ∷ []) (all_joined (λ e. Above R e.0 (keys_of qs)) m (q ∷ []) (below_tail m q qs b) (head_above q qs h, tt)) (tail_sorted q qs h)
        ∙ append_assoc m (q ∷ []) qs

    -- inserting entries that are sorted by key, one by one, gives the entries unchanged
    pub by_key_sorted : (qs : List (K × X)) → IsStrictlySortedBy R (keys_of qs) → fold put [] qs ≡ qs
    by_key_sorted qs h = fold_sorted_is qs [] tt h
