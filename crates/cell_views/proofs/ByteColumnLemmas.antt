-- The columns of the cells that a text's bytes belong to.
use Rattle.std.proofs.Common.{◌≡◌, ℕ, zero, suc, ◌+◌, ◌-◌, ◌<◌, ◌≤◌, List, [], ◌∷◌, ◌++◌, length, get_or, replicate, refl, sym, ap, ◌∙◌, arith, append_assoc}
use Rattle.std.specs.Prelude.{map}
use Rattle.std.specs.List.{range_with_len}
use Rattle.std.proofs.lemmas.List.{map-append, append-nil, get_or_append_left, get_or-append-add, get_or-map}
use Rattle.cell_views.specs.declared.byte_columns.ByteColumn.{ByteColumn}

map-replicate : (f : ByteColumn → ℕ) (n : ℕ) (b : ByteColumn) → map f (replicate n b) ≡ replicate n (f b)
map-replicate f zero b = refl
map-replicate f (suc n) b = ap (λ (xs : List ℕ). f b ∷ xs) (map-replicate f n b)

-- copies after some positions
pub after_more : (f : ByteColumn → ℕ) (prefix : List ℕ) (bs cs : List ByteColumn) (n : ℕ) (b : ByteColumn) → cs ≡ bs ++ replicate n b → prefix ++ map f cs ≡ (prefix ++ map f bs) ++ replicate n (f b)
after_more f prefix bs cs n b e =
    ap (λ xs. prefix ++ map f xs) e ∙ ap (λ xs. prefix ++ xs) (map-append f bs (replicate n b)) ∙ ap (λ xs. prefix ++ (map f bs ++ xs)) (map-replicate f n b) ∙ sym (append_assoc prefix (map f bs) (replicate n (f b)))

pub range_more : (a n : ℕ) → range_with_len a (n + 1) ≡ range_with_len a n ++ (a + n) ∷ []
range_more a zero = let e : a ≡ a + 0 = omega arith in ap (λ n. n ∷ []) e
range_more a (suc n) =
    let e : suc n + 1 ≡ suc (n + 1) = omega arith in
    let last : a + 1 + n ≡ a + suc n = omega arith in
    ap (range_with_len a) e ∙ ap (λ (xs : List ℕ). a ∷ xs) (range_more (a + 1) n) ∙ ap (λ m. a ∷ (range_with_len (a + 1) n ++ m ∷ [])) last

-- one more that is counted
pub counted_more : (f : ByteColumn → ℕ) (prefix more : List ℕ) (bs : List ByteColumn) (n x : ℕ) → length bs ≡ 0 → n ≡ 1 → more ≡ prefix ++ x ∷ [] → more ++ map f bs ≡ (prefix ++ map f bs) ++ replicate n x
counted_more f prefix more [] n x e one is = append-nil more ∙ is ∙ ap (λ xs. xs ++ x ∷ []) (sym (append-nil prefix)) ∙ ap (λ m. (prefix ++ []) ++ replicate m x) (sym one)
counted_more f prefix more (b ∷ bs) n x e one is = absurd (omega arith)

-- a byte's position among those that are counted, and among those after
pub at_counted : (prefix ys : List ℕ) (i : ℕ) → i < length prefix → get_or (prefix ++ ys) i 0 ≡ get_or prefix i 0
at_counted prefix ys i h = get_or_append_left prefix ys 0 i h

pub at_after : (f : ByteColumn → ℕ) (prefix : List ℕ) (bs : List ByteColumn) (i n : ℕ) (d : ByteColumn) → length prefix ≡ n → n ≤ i → i - n < length bs → get_or (prefix ++ map f bs) i 0 ≡ f (get_or bs (i - n) d)
at_after f prefix bs i n d e h k =
    ap (λ m. get_or (prefix ++ map f bs) m 0) (omega (arith, e, h)) ∙ get_or-append-add prefix (map f bs) (i - n) 0 ∙ get_or-map f bs (i - n) d 0 k
