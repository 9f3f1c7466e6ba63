-- Cutting a text at a byte and joining it again.
use Rattle.std.proofs.Common.{◌≡◌, ℕ, suc, ◌<◌, ◌+◌, Bool, true, false, cond, eqb, List, [], ◌∷◌, ◌++◌, length, take, drop, get_or, refl, sym, ◌∙◌, ap, subst, arith, not}
use Rattle.std.specs.Prelude.{◌||◌}
use Rattle.std.specs.List.{onto_first, join_with_byte, AllByRecursion, list_any, position_or_len, before_first, after_first}
use Rattle.std.specs.Str.{IsUtf8}
use Rattle.std.proofs.lemmas.Str.{IsUtf8-append, IsUtf8-take, IsUtf8-drop, IsUtf8-from_ascii, IsUtf8-nil, IsCharBoundary-before_ascii, IsCharBoundary-after_ascii}
use Rattle.std.proofs.lemmas.Str.Ascii.{IsAscii-cons, IsAscii-nil}
use Rattle.std.proofs.lemmas.List.Splits.{slice_split-cons_yes, slice_split-cons_no}
use Rattle.std.proofs.lemmas.List.Sums.{split_at_first, passes_at_first}
use Rattle.std.proofs.lemmas.Bool.{eqb-true, eq-eqb, false≢true, or_left, or_right}
use Rattle.std.proofs.lemmas.Grind.{common_steps}
use Rattle.cell_base.specs.LinkText.{fields}

-- no byte of the text is c
abbrev pub Lacks : ℕ → List ℕ → Type 0
Lacks c = AllByRecursion (λ b. eqb b c ≡ false)

abbrev pub EachLacks : ℕ → List (List ℕ) → Type 0
EachLacks c = AllByRecursion (Lacks c)

-- ---- all of two lists

module _ {X : Type 0} (P : X → Type 0) where
  pub all_joined : (xs ys : List X) → AllByRecursion P xs → AllByRecursion P ys → AllByRecursion P (xs ++ ys)
  all_joined [] ys h k = k
  all_joined (x ∷ xs) ys h k = (h.0, all_joined xs ys h.1 k)

  pub all_prefix : (xs ys : List X) → AllByRecursion P (xs ++ ys) → AllByRecursion P xs
  all_prefix [] ys h = tt
  all_prefix (x ∷ xs) ys h = (h.0, all_prefix xs ys h.1)

  pub all_back : (xs ys : List X) → AllByRecursion P (xs ++ ys) → AllByRecursion P ys
  all_back [] ys h = h
  all_back (x ∷ xs) ys h = all_back xs ys h.1

-- ---- the fields

first_grown : (c b : ℕ) (ts : List (List ℕ)) → eqb b c ≡ false → EachLacks c ts → EachLacks c (onto_first b ts)
first_grown c b [] e h = ((e, tt), tt)
first_grown c b (t ∷ ts) e h = ((e, h.0), h.1)

fields_lack_by : (c b : ℕ) (ts : List (List ℕ)) (t : Bool) → eqb b c ≡ t → EachLacks c ts → EachLacks c (cond t ([] ∷ ts) (onto_first b ts))
fields_lack_by c b ts true e h = (tt, h)
fields_lack_by c b ts false e h = first_grown c b ts e h

pub fields_lack : (c : ℕ) (bs : List ℕ) → EachLacks c (fields c bs)
fields_lack c [] = (tt, tt)
fields_lack c (b ∷ bs) = fields_lack_by c b (fields c bs) (eqb b c) refl (fields_lack c bs)

-- a text without c is one field
pub fields_one : (c : ℕ) (bs : List ℕ) → Lacks c bs → fields c bs ≡ bs ∷ []
fields_one c [] h = refl
fields_one c (b ∷ bs) h = slice_split-cons_no (λ x. eqb x c) b bs h.0 ∙ ap (onto_first b) (fields_one c bs h.1)

-- the first field ends at the first c
pub fields_more : (c : ℕ) (bs rest : List ℕ) → Lacks c bs → fields c (bs ++ c ∷ rest) ≡ bs ∷ fields c rest
fields_more c [] rest h = slice_split-cons_yes (λ x. eqb x c) c rest (eq-eqb c c refl)
fields_more c (b ∷ bs) rest h = slice_split-cons_no (λ x. eqb x c) b (bs ++ c ∷ rest) h.0 ∙ ap (onto_first b) (fields_more c bs rest h.1)

-- texts without c that are joined by it are the fields
pub fields_joined : (c : ℕ) (t : List ℕ) (ts : List (List ℕ)) → EachLacks c (t ∷ ts) → fields c (join_with_byte c (t ∷ ts)) ≡ t ∷ ts
fields_joined c t [] h = fields_one c t h.0
fields_joined c t (u ∷ ts) h = fields_more c t (join_with_byte c (u ∷ ts)) h.0 ∙ ap (λ us. t ∷ us) (fields_joined c u ts h.1)

-- ---- bytes that joined texts lack

pub joined_lacks : (d c : ℕ) (ts : List (List ℕ)) → eqb c d ≡ false → EachLacks d ts → Lacks d (join_with_byte c ts)
joined_lacks d c [] e h = tt
joined_lacks d c (t ∷ []) e h = h.0
joined_lacks d c (t ∷ u ∷ ts) e h = all_joined (λ b. eqb b d ≡ false) t (c ∷ join_with_byte c (u ∷ ts)) h.0 (e, joined_lacks d c (u ∷ ts) e h.1)

pub each_lacks : (d c : ℕ) (ts : List (List ℕ)) → Lacks d (join_with_byte c ts) → EachLacks d ts
each_lacks d c [] h = tt
each_lacks d c (t ∷ []) h = (h, tt)
each_lacks d c (t ∷ u ∷ ts) h =
    let P : ℕ → Type 0 = λ b. eqb b d ≡ false in
    (all_prefix P t (c ∷ join_with_byte c (u ∷ ts)) h, each_lacks d c (u ∷ ts) (all_back P t (c ∷ join_with_byte c (u ∷ ts)) h).1)

-- ---- UTF-8

pub utf8_around : (c : ℕ) (xs ys : List ℕ) → c < 128 → IsUtf8 xs → IsUtf8 ys → IsUtf8 (xs ++ c ∷ ys)
utf8_around c xs ys l x y = IsUtf8-append xs (c ∷ ys) x (IsUtf8-append (c ∷ []) ys (IsUtf8-from_ascii (c ∷ []) (IsAscii-cons c [] l IsAscii-nil)) y)

pub utf8_before : (c : ℕ) (xs ys : List ℕ) → c < 128 → IsUtf8 (xs ++ c ∷ ys) → IsUtf8 xs
utf8_before c xs ys l u =
    let at : get_or (xs ++ c ∷ ys) (length xs) 0 ≡ c = grind (arith, common_steps) in
    let on : length xs < length (xs ++ c ∷ ys) = grind (arith, common_steps) in
    let cut : take (length xs) (xs ++ c ∷ ys) ≡ xs = grind (arith, common_steps) in
    subst IsUtf8 cut (IsUtf8-take (xs ++ c ∷ ys) (length xs) u (IsCharBoundary-before_ascii (xs ++ c ∷ ys) (length xs) on (omega arith)))

pub utf8_after : (c : ℕ) (xs ys : List ℕ) → c < 128 → IsUtf8 (xs ++ c ∷ ys) → IsUtf8 ys
utf8_after c xs ys l u =
    let at : get_or (xs ++ c ∷ ys) (length xs) 0 ≡ c = grind (arith, common_steps) in
    let on : length xs < length (xs ++ c ∷ ys) = grind (arith, common_steps) in
    let cut : drop (length xs + 1) (xs ++ c ∷ ys) ≡ ys = grind (arith, common_steps) in
    subst IsUtf8 cut (IsUtf8-drop (xs ++ c ∷ ys) (length xs + 1) u (IsCharBoundary-after_ascii (xs ++ c ∷ ys) (length xs) u on (omega arith)))

pub joined_utf8 : (c : ℕ) (ts : List (List ℕ)) → c < 128 → AllByRecursion IsUtf8 ts → IsUtf8 (join_with_byte c ts)
joined_utf8 c [] l h = IsUtf8-nil
joined_utf8 c (t ∷ []) l h = h.0
joined_utf8 c (t ∷ u ∷ ts) l h = utf8_around c t (join_with_byte c (u ∷ ts)) l h.0 (joined_utf8 c (u ∷ ts) l h.1)

pub each_utf8 : (c : ℕ) (ts : List (List ℕ)) → c < 128 → IsUtf8 (join_with_byte c ts) → AllByRecursion IsUtf8 ts
each_utf8 c [] l h = tt
each_utf8 c (t ∷ []) l h = (h, tt)
each_utf8 c (t ∷ u ∷ ts) l h = (utf8_before c t (join_with_byte c (u ∷ ts)) l h, each_utf8 c (u ∷ ts) l (utf8_after c t (join_with_byte c (u ∷ ts)) l h))

-- ---- the first c

first_within_by : (n len : ℕ) (t more : Bool) → (t || more) ≡ true → (more ≡ true → n < len) → cond (not t) (1 + n) 0 < suc len
first_within_by n len true more k h = omega arith
first_within_by n len false more k h = let below = h k in omega arith

pub first_within : (c : ℕ) (bs : List ℕ) → list_any (λ b. eqb b c) bs ≡ true → position_or_len (λ b. eqb b c) bs < length bs
first_within c [] h = absurd (false≢true h)
first_within c (b ∷ bs) h = first_within_by (position_or_len (λ x. eqb x c) bs) (length bs) (eqb b c) (list_any (λ x. eqb x c) bs) h (first_within c bs)

-- a text that has c is the text before its first c, that c, and the text after it
pub cut_joined : (c : ℕ) (bs : List ℕ) → list_any (λ b. eqb b c) bs ≡ true → before_first (λ b. eqb b c) bs ++ c ∷ after_first (λ b. eqb b c) bs ≡ bs
cut_joined c bs h =
    let l = first_within c bs h in
    let is : get_or bs (position_or_len (λ b. eqb b c) bs) 0 ≡ c = eqb-true _ _ (passes_at_first (λ b. eqb b c) bs 0 l) in
    ap (λ x. before_first (λ b. eqb b c) bs ++ x ∷ after_first (λ b. eqb b c) bs) (sym is) ∙ sym (split_at_first (λ b. eqb b c) bs 0 l)

lacks_by_cond : (c b : ℕ) (bs : List ℕ) (t : Bool) → eqb b c ≡ t → Lacks c (take (position_or_len (λ x. eqb x c) bs) bs) → Lacks c (take (cond (not t) (1 + position_or_len (λ x. eqb x c) bs) 0) (b ∷ bs))
lacks_by_cond c b bs true e h = tt
lacks_by_cond c b bs false e h =
    let n : ℕ = position_or_len (λ x. eqb x c) bs in
    let on : suc n ≡ 1 + n = omega arith in
    subst (λ m. Lacks c (take m (b ∷ bs))) on (e, h)

pub before_lacks : (c : ℕ) (bs : List ℕ) → Lacks c (before_first (λ b. eqb b c) bs)
before_lacks c [] = tt
before_lacks c (b ∷ bs) = lacks_by_cond c b bs (eqb b c) refl (before_lacks c bs)

-- where c first follows a text that lacks it
pub first_at : (c : ℕ) (xs ys : List ℕ) → Lacks c xs → position_or_len (λ b. eqb b c) (xs ++ c ∷ ys) ≡ length xs
first_at c [] ys h = ap (λ t. cond (not t) (1 + position_or_len (λ b. eqb b c) ys) 0) (eq-eqb c c refl)
first_at c (x ∷ xs) ys h =
    let on = first_at c xs ys h.1 in
    ap (λ t. cond (not t) (1 + position_or_len (λ b. eqb b c) (xs ++ c ∷ ys)) 0) h.0 ∙ omega arith

drop_after : (c n : ℕ) (xs ys : List ℕ) → n ≡ length xs → drop (n + 1) (xs ++ c ∷ ys) ≡ ys
drop_after c n [] ys e = let on : n + 1 ≡ 1 = omega arith in ap (λ m. drop m (c ∷ ys)) on
drop_after c n (x ∷ xs) ys e =
    let on : n + 1 ≡ suc (length xs + 1) = omega arith in
    ap (λ m. drop m (x ∷ (xs ++ c ∷ ys))) on ∙ drop_after c (length xs) xs ys refl

pub before_is : (c : ℕ) (xs ys : List ℕ) → Lacks c xs → before_first (λ b. eqb b c) (xs ++ c ∷ ys) ≡ xs
before_is c xs ys h = rw (first_at c xs ys h) (grind (arith, common_steps))

pub after_is : (c : ℕ) (xs ys : List ℕ) → Lacks c xs → after_first (λ b. eqb b c) (xs ++ c ∷ ys) ≡ ys
after_is c xs ys h = drop_after c _ xs ys (first_at c xs ys h)

pub has_byte : (c : ℕ) (xs ys : List ℕ) → list_any (λ b. eqb b c) (xs ++ c ∷ ys) ≡ true
has_byte c [] ys = or_left _ _ (eq-eqb c c refl)
has_byte c (x ∷ xs) ys = or_right _ _ (has_byte c xs ys)
