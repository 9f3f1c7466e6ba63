-- Faces that are cut and set.
use Rattle.std.proofs.Common.{◌≡◌, ℕ, zero, suc, ◌+◌, ◌-◌, ◌<◌, ◌≤◌, Bool, true, false, List, [], ◌∷◌, ◌++◌, length, take, drop, refl, sym, ap, ◌∙◌, arith, append_assoc, length-append, inl, inr}
use Rattle.std.specs.Prelude.{◌⊎◌}
use Rattle.std.proofs.lemmas.Bool.{cases_order}
use Rattle.std.proofs.lemmas.List.{take_at, drop_at, take-take, drop-drop, take-append-le, take-append-drop, length-take-le, length-drop, length_push}
use Rattle.std.proofs.Math.Seq.{drop-append-add}
use Rattle.cell_base.specs.Row.{space}
use Rattle.clustered_row.specs.Faces.{Face, Own, Left, Right, cell_faces, plain_faces, left_alone, right_alone, closed_end, closed_start, opened, set_faces}

-- ---- ends

pub length-closed_end : (fs : List Face) → length (closed_end fs) ≡ length fs
length-closed_end [] = refl
length-closed_end (f ∷ []) = refl
length-closed_end (f ∷ g ∷ fs) = ap suc (length-closed_end (g ∷ fs))

pub length-closed_start : (fs : List Face) → length (closed_start fs) ≡ length fs
length-closed_start [] = refl
length-closed_start (f ∷ fs) = refl

left_alone_twice : (f : Face) → left_alone (left_alone f) ≡ left_alone f
left_alone_twice (Own text) = refl
left_alone_twice (Left text) = refl
left_alone_twice Right = refl

right_alone_twice : (f : Face) → right_alone (right_alone f) ≡ right_alone f
right_alone_twice (Own text) = refl
right_alone_twice (Left text) = refl
right_alone_twice Right = refl

closed_end_twice : (fs : List Face) → closed_end (closed_end fs) ≡ closed_end fs
closed_end_twice [] = refl
closed_end_twice (f ∷ []) = ap (λ g. g ∷ []) (left_alone_twice f)
closed_end_twice (f ∷ g ∷ []) = ap (λ h. f ∷ h ∷ []) (left_alone_twice g)
closed_end_twice (f ∷ g ∷ h ∷ fs) = ap (λ gs. f ∷ gs) (closed_end_twice (g ∷ h ∷ fs))

closed_start_twice : (fs : List Face) → closed_start (closed_start fs) ≡ closed_start fs
closed_start_twice [] = refl
closed_start_twice (f ∷ fs) = ap (λ g. g ∷ fs) (right_alone_twice f)

take-closed_end : (n : ℕ) (fs : List Face) → n < length fs → take n (closed_end fs) ≡ take n fs
take-closed_end zero fs h = refl
take-closed_end (suc n) [] h = absurd (omega arith)
take-closed_end (suc n) (f ∷ []) h = absurd (omega arith)
take-closed_end (suc n) (f ∷ g ∷ fs) h = ap (λ gs. f ∷ gs) (take-closed_end n (g ∷ fs) (omega arith))

drop-closed_start : (n : ℕ) (fs : List Face) → drop (suc n) (closed_start fs) ≡ drop (suc n) fs
drop-closed_start n [] = refl
drop-closed_start n (f ∷ fs) = refl

pub closed_end-push : (fs : List Face) (f : Face) → closed_end (fs ++ f ∷ []) ≡ fs ++ left_alone f ∷ []
closed_end-push [] f = refl
closed_end-push (g ∷ []) f = refl
closed_end-push (g ∷ h ∷ fs) f = ap (λ gs. g ∷ gs) (closed_end-push (h ∷ fs) f)

pub closed_end-cell : (wide : Bool) (text : List ℕ) (fs : List Face) → closed_end (cell_faces wide text ++ fs) ≡ cell_faces wide text ++ closed_end fs
closed_end-cell true text [] = refl
closed_end-cell true text (f ∷ fs) = refl
closed_end-cell false text [] = refl
closed_end-cell false text (f ∷ fs) = refl

pub closed_start-cell : (wide : Bool) (text : List ℕ) (fs : List Face) → closed_start (cell_faces wide text ++ fs) ≡ cell_faces wide text ++ fs
closed_start-cell true text fs = refl
closed_start-cell false text fs = refl

pub closed_end-plain : (bytes : List ℕ) → closed_end (plain_faces bytes) ≡ plain_faces bytes
closed_end-plain [] = refl
closed_end-plain (b ∷ []) = refl
closed_end-plain (b ∷ c ∷ bytes) = ap (λ fs. Own (b ∷ []) ∷ fs) (closed_end-plain (c ∷ bytes))

pub closed_start-plain : (bytes : List ℕ) → closed_start (plain_faces bytes) ≡ plain_faces bytes
closed_start-plain [] = refl
closed_start-plain (b ∷ bytes) = refl

-- ---- a cut at a column

pub length-opened : (at : ℕ) (fs : List Face) → at ≤ length fs → length (opened at fs) ≡ length fs
length-opened at fs h =
    let one = length-closed_end (take at fs) ∙ length-take-le at fs h in
    let two = length-closed_start (drop at fs) ∙ length-drop at fs in
    omega (arith, one, two, length-append (closed_end (take at fs)) (closed_start (drop at fs)))

pub opened_whole : (at : ℕ) (fs : List Face) → closed_end (take at fs) ≡ take at fs → closed_start (drop at fs) ≡ drop at fs → opened at fs ≡ fs
opened_whole at fs p q = (λ i. p i ++ q i) ∙ take-append-drop at fs

take-opened : (at : ℕ) (fs : List Face) → at ≤ length fs → take at (opened at fs) ≡ closed_end (take at fs)
take-opened at fs h = take_at (closed_end (take at fs)) (closed_start (drop at fs)) at (length-closed_end (take at fs) ∙ length-take-le at fs h)

drop-opened : (at : ℕ) (fs : List Face) → at ≤ length fs → drop at (opened at fs) ≡ closed_start (drop at fs)
drop-opened at fs h = drop_at (closed_end (take at fs)) (closed_start (drop at fs)) at (length-closed_end (take at fs) ∙ length-take-le at fs h)

take-opened_after : (a b : ℕ) (fs : List Face) → a < b → b ≤ length fs → take a (opened b fs) ≡ take a fs
take-opened_after a b fs l h =
    let n = length-take-le b fs h in
    let m = length-closed_end (take b fs) in
    take-append-le a (closed_end (take b fs)) (closed_start (drop b fs)) (omega arith) ∙ take-closed_end a (take b fs) (omega arith) ∙ take-take a b fs (omega arith)

drop-opened_before : (a j : ℕ) (fs : List Face) → a ≤ length fs → drop (a + suc j) (opened a fs) ≡ drop (a + suc j) fs
drop-opened_before a j fs h =
    let prefix = closed_end (take a fs) in
    let after = closed_start (drop a fs) in
    let n : length prefix ≡ a = length-closed_end (take a fs) ∙ length-take-le a fs h in
    ap (λ m. drop (m + suc j) (prefix ++ after)) (sym n) ∙ drop-append-add prefix after (suc j) ∙ drop-closed_start j (drop a fs) ∙ drop-drop (suc j) a fs

-- ---- new faces in between

spliced_there : (fs new : List Face) (a : ℕ) → a ≤ length fs
    → take a (opened a (opened a fs)) ++ (new ++ drop a (opened a (opened a fs))) ≡ closed_end (take a fs) ++ new ++ closed_start (drop a fs)
spliced_there fs new a h =
    let once = opened a fs in
    let n = length-opened a fs h in
    let prefix : take a (opened a once) ≡ closed_end (take a fs) =
    take-opened a once (omega arith) ∙ ap closed_end (take-opened a fs h) ∙ closed_end_twice (take a fs) in
    let after : drop a (opened a once) ≡ closed_start (drop a fs) =
    drop-opened a once (omega arith) ∙ ap closed_start (drop-opened a fs h) ∙ closed_start_twice (drop a fs) in
    (λ i. prefix i ++ (new ++ after i)) ∙ sym (append_assoc (closed_end (take a fs)) new (closed_start (drop a fs)))

spliced_after : (fs new : List Face) (a j : ℕ) → a + suc j ≤ length fs
    → take a (opened (a + suc j) (opened a fs)) ++ (new ++ drop (a + suc j) (opened (a + suc j) (opened a fs)))
    ≡ closed_end (take a fs) ++ new ++ closed_start (drop (a + suc j) fs)
spliced_after fs new a j h =
    let b = a + suc j in
    let once = opened a fs in
    let within : a ≤ length fs = omega arith in
    let n = length-opened a fs within in
    let prefix : take a (opened b once) ≡ closed_end (take a fs) =
    take-opened_after a b once (omega arith) (omega arith) ∙ take-opened a fs within in
    let after : drop b (opened b once) ≡ closed_start (drop b fs) =
    drop-opened b once (omega arith) ∙ ap closed_start (drop-opened_before a j fs within) in
    (λ i. prefix i ++ (new ++ after i)) ∙ sym (append_assoc (closed_end (take a fs)) new (closed_start (drop b fs)))

spliced_by : (fs new : List Face) (a b : ℕ) → a + length new ≡ b → b ≤ length fs → (a ≡ b) ⊎ ((a < b) ⊎ (b < a))
    → take a (opened b (opened a fs)) ++ (new ++ drop b (opened b (opened a fs))) ≡ set_faces fs a new
spliced_by fs new a b e h (inl same) =
    ap (λ n. take a (opened n (opened a fs)) ++ (new ++ drop n (opened n (opened a fs)))) (sym same)
    ∙ spliced_there fs new a (omega arith)
    ∙ ap (λ n. closed_end (take a fs) ++ new ++ closed_start (drop n fs)) (same ∙ sym e)
spliced_by fs new a b e h (inr (inl less)) =
    let j : ℕ = b - a - 1 in
    let is : b ≡ a + suc j = omega arith in
    ap (λ n. take a (opened n (opened a fs)) ++ (new ++ drop n (opened n (opened a fs)))) is
    ∙ spliced_after fs new a j (omega arith)
    ∙ ap (λ n. closed_end (take a fs) ++ new ++ closed_start (drop n fs)) (sym is ∙ sym e)
spliced_by fs new a b e h (inr (inr more)) = absurd (omega arith)

-- new faces between two columns at which the faces were cut
pub spliced : (fs new : List Face) (a b : ℕ) → a + length new ≡ b → b ≤ length fs
    → take a (opened b (opened a fs)) ++ (new ++ drop b (opened b (opened a fs))) ≡ set_faces fs a new
spliced fs new a b e h = spliced_by fs new a b e h (cases_order a b)

-- ---- a wide text that is cut

take-half : (prefix after : List Face) (f : Face) (at : ℕ) → length prefix ≡ at → take (at + 1) (prefix ++ (f ∷ after)) ≡ prefix ++ f ∷ []
take-half prefix after f at n =
    ap (take (at + 1)) (sym (append_assoc prefix (f ∷ []) after)) ∙ take_at (prefix ++ f ∷ []) after (at + 1) (omega (arith, length_push prefix f))

drop-half : (prefix after : List Face) (f : Face) (at : ℕ) → length prefix ≡ at → drop (at + 1) (prefix ++ (f ∷ after)) ≡ after
drop-half prefix after f at n =
    ap (drop (at + 1)) (sym (append_assoc prefix (f ∷ []) after)) ∙ drop_at (prefix ++ f ∷ []) after (at + 1) (omega (arith, length_push prefix f))

pub split_end : (prefix after : List Face) (text : List ℕ) (at : ℕ) → length prefix ≡ at
    → closed_end (take (at + 1) (prefix ++ (Left text ∷ Right ∷ after))) ≡ prefix ++ Own space ∷ []
split_end prefix after text at n = ap closed_end (take-half prefix (Right ∷ after) (Left text) at n) ∙ closed_end-push prefix (Left text)

pub was_split : (prefix after : List Face) (text : List ℕ) (at : ℕ) → length prefix ≡ at
    → opened (at + 1) (prefix ++ (Left text ∷ Right ∷ after)) ≡ prefix ++ (Own space ∷ Own space ∷ after)
was_split prefix after text at n =
    let p = split_end prefix after text at n in
    let q = ap closed_start (drop-half prefix (Right ∷ after) (Left text) at n) in
    (λ i. p i ++ q i) ∙ append_assoc prefix (Own space ∷ []) (Own space ∷ after)
