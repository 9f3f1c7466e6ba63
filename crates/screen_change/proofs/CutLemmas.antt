-- A text that is cut into cells, and clusters that are looked for one by one.
use Rattle.std.proofs.Common.{◌≡◌, ℕ, zero, suc, ◌+◌, ◌<◌, ◌≤◌, Bool, true, false, ◌&&◌, ◌==◌, List, [], ◌∷◌, ◌++◌, length, take, drop, get_or, replicate, refl, sym, ap, ◌∙◌, arith, drop-cons, add-one, IsUtf8}
use Rattle.std.specs.Prelude.{min, cond}
use Rattle.std.specs.List.{list_all, concat, prefix_len}
use Rattle.std.specs.Str.{is_utf8, IsCharBoundary}
use Rattle.std.proofs.lemmas.Bool.{and_parts, eqb-true}
use Rattle.std.proofs.lemmas.List.{map-append, length-take, length-drop, take-append-le, drop-append-le, take-append-drop, take_all, drop_all, take_min, drop_min}
use Rattle.std.proofs.lemmas.List.Folds.{list_all-append}
use Rattle.std.proofs.lemmas.Slice.Eq.{bytes_eq-Decides}
use Rattle.std.proofs.lemmas.Str.{IsUtf8-from_is_utf8, is_utf8-from_IsUtf8, IsCharBoundary-from_take}
use Rattle.unicode_segmentation.specs.Grapheme.{graphemes}
use Rattle.text_clusters.specs.Plain.{each, plain_len}
use Rattle.text_clusters.proofs.LaneLemmas.{prefix_taken}
use Rattle.text_clusters.proofs.PlainLemmas.{graphemes-nil}
use Rattle.screen_change.specs.Cuts.{cut_at, bytes_of}
use Rattle.screen_change.specs.Texts.{same_texts}
use Rattle.screen_change.proofs.TextLemmas.{by_test}

-- ---- lengths

pub bytes_of-append : (xs ys : List ℕ) → bytes_of (xs ++ ys) ≡ bytes_of xs + bytes_of ys
bytes_of-append [] ys = omega arith
bytes_of-append (n ∷ xs) ys = omega (arith, bytes_of-append xs ys)

pub bytes_of-ones : (k : ℕ) → bytes_of (replicate k 1) ≡ k
bytes_of-ones zero = refl
bytes_of-ones (suc k) = omega (arith, bytes_of-ones k)

-- ---- texts side by side

-- bytes after all cells
pub cut_more : (lens text more : List ℕ) → bytes_of lens ≤ length text → cut_at lens (text ++ more) ≡ cut_at lens text ++ each more
cut_more [] text more h = map-append (λ byte. byte ∷ []) text more
cut_more (n ∷ lens) text more h =
    let le : n ≤ length text = omega arith in
    let p = take-append-le n text more le in
    let q = drop-append-le n text more le in
    let rest : bytes_of lens ≤ length (drop n text) = omega (arith, length-drop n text) in
    (λ i. p i ∷ cut_at lens (q i)) ∙ ap (λ (ts : List (List ℕ)). take n text ∷ ts) (cut_more lens (drop n text) more rest)

ones_none : (k : ℕ) (text : List ℕ) → k ≤ length text → cut_at (replicate k 1) text ≡ each text
ones_none zero text h = refl
ones_none (suc k) [] h = absurd (omega arith)
ones_none (suc k) (byte ∷ text) h = ap (λ (ts : List (List ℕ)). (byte ∷ []) ∷ ts) (ones_none k text (omega arith))

-- the lengths of cells of one byte change no cell
pub cut_ones : (lens text : List ℕ) (k : ℕ) → bytes_of lens + k ≤ length text → cut_at (lens ++ replicate k 1) text ≡ cut_at lens text
cut_ones [] text k h = ones_none k text (omega arith)
cut_ones (n ∷ lens) text k h = ap (λ (ts : List (List ℕ)). take n text ∷ ts) (cut_ones lens (drop n text) k (omega (arith, length-drop n text)))

-- a cell after all, whose length is kept
pub cut_push : (lens text more : List ℕ) (n : ℕ) → bytes_of lens ≡ length text → n ≡ length more → cut_at (lens ++ n ∷ []) (text ++ more) ≡ cut_at lens text ++ more ∷ []
cut_push [] [] more n h e = let p = take_all n more (omega (arith, e)) in let q = drop_all n more (omega (arith, e)) in λ i. p i ∷ each (q i)
cut_push [] (byte ∷ text) more n h e = absurd (omega arith)
cut_push (m ∷ lens) text more n h e =
    let le : m ≤ length text = omega arith in
    let p = take-append-le m text more le in
    let q = drop-append-le m text more le in
    let rest : bytes_of lens ≡ length (drop m text) = omega (arith, length-drop m text) in
    (λ i. p i ∷ cut_at (lens ++ n ∷ []) (q i)) ∙ ap (λ (ts : List (List ℕ)). take m text ∷ ts) (cut_push lens (drop m text) more n rest e)

concat-each : (text : List ℕ) → concat (each text) ≡ text
concat-each [] = refl
concat-each (byte ∷ text) = ap (λ (bytes : List ℕ). byte ∷ bytes) (concat-each text)

-- the cells, joined, are the text
pub concat-cut : (lens text : List ℕ) → concat (cut_at lens text) ≡ text
concat-cut [] text = concat-each text
concat-cut (n ∷ lens) text = ap (λ (bytes : List ℕ). take n text ++ bytes) (concat-cut lens (drop n text)) ∙ take-append-drop n text

-- no cell
pub cut_none : (lens text : List ℕ) → cut_at lens text ≡ [] → (length text ≡ 0) × (length lens ≡ 0)
cut_none [] [] e = (refl, refl)
cut_none [] (byte ∷ text) e = absurd cc
cut_none (n ∷ lens) text e = absurd cc

pub none_cut : (lens text : List ℕ) → length text ≡ 0 → length lens ≡ 0 → cut_at lens text ≡ []
none_cut [] [] e f = refl
none_cut [] (byte ∷ text) e f = absurd (omega (arith, e))
none_cut (n ∷ lens) text e f = absurd (omega (arith, f))

-- ---- parts that are UTF-8

pub utf8_more : (lens text more : List ℕ) → bytes_of lens ≤ length text → list_all is_utf8 (cut_at lens text) ≡ true → list_all is_utf8 (each more) ≡ true → list_all is_utf8 (cut_at lens (text ++ more)) ≡ true
utf8_more lens text more h p q = ap (list_all is_utf8) (cut_more lens text more h) ∙ list_all-append is_utf8 (cut_at lens text) (each more) ∙ (λ i. p i && q i)

pub utf8_push : (lens text more : List ℕ) (n : ℕ) → bytes_of lens ≡ length text → n ≡ length more → IsUtf8 more → list_all is_utf8 (cut_at lens text) ≡ true → list_all is_utf8 (cut_at (lens ++ n ∷ []) (text ++ more)) ≡ true
utf8_push lens text more n h e u p =
    ap (list_all is_utf8) (cut_push lens text more n h e)
    ∙ list_all-append is_utf8 (cut_at lens text) (more ∷ [])
    ∙ (λ i. p i && (is_utf8-from_IsUtf8 more u i && true))

pub first_boundary : (n : ℕ) (text : List ℕ) (rest : Bool) → IsUtf8 text → n ≤ length text → (is_utf8 (take n text) && rest) ≡ true → IsCharBoundary text n
first_boundary n text rest u l e = IsCharBoundary-from_take text n u l (IsUtf8-from_is_utf8 (take n text) (and_parts (is_utf8 (take n text)) rest e).0)

-- ---- clusters

pub same_prefix : (ts xs ys : List (List ℕ)) → same_texts (ts ++ xs) (ts ++ ys) ≡ same_texts xs ys
same_prefix [] xs ys = refl
same_prefix (t ∷ ts) xs ys = ap (λ b. b && same_texts (ts ++ xs) (ts ++ ys)) ((bytes_eq-Decides t t).1 refl) ∙ same_prefix ts xs ys

-- no cluster is left
pub no_cluster : (text cell : List ℕ) (cells : List (List ℕ)) → text ≡ [] → same_texts (graphemes true text) (cell ∷ cells) ≡ false
no_cluster text cell cells e = ap (λ (ts : List (List ℕ)). same_texts ts (cell ∷ cells)) (ap (graphemes true) e ∙ graphemes-nil)

-- ---- bytes that are clusters

pub bytes_end : (text : List ℕ) → length text ≡ 0 → same_texts (graphemes true text) (each text) ≡ true
bytes_end [] l = ap (λ (ts : List (List ℕ)). same_texts ts []) graphemes-nil
bytes_end (byte ∷ text) l = absurd (omega (arith, l))

-- a plain prefix
pub plain_count : (text prefix : List ℕ) (most : ℕ) → prefix ≡ take (min most (plain_len text)) text → (length prefix ≤ most) × ((length prefix ≤ length text) × (prefix ≡ take (length prefix) text))
plain_count text prefix most f =
    let long : length prefix ≡ min (min most (plain_len text)) (length text) = ap length f ∙ length-take (min most (plain_len text)) text in
    (omega (arith, long), (omega (arith, long), f ∙ sym (take_min (min most (plain_len text)) text) ∙ ap (λ k. take k text) (sym long)))

pub plain_rest : (text prefix rest : List ℕ) (most : ℕ) → prefix ≡ take (min most (plain_len text)) text → rest ≡ drop (min most (plain_len text)) text → rest ≡ drop (length prefix) text
plain_rest text prefix rest most f r =
    let long : length prefix ≡ min (min most (plain_len text)) (length text) = ap length f ∙ length-take (min most (plain_len text)) text in
    r ∙ sym (drop_min (min most (plain_len text)) text) ∙ ap (λ k. drop k text) (sym long)

pub following_bytes : (text prefix rest : List ℕ) (k : ℕ) → prefix ≡ take k text → rest ≡ drop k text → graphemes true text ≡ each prefix ++ graphemes true rest
    → same_texts (graphemes true rest) (each rest) ≡ same_texts (graphemes true text) (each text)
following_bytes text prefix rest k f r g =
    let whole : each text ≡ each prefix ++ each rest = ap each (sym (take-append-drop k text)) ∙ map-append (λ byte. byte ∷ []) (take k text) (drop k text) ∙ (λ i. each (sym f i) ++ each (sym r i)) in
    sym (same_prefix (each prefix) (graphemes true rest) (each rest)) ∙ (λ i. same_texts (sym g i) (sym whole i))

-- ---- cells that are clusters

one_is : (len k : ℕ) (lens : List ℕ) → suc k ≤ prefix_len (λ n. n == 1) (len ∷ lens) → (len ≡ 1) × (k ≤ prefix_len (λ n. n == 1) lens)
one_is len k lens h =
    by_test (len == 1)
    (λ t. (eqb-true len 1 t, let e = ap (λ b. cond b (1 + prefix_len (λ n. n == 1) lens) 0) t in omega (arith, e)))
    (λ t. let e = ap (λ b. cond b (1 + prefix_len (λ n. n == 1) lens) 0) t in absurd (omega (arith, e)))

-- ones at the start of the first `short` lengths are ones at the start of all lengths
pub ones_short : (lens first : List ℕ) (count short : ℕ) → first ≡ take short lens → count ≡ prefix_len (λ n. n == 1) first → count ≤ prefix_len (λ n. n == 1) lens
ones_short lens first count short f c = let e = ap (prefix_len (λ n. n == 1)) f in omega (arith, e, prefix_taken (λ n. n == 1) short lens)

pub cut_prefix : (k : ℕ) (lens text : List ℕ) → k ≤ prefix_len (λ n. n == 1) lens → k ≤ length text → cut_at lens text ≡ each (take k text) ++ cut_at (drop k lens) (drop k text)
cut_prefix zero lens text p l = refl
cut_prefix (suc k) [] text p l = absurd (omega (arith, p))
cut_prefix (suc k) (len ∷ lens) [] p l = absurd (omega (arith, l))
cut_prefix (suc k) (len ∷ lens) (byte ∷ text) p l =
    let one = one_is len k lens p in
    ap (λ n. take n (byte ∷ text) ∷ cut_at lens (drop n (byte ∷ text))) one.0
    ∙ ap (λ (ts : List (List ℕ)). (byte ∷ []) ∷ ts) (cut_prefix k lens text one.1 (omega (arith, l)))

pub bytes_prefix : (k : ℕ) (lens : List ℕ) → k ≤ prefix_len (λ n. n == 1) lens → k + bytes_of (drop k lens) ≡ bytes_of lens
bytes_prefix zero lens p = omega arith
bytes_prefix (suc k) [] p = absurd (omega (arith, p))
bytes_prefix (suc k) (len ∷ lens) p = let one = one_is len k lens p in omega (arith, one.0, bytes_prefix k lens one.1)

-- the lengths and the text from a position on, one cell at a time
left_first : (lens : List ℕ) (at n d : ℕ) → at < length lens → n ≡ get_or lens at d → drop at lens ≡ n ∷ drop (at + 1) lens
left_first lens at n d l e = drop-cons lens at d l ∙ (λ i. sym e i ∷ drop (sym (add-one at) i) lens)

pub cut_first : (lens text : List ℕ) (at n d : ℕ) → at < length lens → n ≡ get_or lens at d → cut_at (drop at lens) text ≡ take n text ∷ cut_at (drop (at + 1) lens) (drop n text)
cut_first lens text at n d l e = ap (λ (ns : List ℕ). cut_at ns text) (left_first lens at n d l e)

pub bytes_first : (lens : List ℕ) (at n d : ℕ) → at < length lens → n ≡ get_or lens at d → bytes_of (drop at lens) ≡ n + bytes_of (drop (at + 1) lens)
bytes_first lens at n d l e = ap bytes_of (left_first lens at n d l e)

-- at a step of `push_each` the next cell and the remaining cells are UTF-8
pub left_utf8 : (lens text : List ℕ) (at n d : ℕ) → at < length lens → n ≡ get_or lens at d → list_all is_utf8 (cut_at (drop at lens) text) ≡ true → (is_utf8 (take n text) && list_all is_utf8 (cut_at (drop (at + 1) lens) (drop n text))) ≡ true
left_utf8 lens text at n d l e p = sym (ap (list_all is_utf8) (cut_first lens text at n d l e)) ∙ p

-- plain cells at the start
pub cells_after : (lens text prefix rest left : List ℕ) (k : ℕ) → k ≤ prefix_len (λ n. n == 1) lens → k ≤ length text → prefix ≡ take k text → rest ≡ drop k text → left ≡ drop k lens
    → graphemes true text ≡ each prefix ++ graphemes true rest → same_texts (graphemes true rest) (cut_at left rest) ≡ same_texts (graphemes true text) (cut_at lens text)
cells_after lens text prefix rest left k p l f r d g =
    let whole : cut_at lens text ≡ each prefix ++ cut_at left rest = cut_prefix k lens text p l ∙ (λ i. each (sym f i) ++ cut_at (sym d i) (sym r i)) in
    sym (same_prefix (each prefix) (graphemes true rest) (cut_at left rest)) ∙ (λ i. same_texts (sym g i) (sym whole i))
