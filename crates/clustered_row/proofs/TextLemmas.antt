-- Texts that are cut by sizes, changed between two positions.
use Rattle.std.proofs.Common.{◌≡◌, ℕ, zero, suc, ◌+◌, ◌-◌, ◌<◌, ◌≤◌, Bool, true, false, ◌&&◌, List, [], ◌∷◌, ◌++◌, length, take, drop, get_or, refl, sym, ap, ◌∙◌, arith, append_assoc, length-append, IsUtf8}
use Rattle.std.specs.List.{list_all}
use Rattle.std.proofs.lemmas.Bool.{and_parts, and_from}
use Rattle.std.proofs.lemmas.List.{take_at, drop_at, drop_more, get_or_at, length_push, take-append-drop, length-take-le, length-map, map-append, drop-map, drop-drop, length-drop}
use Rattle.std.proofs.lemmas.List.Folds.{list_all-append}
use Rattle.std.proofs.Math.Seq.{drop-append-add}
use Rattle.cell_base.specs.CellContent.{shows_as_space}
use Rattle.cell_base.specs.Row.{space}
use Rattle.text_clusters.specs.Plain.{is_printable}
use Rattle.clustered_row.specs.declared.cell_size.CellSize.{CellSize}
use Rattle.clustered_row.specs.Faces.{Face, Own, Left, Right, cell_faces, first_face, plain_faces, closed_end, closed_start, opened, set_faces}
use Rattle.clustered_row.specs.Sizes.{bytes_of, columns_of, faces_of, is_text, is_cut}
use Rattle.clustered_row.proofs.FaceLemmas.{closed_start-plain, was_split, split_end, opened_whole}
use Rattle.clustered_row.proofs.SizeLemmas.{bytes_of-append, columns_of-append, bytes_split, columns_split, length-faces, join, cut_join, faces_more, cut_more, closed_end-faces, closed_start-faces, IsUtf8-cell, IsUtf8-cut, kept_first, kept_plain}

-- ---- a position between cells: the numbers of cells, bytes and columns before it

-- a text, the sizes of its cells, and a position between them
pub record Placed (t : List ℕ) (s : List CellSize) (i b c : ℕ) : Type 0 where
  pub bytes : b ≡ bytes_of (take i s)
  pub columns : c ≡ columns_of (take i s)
  pub within : bytes_of s ≤ length t

before : (t : List ℕ) (s : List CellSize) (i b c : ℕ) → Placed t s i b c → b ≤ length t
before t s i b c p = let bytes = p.bytes in let within = p.within in omega (arith, bytes, within, bytes_split i s)

whole : (t : List ℕ) (s : List CellSize) (i b c : ℕ) → Placed t s i b c → bytes_of (take i s) ≡ length (take b t)
whole t s i b c p = sym p.bytes ∙ sym (length-take-le b t (before t s i b c p))

pub prefix_columns : (t : List ℕ) (s : List CellSize) (i b c : ℕ) → Placed t s i b c → length (faces_of (take b t) (take i s)) ≡ c
prefix_columns t s i b c p =
    let w = whole t s i b c p in
    let n = length-faces (take b t) (take i s) (omega (arith, w)) in
    let columns = p.columns in
    omega (arith, w, n, columns)

pub parted : (t : List ℕ) (s : List CellSize) (i b c : ℕ) → Placed t s i b c → faces_of t s ≡ faces_of (take b t) (take i s) ++ faces_of (drop b t) (drop i s)
parted t s i b c p =
    (λ k. faces_of (sym (take-append-drop b t) k) (sym (take-append-drop i s) k))
    ∙ join (take b t) (drop b t) (take i s) (drop i s) (whole t s i b c p)

pub take_prefix : (t : List ℕ) (s : List CellSize) (i b c : ℕ) → Placed t s i b c → take c (faces_of t s) ≡ faces_of (take b t) (take i s)
take_prefix t s i b c p = ap (take c) (parted t s i b c p) ∙ take_at _ (faces_of (drop b t) (drop i s)) c (prefix_columns t s i b c p)

pub drop_prefix : (t : List ℕ) (s : List CellSize) (i b c : ℕ) → Placed t s i b c → drop c (faces_of t s) ≡ faces_of (drop b t) (drop i s)
drop_prefix t s i b c p = ap (drop c) (parted t s i b c p) ∙ drop_at (faces_of (take b t) (take i s)) _ c (prefix_columns t s i b c p)

pub cut_parts : (t : List ℕ) (s : List CellSize) (i b c : ℕ) → Placed t s i b c → is_cut t s ≡ true → (is_cut (take b t) (take i s) ≡ true) × (is_cut (drop b t) (drop i s) ≡ true)
cut_parts t s i b c p h =
    and_parts (is_cut (take b t) (take i s)) (is_cut (drop b t) (drop i s)) (sym (
    (λ k. is_cut (sym (take-append-drop b t) k) (sym (take-append-drop i s) k))
    ∙ cut_join (take b t) (drop b t) (take i s) (drop i s) (whole t s i b c p)) ∙ h)

-- at a position no cell is split
pub opened_at_position : (t : List ℕ) (s : List CellSize) (i b c : ℕ) → Placed t s i b c → faces_of t s ≡ opened c (faces_of t s)
opened_at_position t s i b c p =
    let prefix = take_prefix t s i b c p in
    let after = drop_prefix t s i b c p in
    sym (opened_whole c (faces_of t s)
    (ap closed_end prefix ∙ closed_end-faces (take b t) (take i s) ∙ sym prefix)
    (ap closed_start after ∙ closed_start-faces (drop b t) (drop i s) ∙ sym after))

pub closed_at_position : (t : List ℕ) (s : List CellSize) (i b c : ℕ) → Placed t s i b c → faces_of (take b t) (take i s) ≡ closed_end (take c (faces_of t s))
closed_at_position t s i b c p = sym (ap closed_end (take_prefix t s i b c p) ∙ closed_end-faces (take b t) (take i s))

-- ---- cells replaced between two positions

pub replaced : (t u : List ℕ) (s v : List CellSize) (i b c j d e : ℕ) → Placed t s i b c → Placed t s j d e → bytes_of v ≡ length u
    → faces_of (take b t ++ (u ++ drop d t)) (take i s ++ (v ++ drop j s)) ≡ take c (faces_of t s) ++ (faces_of u v ++ drop e (faces_of t s))
replaced t u s v i b c j d e p q h =
    let prefix = sym (take_prefix t s i b c p) in
    let after = sym (drop_prefix t s j d e q) in
    join (take b t) (u ++ drop d t) (take i s) (v ++ drop j s) (whole t s i b c p)
    ∙ ap (λ fs. faces_of (take b t) (take i s) ++ fs) (join u (drop d t) v (drop j s) h)
    ∙ (λ k. prefix k ++ (faces_of u v ++ after k))

pub replaced_cut : (t u : List ℕ) (s v : List CellSize) (i b c j d e : ℕ) → Placed t s i b c → Placed t s j d e → bytes_of v ≡ length u
    → is_cut t s ≡ true → is_cut u v ≡ true → is_cut (take b t ++ (u ++ drop d t)) (take i s ++ (v ++ drop j s)) ≡ true
replaced_cut t u s v i b c j d e p q h whole_cut new_cut =
    cut_join (take b t) (u ++ drop d t) (take i s) (v ++ drop j s) (whole t s i b c p)
    ∙ ap (λ x. is_cut (take b t) (take i s) && x) (cut_join u (drop d t) v (drop j s) h)
    ∙ and_from (is_cut (take b t) (take i s)) (is_cut u v && is_cut (drop d t) (drop j s)) (cut_parts t s i b c p whole_cut).0
    (and_from (is_cut u v) (is_cut (drop d t) (drop j s)) new_cut (cut_parts t s j d e q whole_cut).1)

pub replaced_bytes : (s v : List CellSize) (i j b d n sized : ℕ) → b ≡ bytes_of (take i s) → d ≡ bytes_of (take j s) → bytes_of v ≡ n → sized ≡ bytes_of s
    → b + n + (sized - d) ≡ bytes_of (take i s ++ (v ++ drop j s))
replaced_bytes s v i j b d n sized p q h k =
    omega (arith, bytes_of-append (take i s) (v ++ drop j s), bytes_of-append v (drop j s), bytes_split j s)

pub replaced_columns : (s v : List CellSize) (i j c e sized : ℕ) → c ≡ columns_of (take i s) → e ≡ columns_of (take j s) → c + columns_of v ≡ e → sized ≡ columns_of s
    → sized ≡ columns_of (take i s ++ (v ++ drop j s))
replaced_columns s v i j c e sized p q h k =
    omega (arith, columns_of-append (take i s) (v ++ drop j s), columns_of-append v (drop j s), columns_split j s)

-- ---- a wide cell that is cut

at_wide : (t : List ℕ) (s : List CellSize) (i b c : ℕ) (d : CellSize) → Placed t s i b c → i < length s → (get_or s i d).is_wide ≡ true
    → faces_of t s ≡ faces_of (take b t) (take i s)
    ++ (Left (take (get_or s i d).len (drop b t)) ∷ Right ∷ faces_of (drop (get_or s i d).len (drop b t)) (drop (i + 1) s))
at_wide t s i b c d p l w =
    let size = get_or s i d in
    parted t s i b c p
    ∙ ap (λ sizes. faces_of (take b t) (take i s) ++ faces_of (drop b t) sizes) (drop_more s i d l)
    ∙ ap (λ wide. faces_of (take b t) (take i s) ++ (cell_faces wide (take size.len (drop b t)) ++ faces_of (drop size.len (drop b t)) (drop (i + 1) s))) w

pub split_cell_at : (t : List ℕ) (s : List CellSize) (i b c : ℕ) (d : CellSize) → Placed t s i b c → i < length s → (get_or s i d).is_wide ≡ true
    → take c (faces_of t s) ++ (Own space ∷ Own space ∷ drop (c + 2) (faces_of t s)) ≡ opened (c + 1) (faces_of t s)
split_cell_at t s i b c d p l w =
    let size = get_or s i d in
    let fs = faces_of t s in
    let prefix = faces_of (take b t) (take i s) in
    let text = take size.len (drop b t) in
    let after = faces_of (drop size.len (drop b t)) (drop (i + 1) s) in
    let n = prefix_columns t s i b c p in
    let is = at_wide t s i b c d p l w in
    let two : prefix ++ (Left text ∷ Right ∷ after) ≡ (prefix ++ Left text ∷ Right ∷ []) ++ after = sym (append_assoc prefix (Left text ∷ Right ∷ []) after) in
    let m = length-append prefix (Left text ∷ Right ∷ []) in
    let last : drop (c + 2) fs ≡ after = ap (drop (c + 2)) (is ∙ two) ∙ drop_at (prefix ++ Left text ∷ Right ∷ []) after (c + 2) (omega (arith, m, n)) in
    let first : take c fs ≡ prefix = take_prefix t s i b c p in
    (λ k. first k ++ (Own space ∷ Own space ∷ last k)) ∙ sym (was_split prefix after text c n) ∙ ap (opened (c + 1)) (sym is)

pub closed_in_wide : (t : List ℕ) (s : List CellSize) (i b c : ℕ) (d : CellSize) → Placed t s i b c → i < length s → (get_or s i d).is_wide ≡ true
    → faces_of (take b t ++ 32 ∷ []) (take i s) ≡ closed_end (take (c + 1) (faces_of t s))
closed_in_wide t s i b c d p l w =
    let size = get_or s i d in
    let prefix = faces_of (take b t) (take i s) in
    let text = take size.len (drop b t) in
    let after = faces_of (drop size.len (drop b t)) (drop (i + 1) s) in
    let fit = whole t s i b c p in
    faces_more (take b t) (32 ∷ []) (take i s) (omega (arith, fit))
    ∙ sym (split_end prefix after text c (prefix_columns t s i b c p))
    ∙ ap (λ fs. closed_end (take (c + 1) fs)) (sym (at_wide t s i b c d p l w))

pub cut_in_wide : (t : List ℕ) (s : List CellSize) (i b c : ℕ) → Placed t s i b c → is_cut t s ≡ true → is_cut (take b t ++ 32 ∷ []) (take i s) ≡ true
cut_in_wide t s i b c p h =
    let fit = whole t s i b c p in
    cut_more (take b t) (32 ∷ []) (take i s) (omega (arith, fit)) ∙ and_from (is_cut (take b t) (take i s)) (list_all is_printable (32 ∷ [])) (cut_parts t s i b c p h).0 refl

-- ---- among the plain cells after the sizes

all-drop : (n : ℕ) (bytes : List ℕ) → list_all is_printable bytes ≡ true → list_all is_printable (drop n bytes) ≡ true
all-drop zero bytes h = h
all-drop (suc n) [] h = h
all-drop (suc n) (b ∷ bytes) h = all-drop n bytes (and_parts (is_printable b) (list_all is_printable bytes) h).1

all-take : (n : ℕ) (bytes : List ℕ) → list_all is_printable bytes ≡ true → list_all is_printable (take n bytes) ≡ true
all-take zero bytes h = refl
all-take (suc n) [] h = h
all-take (suc n) (b ∷ bytes) h =
    let p = and_parts (is_printable b) (list_all is_printable bytes) h in
    and_from (is_printable b) (list_all is_printable (take n bytes)) p.0 (all-take n bytes p.1)

-- a column among these, and its byte
pub record IsAfter (t : List ℕ) (s : List CellSize) (m at : ℕ) : Type 0 where
  pub sized : bytes_of s ≤ m
  pub within : m ≤ length t
  pub column : m + columns_of s ≡ bytes_of s + at

pub after_prefix : (t : List ℕ) (s : List CellSize) (m at : ℕ) → IsAfter t s m at → length (faces_of (take m t) s) ≡ at
after_prefix t s m at p =
    let sized = p.sized in
    let column = p.column in
    let n = length-take-le m t p.within in
    let k = length-faces (take m t) s (omega (arith, n, sized)) in
    omega (arith, n, k, column, sized)

pub after_parted : (t : List ℕ) (s : List CellSize) (m at : ℕ) → IsAfter t s m at → faces_of t s ≡ faces_of (take m t) s ++ plain_faces (drop m t)
after_parted t s m at p =
    let sized = p.sized in
    let n = length-take-le m t p.within in
    ap (λ text. faces_of text s) (sym (take-append-drop m t)) ∙ faces_more (take m t) (drop m t) s (omega (arith, n, sized))

pub after_taken : (t : List ℕ) (s : List CellSize) (m at : ℕ) → IsAfter t s m at → take at (faces_of t s) ≡ faces_of (take m t) s
after_taken t s m at p = ap (take at) (after_parted t s m at p) ∙ take_at (faces_of (take m t) s) (plain_faces (drop m t)) at (after_prefix t s m at p)

pub after_cut : (t : List ℕ) (s : List CellSize) (m at : ℕ) → IsAfter t s m at → faces_of (take m t) s ≡ closed_end (take at (faces_of t s))
after_cut t s m at p = sym (ap closed_end (after_taken t s m at p) ∙ closed_end-faces (take m t) s)

pub after_stays_cut : (t : List ℕ) (s : List CellSize) (m at : ℕ) → IsAfter t s m at → is_cut t s ≡ true → is_cut (take m t) s ≡ true
after_stays_cut t s m at p h =
    let sized = p.sized in
    let n = length-take-le m t p.within in
    (and_parts (is_cut (take m t) s) (list_all is_printable (drop m t))
    (sym (ap (λ text. is_cut text s) (sym (take-append-drop m t)) ∙ cut_more (take m t) (drop m t) s (omega (arith, n, sized))) ∙ h)).0

pub after_set : (t u : List ℕ) (s : List CellSize) (m at : ℕ) → IsAfter t s m at
    → faces_of (take m t ++ (u ++ drop (m + length u) t)) s ≡ set_faces (faces_of t s) at (plain_faces u)
after_set t u s m at p =
    let sized = p.sized in
    let n = length-take-le m t p.within in
    let fs = faces_of t s in
    let prefix = faces_of (take m t) s in
    let rest = plain_faces (drop (m + length u) t) in
    let k = after_prefix t s m at p in
    let count : length (plain_faces u) ≡ length u = length-map u (λ byte. Own (byte ∷ [])) in
    let dropped : drop (at + length (plain_faces u)) fs ≡ rest =
    ap (λ x. drop (at + x) fs) count
    ∙ ap (drop (at + length u)) (after_parted t s m at p)
    ∙ ap (λ x. drop (x + length u) (prefix ++ plain_faces (drop m t))) (sym k)
    ∙ drop-append-add prefix (plain_faces (drop m t)) (length u)
    ∙ drop-map (λ byte. Own (byte ∷ [])) (length u) (drop m t)
    ∙ ap plain_faces (drop-drop (length u) m t) in
    let first = sym (after_cut t s m at p) in
    let last : closed_start (drop (at + length (plain_faces u)) fs) ≡ rest = ap closed_start dropped ∙ closed_start-plain (drop (m + length u) t) in
    faces_more (take m t) (u ++ drop (m + length u) t) s (omega (arith, n, sized))
    ∙ ap (λ x. prefix ++ x) (map-append (λ byte. Own (byte ∷ [])) u (drop (m + length u) t))
    ∙ sym ((λ i. first i ++ plain_faces u ++ last i) ∙ append_assoc prefix (plain_faces u) rest)

pub after_set_cut : (t u : List ℕ) (s : List CellSize) (m at : ℕ) → IsAfter t s m at → m + length u ≤ length t → list_all is_printable u ≡ true → is_cut t s ≡ true
    → is_cut (take m t ++ (u ++ drop (m + length u) t)) s ≡ true
after_set_cut t u s m at p l h k =
    let sized = p.sized in
    let n = length-take-le m t p.within in
    let both = and_parts (is_cut (take m t) s) (list_all is_printable (drop m t)) (sym (ap (λ text. is_cut text s) (sym (take-append-drop m t)) ∙ cut_more (take m t) (drop m t) s (omega (arith, n, sized))) ∙ k) in
    let rest : list_all is_printable (drop (m + length u) t) ≡ true =
    ap (list_all is_printable) (sym (drop-drop (length u) m t)) ∙ all-drop (length u) (drop m t) both.1 in
    cut_more (take m t) (u ++ drop (m + length u) t) s (omega (arith, n, sized))
    ∙ and_from (is_cut (take m t) s) (list_all is_printable (u ++ drop (m + length u) t)) both.0
    (list_all-append is_printable u (drop (m + length u) t)
    ∙ and_from (list_all is_printable u) (list_all is_printable (drop (m + length u) t)) h rest)

-- ---- the face of a column

first_at : (wide : Bool) (prefix after : List Face) (text : List ℕ) (at : ℕ) → length prefix ≡ at → get_or (prefix ++ (cell_faces wide text ++ after)) at Right ≡ first_face wide text
first_at true prefix after text at n = get_or_at prefix (Left text) (Right ∷ after) Right at n
first_at false prefix after text at n = get_or_at prefix (Own text) after Right at n

-- a cell at its first column
pub face_at_position : (t : List ℕ) (s : List CellSize) (i b c : ℕ) (d : CellSize) → Placed t s i b c → i < length s
    → get_or (faces_of t s) c Right ≡ first_face (get_or s i d).is_wide (take (get_or s i d).len (drop b t))
face_at_position t s i b c d p l =
    let size = get_or s i d in
    let prefix = faces_of (take b t) (take i s) in
    ap (λ fs. get_or fs c Right) (parted t s i b c p ∙ ap (λ sizes. prefix ++ faces_of (drop b t) sizes) (drop_more s i d l))
    ∙ first_at size.is_wide prefix (faces_of (drop size.len (drop b t)) (drop (i + 1) s)) (take size.len (drop b t)) c (prefix_columns t s i b c p)

-- a wide one at its second column
pub face_in_wide : (t : List ℕ) (s : List CellSize) (i b c : ℕ) (d : CellSize) → Placed t s i b c → i < length s → (get_or s i d).is_wide ≡ true → get_or (faces_of t s) (c + 1) Right ≡ Right
face_in_wide t s i b c d p l w =
    let size = get_or s i d in
    let prefix = faces_of (take b t) (take i s) in
    let text = take size.len (drop b t) in
    let after = faces_of (drop size.len (drop b t)) (drop (i + 1) s) in
    let n = prefix_columns t s i b c p in
    ap (λ fs. get_or fs (c + 1) Right) (at_wide t s i b c d p l w ∙ sym (append_assoc prefix (Left text ∷ []) (Right ∷ after)))
    ∙ get_or_at (prefix ++ Left text ∷ []) Right after Right (c + 1) (omega (arith, n, length_push prefix (Left text)))

pub cell_utf8 : (t : List ℕ) (s : List CellSize) (i b c : ℕ) (d : CellSize) → Placed t s i b c → i < length s → is_cut t s ≡ true → IsUtf8 (take (get_or s i d).len (drop b t))
cell_utf8 t s i b c d p l h =
    let size = get_or s i d in
    let after = sym (ap (is_cut (drop b t)) (drop_more s i d l)) ∙ (cut_parts t s i b c p h).1 in
    IsUtf8-cell size (take size.len (drop b t)) (and_parts (is_text size (take size.len (drop b t))) (is_cut (drop size.len (drop b t)) (drop (i + 1) s)) after).0

pub cell_kept : (t : List ℕ) (s : List CellSize) (i b c : ℕ) (d : CellSize) → Placed t s i b c → i < length s → is_cut t s ≡ true → shows_as_space (take (get_or s i d).len (drop b t)) ≡ false
cell_kept t s i b c d p l h =
    let first = drop_more s i d l in
    let bytes = p.bytes in
    let within = p.within in
    kept_first (get_or s i d) (drop b t) (drop (i + 1) s) (omega (arith, bytes, within, bytes_split i s, ap bytes_of first, length-drop b t))
    (sym (ap (is_cut (drop b t)) first) ∙ (cut_parts t s i b c p h).1)

first_byte : (bytes : List ℕ) (b : ℕ) (rest : List ℕ) (n : ℕ) → bytes ≡ b ∷ rest → n ≡ 1 → take n bytes ≡ b ∷ []
first_byte bytes b rest n e one = (λ i. take (one i) (e i))

-- a plain cell
pub face_after : (t : List ℕ) (s : List CellSize) (m at n : ℕ) → IsAfter t s m at → m < length t → n ≡ 1 → get_or (faces_of t s) at Right ≡ Own (take n (drop m t))
face_after t s m at n p l one =
    let first = drop_more t m 0 l in
    ap (λ fs. get_or fs at Right) (after_parted t s m at p ∙ ap (λ bytes. faces_of (take m t) s ++ plain_faces bytes) first)
    ∙ get_or_at (faces_of (take m t) s) (Own (get_or t m 0 ∷ [])) (plain_faces (drop (m + 1) t)) Right at (after_prefix t s m at p)
    ∙ ap Own (sym (first_byte (drop m t) (get_or t m 0) (drop (m + 1) t) n first one))

pub plain_utf8 : (t : List ℕ) (s : List CellSize) (m at n : ℕ) → IsAfter t s m at → m < length t → n ≡ 1 → is_cut t s ≡ true → IsUtf8 (take n (drop m t))
plain_utf8 t s m at n p l one h =
    let sized = p.sized in
    let k = length-take-le m t p.within in
    let both = and_parts (is_cut (take m t) s) (list_all is_printable (drop m t))
    (sym (ap (λ text. is_cut text s) (sym (take-append-drop m t)) ∙ cut_more (take m t) (drop m t) s (omega (arith, k, sized))) ∙ h) in
    IsUtf8-cut (take n (drop m t)) [] (all-take n (drop m t) both.1)

pub plain_kept : (t : List ℕ) (s : List CellSize) (m at n : ℕ) → IsAfter t s m at → m < length t → n ≡ 1 → is_cut t s ≡ true → shows_as_space (take n (drop m t)) ≡ false
plain_kept t s m at n p l one h =
    let sized = p.sized in
    let k = length-take-le m t p.within in
    let both = and_parts (is_cut (take m t) s) (list_all is_printable (drop m t))
    (sym (ap (λ text. is_cut text s) (sym (take-append-drop m t)) ∙ cut_more (take m t) (drop m t) s (omega (arith, k, sized))) ∙ h) in
    kept_plain (take n (drop m t)) (all-take n (drop m t) both.1) (omega (arith, one, l, length-drop m t, length-take-le n (drop m t) (omega (arith, one, l, length-drop m t))))
