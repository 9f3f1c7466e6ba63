-- The faces and columns of a text that is cut into cells, after each change.
use Rattle.std.proofs.Common.{◌≡◌, ℕ, zero, suc, ◌+◌, ◌-◌, ◌<◌, ◌≤◌, Bool, true, false, List, [], ◌∷◌, ◌++◌, length, take, drop, replicate, get_or, refl, sym, ap, subst, ◌∙◌, arith, append_assoc, length-append, inl, inr, IsUtf8}
use Rattle.std.specs.List.{list_all}
use Rattle.std.specs.Prelude.{cond, ◌⊎◌}
use Rattle.std.specs.String.Boundary.{IsSplitPoint}
use Rattle.std.proofs.lemmas.Str.{IsCharBoundary-from_drop}
use Rattle.std.proofs.lemmas.Bool.{and_from, cond-true, cases_lt}
use Rattle.std.proofs.lemmas.List.{length-take, length-take-le, length-drop, length-replicate, take-take, take_at, length_push, take_all, take_more, get_or_default}
use Rattle.cell_base.specs.Row.{space}
use Rattle.text_clusters.specs.Plain.{is_printable}
use Rattle.cell_base.specs.CellContent.{shows_as_space}
use Rattle.clustered_row.specs.declared.cell_size.CellSize.{CellSize}
use Rattle.clustered_row.specs.declared.cut_text.CutText.{CutText}
use Rattle.clustered_row.specs.declared.position.Position.{Position}
use Rattle.clustered_row.specs.Faces.{Own, Right, first_face, plain_faces, closed_end, opened, set_faces, padded}
use Rattle.clustered_row.specs.Position.{IsPosition, IsSplit}
use Rattle.clustered_row.specs.Sizes.{width_of, bytes_of, columns_of, is_plain, ends_plain, faces_of, is_cut}
use Rattle.clustered_row.proofs.SizeLemmas.{bytes_of-append, columns_of-append, bytes_split, columns_split, bytes_next, columns_next, columns_bound, columns_many, join, cut_join, width_bounds, IsUtf8-cut, length-faces, faces_more, cut_more, plain_sizes, plain_sums, plain_copies, ends_plain-push, second_column}
use Rattle.clustered_row.proofs.TextLemmas.{Placed, IsAfter, replaced, replaced_cut, replaced_bytes, replaced_columns, split_cell_at, closed_at_position, closed_in_wide, cut_in_wide, cut_parts, opened_at_position, after_cut, after_stays_cut, after_set, after_set_cut, face_at_position, face_in_wide, cell_kept, cell_utf8}

-- the sizes of the first cells of a text, with their sums
pub record IsSized (t : List ℕ) (s : List CellSize) (bytes columns : ℕ) : Type 0 where
  pub bytes_are : bytes ≡ bytes_of s
  pub columns_are : columns ≡ columns_of s
  pub within : bytes ≤ length t
  pub parts : is_cut t s ≡ true

pub fits : (t : List ℕ) (s : List CellSize) (sb sc : ℕ) → IsSized t s sb sc → bytes_of s ≤ length t
fits t s sb sc h = omega arith

placed : (t : List ℕ) (s : List CellSize) (sb sc : ℕ) (p : Position) → IsSized t s sb sc → IsPosition s p → Placed t s p.index p.bytes p.columns
placed t s sb sc p h q = record { bytes = q.bytes; columns = q.columns; within = fits t s sb sc h }

-- how many columns there are
pub column_count : (t : List ℕ) (s : List CellSize) (sb sc n : ℕ) → IsSized t s sb sc → n ≡ length t → sc + (n - sb) ≡ length (faces_of t s)
column_count t s sb sc n h e = let k = length-faces t s (fits t s sb sc h) in omega (arith, k)

-- there are at most two columns per byte, so they can be counted
pub columns_fit : (t : List ℕ) (s : List CellSize) (sb sc n : ℕ) → IsSized t s sb sc → n ≡ length t → sc + (n - sb) ≤ n + n
columns_fit t s sb sc n h e = let k = columns_bound s in omega (arith, k)

pub sized_same : (t u : List ℕ) (s v : List CellSize) (sb sc : ℕ) → u ≡ t → v ≡ s → IsSized t s sb sc → IsSized u v sb sc
sized_same t u s v sb sc p q h = subst (λ x. IsSized x v sb sc) (sym p) (subst (λ x. IsSized t x sb sc) (sym q) h)

-- ---- after the sizes

pub pushed : (t u now : List ℕ) (s : List CellSize) (sb sc : ℕ) → now ≡ t ++ u → list_all is_printable u ≡ true → IsSized t s sb sc → IsSized now s sb sc
pushed t u now s sb sc e k h =
    let le = fits t s sb sc h in
    let n = length-append t u in
    let all = h.within in
    subst (λ x. IsSized x s sb sc) (sym e) (record {
      bytes_are = h.bytes_are;
      columns_are = h.columns_are;
      within = omega (arith, n, all);
      parts = cut_more t u s le ∙ and_from (is_cut t s) (list_all is_printable u) h.parts k;
    })

pub pushed_faces : (t u now : List ℕ) (s : List CellSize) (sb sc : ℕ) → now ≡ t ++ u → IsSized t s sb sc → faces_of now s ≡ faces_of t s ++ plain_faces u
pushed_faces t u now s sb sc e h = ap (λ x. faces_of x s) e ∙ faces_more t u s (fits t s sb sc h)

pub spaces_printable : (n : ℕ) → list_all is_printable (replicate n 32) ≡ true
spaces_printable zero = refl
spaces_printable (suc n) = spaces_printable n

plain_spaces : (n : ℕ) → plain_faces (replicate n 32) ≡ replicate n (Own space)
plain_spaces zero = refl
plain_spaces (suc n) = ap (λ fs. Own space ∷ fs) (plain_spaces n)

pub padded_faces : (t now : List ℕ) (s : List CellSize) (sb sc to n : ℕ) → now ≡ t ++ replicate n 32 → n ≡ to - length (faces_of t s) → IsSized t s sb sc
    → faces_of now s ≡ padded to (faces_of t s)
padded_faces t now s sb sc to n e k h =
    pushed_faces t (replicate n 32) now s sb sc e h ∙ ap (λ fs. faces_of t s ++ fs) (plain_spaces n) ∙ ap (λ m. faces_of t s ++ replicate m (Own space)) k

pub after : (t : List ℕ) (s : List CellSize) (sb sc m at : ℕ) → IsSized t s sb sc → sb ≤ m → m ≤ length t → m + sc ≡ sb + at → IsAfter t s m at
after t s sb sc m at h k l e = record { sized = omega arith; within = l; column = omega arith }

pub set_sized : (t u now : List ℕ) (s : List CellSize) (sb sc m at : ℕ) → now ≡ take m t ++ (u ++ drop (m + length u) t) → IsSized t s sb sc → IsAfter t s m at
    → m + length u ≤ length t → list_all is_printable u ≡ true → IsSized now s sb sc
set_sized t u now s sb sc m at e h p l k =
    let one = length-take-le m t p.within in
    let two = length-drop (m + length u) t in
    let three = length-append u (drop (m + length u) t) in
    let four = length-append (take m t) (u ++ drop (m + length u) t) in
    let all = h.within in
    subst (λ x. IsSized x s sb sc) (sym e) (record {
      bytes_are = h.bytes_are;
      columns_are = h.columns_are;
      within = omega (arith, one, two, three, four, all);
      parts = after_set_cut t u s m at p l k h.parts;
    })

pub set_shown : (t u now : List ℕ) (s : List CellSize) (m at : ℕ) → now ≡ take m t ++ (u ++ drop (m + length u) t) → IsAfter t s m at
    → faces_of now s ≡ set_faces (faces_of t s) at (plain_faces u)
set_shown t u now s m at e p = ap (λ x. faces_of x s) e ∙ after_set t u s m at p

pub cut_sized : (t now : List ℕ) (s : List CellSize) (sb sc m at : ℕ) → now ≡ take m t → IsSized t s sb sc → IsAfter t s m at → IsSized now s sb sc
cut_sized t now s sb sc m at e h p =
    let one = length-take-le m t p.within in
    let sized = p.sized in
    let bytes = h.bytes_are in
    subst (λ x. IsSized x s sb sc) (sym e) (record {
      bytes_are = h.bytes_are;
      columns_are = h.columns_are;
      within = omega (arith, one, sized, bytes);
      parts = after_stays_cut t s m at p h.parts;
    })

pub cut_shown : (t now : List ℕ) (s : List CellSize) (m at : ℕ) → now ≡ take m t → IsAfter t s m at → faces_of now s ≡ closed_end (take at (faces_of t s))
cut_shown t now s m at e p = ap (λ x. faces_of x s) e ∙ after_cut t s m at p

-- ---- a cut at a position

position_bytes : (s : List CellSize) (p : Position) → IsPosition s p → p.bytes ≤ bytes_of s
position_bytes s p q = let k = bytes_split p.index s in omega (arith, k)

pub cut_at_position_sized : (t now : List ℕ) (s sizes : List CellSize) (sb sc : ℕ) (p : Position) → now ≡ take p.bytes t → sizes ≡ take p.index s → IsSized t s sb sc → IsPosition s p
    → IsSized now sizes p.bytes p.columns
cut_at_position_sized t now s sizes sb sc p e k h q =
    let at = placed t s sb sc p h q in
    let le = position_bytes s p q in
    let n = length-take-le p.bytes t (omega arith) in
    subst (λ x. IsSized x sizes p.bytes p.columns) (sym e) (subst (λ x. IsSized (take p.bytes t) x p.bytes p.columns) (sym k) (record {
      bytes_are = q.bytes;
      columns_are = q.columns;
      within = omega (arith, n);
      parts = (cut_parts t s p.index p.bytes p.columns at h.parts).0;
    }))

pub cut_at_position_shown : (t now : List ℕ) (s sizes : List CellSize) (sb sc : ℕ) (p : Position) (at : ℕ) → now ≡ take p.bytes t → sizes ≡ take p.index s → IsSized t s sb sc → IsPosition s p
    → p.columns ≡ at → faces_of now sizes ≡ closed_end (take at (faces_of t s))
cut_at_position_shown t now s sizes sb sc p at e k h q same =
    (λ i. faces_of (e i) (k i)) ∙ closed_at_position t s p.index p.bytes p.columns (placed t s sb sc p h q) ∙ ap (λ n. closed_end (take n (faces_of t s))) same

pub cut_in_wide_sized : (t now : List ℕ) (s sizes : List CellSize) (sb sc : ℕ) (p : Position) → now ≡ take p.bytes t ++ 32 ∷ [] → sizes ≡ take p.index s → IsSized t s sb sc → IsPosition s p
    → IsSized now sizes p.bytes p.columns
cut_in_wide_sized t now s sizes sb sc p e k h q =
    let at = placed t s sb sc p h q in
    let le = position_bytes s p q in
    let n = length-take-le p.bytes t (omega arith) in
    let m = length_push (take p.bytes t) 32 in
    subst (λ x. IsSized x sizes p.bytes p.columns) (sym e) (subst (λ x. IsSized (take p.bytes t ++ 32 ∷ []) x p.bytes p.columns) (sym k) (record {
      bytes_are = q.bytes;
      columns_are = q.columns;
      within = omega (arith, n, m);
      parts = cut_in_wide t s p.index p.bytes p.columns at h.parts;
    }))

pub cut_in_wide_shown : (t now : List ℕ) (s sizes : List CellSize) (sb sc : ℕ) (p : Position) (at : ℕ) (d : CellSize) → now ≡ take p.bytes t ++ 32 ∷ [] → sizes ≡ take p.index s
    → IsSized t s sb sc → IsPosition s p → IsSplit s p at d → faces_of now sizes ≡ closed_end (take at (faces_of t s))
cut_in_wide_shown t now s sizes sb sc p at d e k h q w =
    (λ i. faces_of (e i) (k i))
    ∙ closed_in_wide t s p.index p.bytes p.columns d (placed t s sb sc p h q) w.within w.wide
    ∙ ap (λ n. closed_end (take n (faces_of t s))) (sym w.column)

-- ---- sizes of plain cells

pub covered_sized : (t : List ℕ) (s now : List CellSize) (sb sc n : ℕ) (plain : CellSize) → is_plain plain ≡ true → now ≡ s ++ replicate n plain → sb + n ≤ length t → IsSized t s sb sc
    → IsSized t now (sb + n) (sc + n)
covered_sized t s now sb sc n plain k e l h =
    let more = replicate n plain in
    let all = plain_copies n plain k in
    let sums = plain_sums more all in
    let sum_bytes = sums.0 in
    let sum_columns = sums.1 in
    let count = length-replicate n plain in
    subst (λ x. IsSized t x (sb + n) (sc + n)) (sym e) (record {
      bytes_are = omega (arith, bytes_of-append s more, sum_bytes, count);
      columns_are = omega (arith, columns_of-append s more, sum_columns, count);
      within = l;
      parts = (plain_sizes t s more all (omega (arith, count))).1 ∙ h.parts;
    })

pub covered_shown : (t : List ℕ) (s now : List CellSize) (sb sc n : ℕ) (plain : CellSize) → is_plain plain ≡ true → now ≡ s ++ replicate n plain → sb + n ≤ length t → IsSized t s sb sc
    → faces_of t now ≡ faces_of t s
covered_shown t s now sb sc n plain k e l h =
    let count = length-replicate n plain in
    ap (faces_of t) e ∙ (plain_sizes t s (replicate n plain) (plain_copies n plain k) (omega (arith, count))).0

last_plain : (s now : List CellSize) (p : CellSize) → s ≡ now ++ p ∷ [] → ends_plain s ≡ true → is_plain p ≡ true
last_plain s now p e h = sym (ap ends_plain e ∙ ends_plain-push now p) ∙ h

pub dropped_sized : (t : List ℕ) (s now : List CellSize) (sb sc : ℕ) (p : CellSize) → s ≡ now ++ p ∷ [] → ends_plain s ≡ true → IsSized t s sb sc
    → IsSized t now (sb - 1) (sc - 1) × (1 ≤ sb) × (1 ≤ sc)
dropped_sized t s now sb sc p e k h =
    let plain = last_plain s now p e k in
    let one = plain_sums (p ∷ []) (and_from (is_plain p) true plain refl) in
    let one_byte = one.0 in
    let one_column = one.1 in
    let sum_bytes = ap bytes_of e ∙ bytes_of-append now (p ∷ []) in
    let sum_columns = ap columns_of e ∙ columns_of-append now (p ∷ []) in
    let same = plain_sizes t now (p ∷ []) (and_from (is_plain p) true plain refl) (omega (arith, sum_bytes, one_byte)) in (
      record {
        bytes_are = omega (arith, sum_bytes, one_byte);
        columns_are = omega (arith, sum_columns, one_column);
        within = omega arith;
        parts = sym same.1 ∙ ap (is_cut t) (sym e) ∙ h.parts;
      },
      omega (arith, sum_bytes, one_byte),
      omega (arith, sum_columns, one_column),
    )

pub dropped_shown : (t : List ℕ) (s now : List CellSize) (sb sc : ℕ) (p : CellSize) → s ≡ now ++ p ∷ [] → ends_plain s ≡ true → IsSized t s sb sc → faces_of t now ≡ faces_of t s
dropped_shown t s now sb sc p e k h =
    let plain = last_plain s now p e k in
    let one = plain_sums (p ∷ []) (and_from (is_plain p) true plain refl) in
    let one_byte = one.0 in
    let sum_bytes = ap bytes_of e ∙ bytes_of-append now (p ∷ []) in
    sym (plain_sizes t now (p ∷ []) (and_from (is_plain p) true plain refl) (omega (arith, sum_bytes, one_byte))).0 ∙ ap (faces_of t) (sym e)

-- ---- cells replaced between two positions

pub replaced_sized : (t u now : List ℕ) (s v sizes : List CellSize) (sb sc : ℕ) (p q : Position)
    → now ≡ take p.bytes t ++ (u ++ drop q.bytes t) → sizes ≡ take p.index s ++ (v ++ drop q.index s) → IsSized t s sb sc → IsPosition s p → IsPosition s q
    → bytes_of v ≡ length u → p.columns + columns_of v ≡ q.columns → is_cut u v ≡ true → IsSized now sizes (p.bytes + length u + (sb - q.bytes)) sc
replaced_sized t u now s v sizes sb sc p q e k h a b bytes columns cut =
    let from = placed t s sb sc p h a in
    let to = placed t s sb sc q h b in
    let whole = h.within in
    let sum = h.bytes_are in
    let one = position_bytes s p a in
    let other = position_bytes s q b in
    let n = length-take-le p.bytes t (omega arith) in
    let m = length-append (take p.bytes t) (u ++ drop q.bytes t) in
    let l = length-append u (drop q.bytes t) in
    let d = length-drop q.bytes t in
    subst (λ x. IsSized x sizes (p.bytes + length u + (sb - q.bytes)) sc) (sym e)
    (subst (λ x. IsSized (take p.bytes t ++ (u ++ drop q.bytes t)) x (p.bytes + length u + (sb - q.bytes)) sc) (sym k) (record {
      bytes_are = replaced_bytes s v p.index q.index p.bytes q.bytes (length u) sb a.bytes b.bytes bytes h.bytes_are;
      columns_are = replaced_columns s v p.index q.index p.columns q.columns sc a.columns b.columns columns h.columns_are;
      within = omega (arith, n, m, l, d, whole, sum, one, other);
      parts = replaced_cut t u s v p.index p.bytes p.columns q.index q.bytes q.columns from to bytes h.parts cut;
    }))

pub replaced_shown : (t u now : List ℕ) (s v sizes : List CellSize) (sb sc : ℕ) (p q : Position)
    → now ≡ take p.bytes t ++ (u ++ drop q.bytes t) → sizes ≡ take p.index s ++ (v ++ drop q.index s) → IsSized t s sb sc → IsPosition s p → IsPosition s q
    → bytes_of v ≡ length u → faces_of now sizes ≡ take p.columns (faces_of t s) ++ (faces_of u v ++ drop q.columns (faces_of t s))
replaced_shown t u now s v sizes sb sc p q e k h a b bytes =
    (λ i. faces_of (e i) (k i))
    ∙ replaced t u s v p.index p.bytes p.columns q.index q.bytes q.columns (placed t s sb sc p h a) (placed t s sb sc q h b) bytes

-- ---- positions

-- the position after the cell at a position
pub next_position : (s : List CellSize) (p q : Position) (d : CellSize) → IsPosition s p → p.index < length s
    → q.index ≡ p.index + 1 → q.bytes ≡ p.bytes + (get_or s p.index d).len → q.columns ≡ p.columns + width_of (get_or s p.index d).is_wide → IsPosition s q
next_position s p q d a l i b c =
    let bytes = bytes_next s p.index d l in
    let columns = columns_next s p.index d l in
    record {
      within = omega arith;
      bytes = b ∙ ap (λ n. n + (get_or s p.index d).len) a.bytes ∙ sym bytes ∙ ap (λ n. bytes_of (take n s)) (sym i);
      columns = c ∙ ap (λ n. n + width_of (get_or s p.index d).is_wide) a.columns ∙ sym columns ∙ ap (λ n. columns_of (take n s)) (sym i);
    }

-- its bytes and columns are some of all
pub next_fits : (s : List CellSize) (p : Position) (d : CellSize) → IsPosition s p → p.index < length s
    → (p.bytes + (get_or s p.index d).len ≤ bytes_of s) × (p.columns + width_of (get_or s p.index d).is_wide ≤ columns_of s)
next_fits s p d a l =
    let bytes = bytes_next s p.index d l in
    let columns = columns_next s p.index d l in
    let one = bytes_split (p.index + 1) s in
    let two = columns_split (p.index + 1) s in
    (omega (arith, bytes, one), omega (arith, columns, two))

-- a column that is not after the cell is its first one, or the second one of a wide cell
pub found_split : (s : List CellSize) (p : Position) (at : ℕ) (d : CellSize) → p.index < length s → p.columns < at → at < p.columns + width_of (get_or s p.index d).is_wide → IsSplit s p at d
found_split s p at d l less more =
    let w = second_column (get_or s p.index d).is_wide p.columns at less more in
    record { within = l; wide = w.0; column = w.1 }

pub position_past : (s : List CellSize) (p : Position) → IsPosition s p → length s ≤ p.index → p.columns ≡ columns_of s
position_past s p a l = a.columns ∙ ap columns_of (take_all p.index s l)

-- ---- a wide cell that becomes two spaces

pub split_shown : (t : List ℕ) (s : List CellSize) (sb sc : ℕ) (p : Position) (at : ℕ) (d : CellSize) → IsSized t s sb sc → IsPosition s p → IsSplit s p at d
    → take p.columns (faces_of t s) ++ (Own space ∷ Own space ∷ drop (p.columns + 2) (faces_of t s)) ≡ opened at (faces_of t s)
split_shown t s sb sc p at d h a w =
    split_cell_at t s p.index p.bytes p.columns d (placed t s sb sc p h a) w.within w.wide ∙ ap (λ n. opened n (faces_of t s)) (sym w.column)

pub opened_here : (t : List ℕ) (s : List CellSize) (sb sc : ℕ) (p : Position) (at : ℕ) → IsSized t s sb sc → IsPosition s p → p.columns ≡ at → faces_of t s ≡ opened at (faces_of t s)
opened_here t s sb sc p at h a e =
    opened_at_position t s p.index p.bytes p.columns (placed t s sb sc p h a) ∙ ap (λ n. opened n (faces_of t s)) e

-- where the first of the two spaces ends
pub split_count : (s now : List CellSize) (i : ℕ) (plain : CellSize) → i < length s → take (i + 1) now ≡ take i s ++ plain ∷ [] → i + 1 ≤ length now
split_count s now i plain l e =
    let n = length-take (i + 1) now in
    let m = length-take-le i s (omega arith) in
    let k = length_push (take i s) plain in
    let same = ap length e in
    omega (arith, n, m, k, same)

pub split_position : (s now : List CellSize) (p q : Position) (plain : CellSize) → is_plain plain ≡ true → p.index < length s → take (p.index + 1) now ≡ take p.index s ++ plain ∷ [] → IsPosition s p
    → q.index ≡ p.index + 1 → q.bytes ≡ p.bytes + 1 → q.columns ≡ p.columns + 1 → IsPosition now q
split_position s now p q plain k l e a i b c =
    let count = split_count s now p.index plain l e in
    let one = plain_sums (plain ∷ []) (and_from (is_plain plain) true k refl) in
    let one_byte = one.0 in
    let one_column = one.1 in
    let bytes = ap (λ n. bytes_of (take n now)) i ∙ ap bytes_of e ∙ bytes_of-append (take p.index s) (plain ∷ []) in
    let columns = ap (λ n. columns_of (take n now)) i ∙ ap columns_of e ∙ columns_of-append (take p.index s) (plain ∷ []) in
    record {
      within = omega (arith, count);
      bytes = omega (arith, bytes, one_byte);
      columns = omega (arith, columns, one_column);
    }

-- ---- of a value

pub sized_of : (cut : CutText) → IsSized cut.text.items cut.sizes.items cut.sized_bytes cut.sized_columns
sized_of cut = record { bytes_are = cut.bytes; columns_are = cut.columns; within = cut.within; parts = cut.parts }

-- the byte of a plain cell is one of the text
pub after_byte : (t : List ℕ) (s : List CellSize) (sb sc at : ℕ) → IsSized t s sb sc → sc ≤ at → at ≤ length (faces_of t s) → sb + (at - sc) ≤ length t
after_byte t s sb sc at h l k = let n = column_count t s sb sc (length t) h refl in omega (arith, n)

pub sized_columns_within : (t : List ℕ) (s : List CellSize) (sb sc : ℕ) → IsSized t s sb sc → sc ≤ length (faces_of t s)
sized_columns_within t s sb sc h = let n = column_count t s sb sc (length t) h refl in omega (arith, n)

-- ---- changes that may be refused

pub pushed_if : (ok : Bool) (t u now : List ℕ) (s : List CellSize) (sb sc : ℕ) → now ≡ cond ok (t ++ u) t → list_all is_printable u ≡ true → IsSized t s sb sc → IsSized now s sb sc
pushed_if true t u now s sb sc e k h = pushed t u now s sb sc e k h
pushed_if false t u now s sb sc e k h = sized_same t now s s sb sc e refl h

-- the list after a `resize` that adds items
pub resized : {X : Type 0} (xs : List X) (x : X) (n len : ℕ) → len ≡ length xs → len ≤ n → take n xs ++ replicate (n - len) x ≡ xs ++ replicate (n - len) x
resized {X} xs x n len e h = ap (λ (ys : List X). ys ++ replicate (n - len) x) (take_all n xs (omega arith))

pub ends_plain_at : (xs : List CellSize) (n : ℕ) (s : CellSize) → n ≡ length xs → 0 < n → s ≡ get_or xs (n - 1) s → is_plain s ≡ ends_plain xs
ends_plain_at xs n s e h r =
    let more = take_more xs (n - 1) s (omega arith) in
    let all = take_all (n - 1 + 1) xs (omega arith) in
    ap is_plain r ∙ sym (ends_plain-push (take (n - 1) xs) (get_or xs (n - 1) s)) ∙ ap ends_plain (sym more ∙ all)

-- the list after a `resize` that is not refused
pub grown : {X : Type 0} (xs now : List X) (x : X) (ok : Bool) (n len count : ℕ) → ok ≡ true → now ≡ cond ok (take n xs ++ replicate (n - len) x) xs → len ≡ length xs
    → n ≡ len + count → now ≡ xs ++ replicate count x
grown {X} xs now x ok n len count k e l m =
    let more : n - len ≡ count = omega arith in
    e ∙ cond-true ok (take n xs ++ replicate (n - len) x) xs k ∙ resized xs x n len l (omega arith) ∙ ap (λ c. xs ++ replicate c x) more

pub padded_if : (ok : Bool) (t now : List ℕ) (s : List CellSize) (sb sc n len : ℕ) → now ≡ cond ok (take n t ++ replicate (n - len) 32) t → len ≡ length t → len ≤ n → IsSized t s sb sc
    → IsSized now s sb sc
padded_if true t now s sb sc n len e l m h = pushed t (replicate (n - len) 32) now s sb sc (e ∙ resized t 32 n len l m) (spaces_printable (n - len)) h
padded_if false t now s sb sc n len e l m h = sized_same t now s s sb sc e refl h

-- ---- positions within the cells

-- some size
pub a_size : CellSize
a_size = record { len = 1; is_wide = false; some = omega arith }

pub position_order : (s : List CellSize) (p q : Position) → IsPosition s p → IsPosition s q → p.index ≤ q.index → p.bytes ≤ q.bytes
position_order s p q a b le =
    let k = bytes_split p.index (take q.index s) in
    let same = ap bytes_of (take-take p.index q.index s le) in
    omega (arith, k, same)

pub position_within : (t : List ℕ) (s : List CellSize) (sb sc : ℕ) (p : Position) → IsSized t s sb sc → IsPosition s p → p.bytes ≤ sb
position_within t s sb sc p h a = let k = position_bytes s p a in omega (arith, k)

pub half_bytes : (s : List CellSize) (p : Position) (at : ℕ) (d : CellSize) → IsPosition s p → IsSplit s p at d → p.bytes + 1 ≤ bytes_of s
half_bytes s p at d a w =
    let k = (next_fits s p d a w.within).0 in
    let some = (get_or s p.index d).some in
    omega (arith, k, some)

pub next_read : (s : List CellSize) (p : Position) (x : CellSize) → IsPosition s p → p.index < length s → x ≡ get_or s p.index x
    → (p.bytes + x.len ≤ bytes_of s) × (p.columns + width_of x.is_wide ≤ columns_of s)
next_read s p x a l e =
    let k = next_fits s p x a l in
    subst (λ (y : CellSize). (p.bytes + y.len ≤ bytes_of s) × (p.columns + width_of y.is_wide ≤ columns_of s)) (sym e) k

pub next_position_read : (s : List CellSize) (p q : Position) (x : CellSize) → IsPosition s p → p.index < length s → x ≡ get_or s p.index x
    → q.index ≡ p.index + 1 → q.bytes ≡ p.bytes + x.len → q.columns ≡ p.columns + width_of x.is_wide → IsPosition s q
next_position_read s p q x a l e i b c =
    next_position s p q x a l i (b ∙ ap (λ (y : CellSize). p.bytes + y.len) e) (c ∙ ap (λ (y : CellSize). p.columns + width_of y.is_wide) e)

pub found_split_read : (s : List CellSize) (p : Position) (at : ℕ) (x d : CellSize) → p.index < length s → p.columns < at → at < p.columns + width_of x.is_wide → x ≡ get_or s p.index x → IsSplit s p at d
found_split_read s p at x d l less more e =
    let same : x ≡ get_or s p.index d = e ∙ get_or_default s p.index x d l in
    found_split s p at d l less (subst (λ (y : CellSize). at < p.columns + width_of y.is_wide) same more)

pub plain_within : (t : List ℕ) (s : List CellSize) (sb sc m at n : ℕ) → IsSized t s sb sc → m + sc ≡ sb + at → at + n ≤ length (faces_of t s) → m + n ≤ length t
plain_within t s sb sc m at n h e k = let c = column_count t s sb sc (length t) h refl in omega (arith, c)

pub take_first : {X : Type 0} (xs : List X) (i j : ℕ) (x y : X) → i ≤ length xs → take (i + 1) (take i xs ++ ((x ∷ y ∷ []) ++ drop j xs)) ≡ take i xs ++ x ∷ []
take_first {X} xs i j x y l =
    let n = length-take-le i xs l in
    let m = length_push (take i xs) x in
    ap (take (i + 1)) (sym (append_assoc (take i xs) (x ∷ []) (y ∷ drop j xs))) ∙ take_at (take i xs ++ x ∷ []) (y ∷ drop j xs) (i + 1) (omega (arith, n, m))

pub length-cells : (t : List ℕ) (s : List CellSize) → bytes_of s ≡ length t → length (faces_of t s) ≡ columns_of s
length-cells t s e = let k = length-faces t s (omega arith) in omega (arith, k)

-- ---- positions, from the end

-- more cells take more columns
pub columns_order : (s : List CellSize) (p q : Position) → IsPosition s p → IsPosition s q → p.index ≤ q.index → p.columns + (q.index - p.index) ≤ q.columns
columns_order s p q a b le =
    let k = columns_split p.index (take q.index s) in
    let same = ap columns_of (take-take p.index q.index s le) in
    let many = columns_many (drop p.index (take q.index s)) in
    let n = length-drop p.index (take q.index s) in
    let m = length-take-le q.index s b.within in
    omega (arith, k, same, many, n, m)

index_order_by : (s : List CellSize) (p q : Position) → IsPosition s p → IsPosition s q → p.columns < q.columns → (p.index < q.index) ⊎ (q.index ≤ p.index) → p.index < q.index
index_order_by s p q a b less (inl h) = h
index_order_by s p q a b less (inr h) = let k = columns_order s q p b a h in absurd (omega (arith, k, less))

pub index_order : (s : List CellSize) (p q : Position) → IsPosition s p → IsPosition s q → p.columns < q.columns → p.index < q.index
index_order s p q a b less = index_order_by s p q a b less (cases_lt p.index q.index)

index_within_by : (s : List CellSize) (p q : Position) → IsPosition s p → IsPosition s q → p.columns ≤ q.columns → (q.index < p.index) ⊎ (p.index ≤ q.index) → p.index ≤ q.index
index_within_by s p q a b le (inl h) = let k = columns_order s q p b a (omega arith) in absurd (omega (arith, k, le, h))
index_within_by s p q a b le (inr h) = h

pub index_within : (s : List CellSize) (p q : Position) → IsPosition s p → IsPosition s q → p.columns ≤ q.columns → p.index ≤ q.index
index_within s p q a b le = index_within_by s p q a b le (cases_lt q.index p.index)

-- the cell before a position
pub last_sums : (s : List CellSize) (p : Position) (x : CellSize) → IsPosition s p → 1 ≤ p.index → x ≡ get_or s (p.index - 1) x
    → (p.bytes ≡ bytes_of (take (p.index - 1) s) + x.len) × (p.columns ≡ columns_of (take (p.index - 1) s) + width_of x.is_wide)
last_sums s p x a some e =
    let l : p.index - 1 < length s = let within = a.within in omega arith in
    let on : p.index ≡ p.index - 1 + 1 = omega arith in (
      a.bytes ∙ ap (λ n. bytes_of (take n s)) on ∙ bytes_next s (p.index - 1) x l ∙ ap (λ (y : CellSize). bytes_of (take (p.index - 1) s) + y.len) (sym e),
      a.columns ∙ ap (λ n. columns_of (take n s)) on ∙ columns_next s (p.index - 1) x l ∙ ap (λ (y : CellSize). columns_of (take (p.index - 1) s) + width_of y.is_wide) (sym e),
    )

pub position_before : (s : List CellSize) (p q : Position) (x : CellSize) → IsPosition s p → 1 ≤ p.index → x ≡ get_or s (p.index - 1) x
    → q.index + 1 ≡ p.index → q.bytes + x.len ≡ p.bytes → q.columns + width_of x.is_wide ≡ p.columns → IsPosition s q
position_before s p q x a some e i b c =
    let sums = last_sums s p x a some e in
    let bytes = sums.0 in
    let columns = sums.1 in
    let on : q.index ≡ p.index - 1 = omega arith in
    let within = a.within in
    let same_bytes = ap (λ n. bytes_of (take n s)) on in
    let same_columns = ap (λ n. columns_of (take n s)) on in
    record {
      within = omega arith;
      bytes = omega (arith, bytes, b, same_bytes);
      columns = omega (arith, columns, c, same_columns);
    }

some_index : (s : List CellSize) (i : ℕ) → 0 < columns_of (take i s) → 1 ≤ i
some_index s zero h = absurd (omega arith)
some_index s (suc i) h = omega arith

-- a position with a column before another one is after a cell
pub some_before : (s : List CellSize) (p : Position) (at : ℕ) → IsPosition s p → at < p.columns → 1 ≤ p.index
some_before s p at a less = some_index s p.index (let columns = a.columns in omega arith)

-- the column is before the end of the cell at the position
pub before_next : (s : List CellSize) (p q : Position) (x d : CellSize) (at : ℕ) → IsPosition s p → 1 ≤ p.index → x ≡ get_or s (p.index - 1) x → at < p.columns
    → q.index + 1 ≡ p.index → q.columns + width_of x.is_wide ≡ p.columns → at < q.columns + width_of (get_or s q.index d).is_wide
before_next s p q x d at a some e less i c =
    let within = a.within in
    let l : p.index - 1 < length s = omega arith in
    let on : p.index - 1 ≡ q.index = omega arith in
    let same = ap (λ (y : CellSize). width_of y.is_wide) (e ∙ get_or_default s (p.index - 1) x d l ∙ ap (λ n. get_or s n d) on) in
    omega (arith, same, less, c)

pub wide_or_narrow : (s : List CellSize) (i : ℕ) (d : CellSize) → 1 ≤ width_of (get_or s i d).is_wide
wide_or_narrow s i d = (width_bounds (get_or s i d).is_wide).0

-- where no column of the last position is before it, a position before a column is no last one
pub position_inside : (s : List CellSize) (p last : Position) (at : ℕ) → IsPosition s p → IsPosition s last → at ≤ last.columns → p.columns < at → p.index < length s
position_inside s p last at a b le less =
    let k = index_order s p last a b (omega arith) in
    let within = b.within in
    omega (arith, k, within)

-- a position may be where the text is split
pub split_point : (t : List ℕ) (s : List CellSize) (sb sc : ℕ) (p : Position) → IsSized t s sb sc → IsPosition s p → IsSplitPoint t p.bytes
split_point t s sb sc p h a =
    let at = placed t s sb sc p h a in
    let le : p.bytes ≤ length t = let k = position_bytes s p a in let f = fits t s sb sc h in omega (arith, k, f) in
    let after = IsUtf8-cut (drop p.bytes t) (drop p.index s) (cut_parts t s p.index p.bytes p.columns at h.parts).1 in
    let boundary = IsCharBoundary-from_drop t p.bytes le after in
    (le, λ _ l. boundary.1 l)

-- ---- cells that are lent

index_inside_by : (s : List CellSize) (p : Position) → IsPosition s p → p.columns < columns_of s → (p.index < length s) ⊎ (length s ≤ p.index) → p.index < length s
index_inside_by s p a less (inl h) = h
index_inside_by s p a less (inr h) = let k = position_past s p a h in absurd (omega (arith, k, less))

pub index_inside : (s : List CellSize) (p : Position) → IsPosition s p → p.columns < columns_of s → p.index < length s
index_inside s p a less = index_inside_by s p a less (cases_lt p.index (length s))

pub lent_cell : (t : List ℕ) (s : List CellSize) (sb sc : ℕ) (p : Position) (x : CellSize) (at : ℕ) → IsSized t s sb sc → IsPosition s p → p.index < length s → x ≡ get_or s p.index x → p.columns ≡ at
    → get_or (faces_of t s) at Right ≡ first_face x.is_wide (take (p.bytes + x.len - p.bytes) (drop p.bytes t))
lent_cell t s sb sc p x at h a l e same =
    let len : x.len ≡ p.bytes + x.len - p.bytes = omega arith in
    ap (λ n. get_or (faces_of t s) n Right) (sym same)
    ∙ face_at_position t s p.index p.bytes p.columns x (placed t s sb sc p h a) l
    ∙ ap (λ (y : CellSize). first_face y.is_wide (take y.len (drop p.bytes t))) (sym e)
    ∙ ap (λ n. first_face x.is_wide (take n (drop p.bytes t))) len

pub lent_utf8 : (t : List ℕ) (s : List CellSize) (sb sc : ℕ) (p : Position) (x : CellSize) → IsSized t s sb sc → IsPosition s p → p.index < length s → x ≡ get_or s p.index x
    → IsUtf8 (take (p.bytes + x.len - p.bytes) (drop p.bytes t))
lent_utf8 t s sb sc p x h a l e =
    let len : x.len ≡ p.bytes + x.len - p.bytes = omega arith in
    subst (λ n. IsUtf8 (take n (drop p.bytes t))) len
    (subst (λ (y : CellSize). IsUtf8 (take y.len (drop p.bytes t))) (sym e) (cell_utf8 t s p.index p.bytes p.columns x (placed t s sb sc p h a) l h.parts))

pub lent_kept : (t : List ℕ) (s : List CellSize) (sb sc : ℕ) (p : Position) (x : CellSize) → IsSized t s sb sc → IsPosition s p → p.index < length s → x ≡ get_or s p.index x
    → shows_as_space (take (p.bytes + x.len - p.bytes) (drop p.bytes t)) ≡ false
lent_kept t s sb sc p x h a l e =
    let len : x.len ≡ p.bytes + x.len - p.bytes = omega arith in
    subst (λ n. shows_as_space (take n (drop p.bytes t)) ≡ false) len
    (subst (λ (y : CellSize). shows_as_space (take y.len (drop p.bytes t)) ≡ false) (sym e) (cell_kept t s p.index p.bytes p.columns x (placed t s sb sc p h a) l h.parts))

pub lent_right : (t : List ℕ) (s : List CellSize) (sb sc : ℕ) (p : Position) (at : ℕ) (d : CellSize) → IsSized t s sb sc → IsPosition s p → IsSplit s p at d → get_or (faces_of t s) at Right ≡ Right
lent_right t s sb sc p at d h a w =
    ap (λ n. get_or (faces_of t s) n Right) w.column ∙ face_in_wide t s p.index p.bytes p.columns d (placed t s sb sc p h a) w.within w.wide

-- ---- cells that follow

-- all sizes are kept
pub all_sized : (t : List ℕ) (s : List CellSize) (sb sc : ℕ) → IsSized t s sb sc → length (faces_of t s) ≤ sc → bytes_of s ≡ length t
all_sized t s sb sc h le = let n = column_count t s sb sc (length t) h refl in omega (arith, n)

pub appended_sized : (t u now : List ℕ) (s v sizes : List CellSize) (sb sc n : ℕ) → now ≡ t ++ u → sizes ≡ s ++ v → IsSized t s sb sc → bytes_of s ≡ length t
    → bytes_of v ≡ length u → columns_of v ≡ n → is_cut u v ≡ true → IsSized now sizes (sb + length u) (sc + n)
appended_sized t u now s v sizes sb sc n e k h all bytes columns cut =
    let one = bytes_of-append s v in
    let two = columns_of-append s v in
    let three = length-append t u in
    let within = h.within in
    subst (λ x. IsSized x sizes (sb + length u) (sc + n)) (sym e) (subst (λ x. IsSized (t ++ u) x (sb + length u) (sc + n)) (sym k) (record {
      bytes_are = omega (arith, one, bytes);
      columns_are = omega (arith, two, columns);
      within = omega (arith, three, within);
      parts = cut_join t u s v all ∙ and_from (is_cut t s) (is_cut u v) h.parts cut;
    }))

pub appended_shown : (t u now : List ℕ) (s v sizes : List CellSize) → now ≡ t ++ u → sizes ≡ s ++ v → bytes_of s ≡ length t → faces_of now sizes ≡ faces_of t s ++ faces_of u v
appended_shown t u now s v sizes e k all = (λ i. faces_of (e i) (k i)) ∙ join t u s v all
