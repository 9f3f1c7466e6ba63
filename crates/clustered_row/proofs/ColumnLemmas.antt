-- Columns whose faces and attributes are changed alike.
use Rattle.std.proofs.Common.{◌≡◌, ℕ, zero, suc, ◌+◌, ◌-◌, ◌≤◌, Bool, true, false, List, [], ◌∷◌, ◌++◌, length, take, drop, replicate, refl, sym, ap, subst, ◌∙◌, arith, append-nil, length-append}
use Rattle.std.proofs.lemmas.List.{length-take, length-drop, length-replicate, take_at}
use Rattle.std.specs.List.{list_all}
use Rattle.text_clusters.specs.Plain.{is_printable}
use Rattle.cell_base.specs.Attributes.{Attributes}
use Rattle.cell_base.specs.Row.{Row, space, blank, set_columns}
use Rattle.cell_base.specs.Row as rows
use Rattle.cell_base.specs.WholeRow.{IsWhole}
use Rattle.cell_base.proofs.RowLemmas.{whole_ends, whole-append, whole-blanks, whole-prefix, whole-set_columns}
use Rattle.clustered_row.specs.declared.cell_size.CellSize.{CellSize}
use Rattle.clustered_row.specs.Ends.{EndsAt}
use Rattle.clustered_row.specs.Faces.{Face, Own, Left, Right, cell_faces, plain_faces, row_of, closed_end, padded, set_faces}
use Rattle.clustered_row.specs.Sizes.{bytes_of, columns_of, faces_of, is_cut, is_plain}
use Rattle.clustered_row.proofs.SizeLemmas.{plain_sizes, plain_sums}
use Rattle.clustered_row.proofs.FaceLemmas.{length-closed_end, length-closed_start}
use Rattle.clustered_row.proofs.RowLemmas.{length-row_of, row_of-append, row_of-replicate, row_of-take, row_of-closed_end, row_of-set}

-- the result of a change: as many attributes as faces, which make up this row; the row is whole
pub record Makes (fs : List Face) (ats : List Attributes) (row : Row) : Type 0 where
  pub even : length ats ≡ length fs
  pub whole : IsWhole (row_of fs ats)
  pub is : row_of fs ats ≡ row

made : (fs : List Face) (ats : List Attributes) (row : Row) → length ats ≡ length fs → row_of fs ats ≡ row → IsWhole row → Makes fs ats row
made fs ats row e is whole = record { even = e; whole = subst IsWhole (sym is) whole; is = is }

-- there are as many columns as attributes
pub counted : (fs : List Face) (ats : List Attributes) (row : Row) → length ats ≡ length fs → row_of fs ats ≡ row → length ats ≡ length row
counted fs ats row e is = let long = length-row_of fs ats (omega (arith, e)) in omega (arith, e, long, ap length is)

-- ---- one text by itself is whole

pub whole_plain : (bytes : List ℕ) (a : Attributes) → IsWhole (row_of (plain_faces bytes) (replicate (length bytes) a))
whole_plain [] a = tt
whole_plain (b ∷ bytes) a = whole_plain bytes a

pub length-plain : (bytes : List ℕ) → length (plain_faces bytes) ≡ length bytes
length-plain [] = refl
length-plain (b ∷ bytes) = ap suc (length-plain bytes)

whole_cell : (wide : Bool) (text : List ℕ) (rest : List Face) (n : ℕ) (a : Attributes) → n ≡ length (cell_faces wide text ++ rest) → IsWhole (row_of rest (replicate (length rest) a)) → IsWhole (row_of (cell_faces wide text ++ rest) (replicate n a))
whole_cell true text rest n a e w = subst (λ k. IsWhole (row_of (Left text ∷ Right ∷ rest) (replicate k a))) (sym e) (refl, w)
whole_cell false text rest n a e w = subst (λ k. IsWhole (row_of (Own text ∷ rest) (replicate k a))) (sym e) w

pub whole_cells : (text : List ℕ) (sizes : List CellSize) (n : ℕ) (a : Attributes) → n ≡ length (faces_of text sizes) → IsWhole (row_of (faces_of text sizes) (replicate n a))
whole_cells text [] n a e = subst (λ k. IsWhole (row_of (plain_faces text) (replicate k a))) (sym (e ∙ length-plain text)) (whole_plain text a)
whole_cells text (size ∷ sizes) n a e =
    whole_cell size.is_wide (take size.len text) (faces_of (drop size.len text) sizes) n a e (whole_cells (drop size.len text) sizes (length (faces_of (drop size.len text) sizes)) a refl)

-- ---- changes

module _ (fs now : List Face) (ats bs : List Attributes) (even : length ats ≡ length fs) (whole : IsWhole (row_of fs ats)) where
  pub cut_makes : (at : ℕ) → now ≡ closed_end (take at fs) → bs ≡ take at ats → Makes now bs (rows.closed_end (take at (row_of fs ats)))
  cut_makes at e f =
      let ended = length-closed_end (take at fs) in
      made now bs (rows.closed_end (take at (row_of fs ats))) (omega (arith, even, ended, ap length e, ap length f, length-take at fs, length-take at ats))
      ((λ i. row_of (e i) (f i)) ∙ sym (row_of-closed_end (take at fs) (take at ats) (omega (arith, even, length-take at fs, length-take at ats))) ∙ ap rows.closed_end (sym (row_of-take at fs ats)))
      (whole-prefix at (row_of fs ats) whole)

  -- faces appended after these
  pub push_makes : (gs : List Face) (n : ℕ) (a : Attributes) → now ≡ fs ++ gs → bs ≡ ats ++ replicate n a → n ≡ length gs → IsWhole (row_of gs (replicate n a)) → Makes now bs (row_of fs ats ++ row_of gs (replicate n a))
  push_makes gs n a e f count w =
      made now bs (row_of fs ats ++ row_of gs (replicate n a)) (omega (arith, even, count, ap length e, ap length f, length-append fs gs, length-append ats (replicate n a), length-replicate n a))
      ((λ i. row_of (e i) (f i)) ∙ row_of-append fs gs ats (replicate n a) (omega (arith, even)))
      (whole-append (row_of fs ats) (row_of gs (replicate n a)) whole w)

  pub pad_makes : (to n : ℕ) (a : Attributes) → now ≡ padded to fs → bs ≡ ats ++ replicate n a → n ≡ to - length ats → Makes now bs (row_of fs ats ++ replicate (to - length (row_of fs ats)) (blank a))
  pad_makes to n a e f count =
      let long = length-row_of fs ats (omega (arith, even)) in
      let blanks : row_of (replicate n (Own space)) (replicate n a) ≡ replicate n (blank a) = row_of-replicate n (Own space) a in
      let spaces : now ≡ fs ++ replicate n (Own space) = e ∙ ap (λ k. fs ++ replicate k (Own space)) (omega (arith, even, count)) in
      let m = push_makes (replicate n (Own space)) n a spaces f (sym (length-replicate n (Own space))) (subst IsWhole (sym blanks) (whole-blanks n a)) in
      subst (Makes now bs) (ap (λ (r : Row). row_of fs ats ++ r) (blanks ∙ ap (λ k. replicate k (blank a)) (omega (arith, even, count, long)))) m

  -- faces set over some of these
  pub set_makes : (gs : List Face) (at end n : ℕ) (a : Attributes) → now ≡ set_faces fs at gs → bs ≡ take at ats ++ replicate (end - at) a ++ drop end ats → at + n ≡ end → n ≡ length gs → at + n ≤ length fs → IsWhole (row_of gs (replicate n a))
      → Makes now bs (set_columns (row_of fs ats) at (row_of gs (replicate n a)))
  set_makes gs at end n a e g on count fits w =
      let f : bs ≡ take at ats ++ replicate n a ++ drop (at + n) ats = g ∙ (λ i. take at ats ++ replicate (rest i) a ++ drop (sym on i) ats) in
      let blanks = length-replicate n a in
      let row : row_of now bs ≡ set_columns (row_of fs ats) at (row_of gs (replicate n a))
      = (λ i. row_of (e i) (f i)) ∙ ap (λ k. row_of (set_faces fs at gs) (take at ats ++ replicate n a ++ drop (at + k) ats)) (sym blanks) ∙ sym (row_of-set fs gs ats (replicate n a) at (omega (arith, even)) (omega (arith, count, blanks))) in
      let prefix = length-append (closed_end (take at fs) ++ gs) (Rattle.clustered_row.specs.Faces.closed_start (drop (at + length gs) fs)) in
      made now bs (set_columns (row_of fs ats) at (row_of gs (replicate n a)))
      (omega (
        arith,
        even,
        count,
        fits,
        ap length e,
        ap length f,
        length-append (take at ats ++ replicate n a) (drop (at + n) ats),
        length-append (take at ats) (replicate n a),
        blanks,
        length-take at ats,
        length-drop (at + n) ats,
        prefix,
        length-append (closed_end (take at fs)) gs,
        length-closed_end (take at fs),
        length-closed_start (drop (at + length gs) fs),
        length-take at fs,
        length-drop (at + length gs) fs,
      ))
      row (whole-set_columns (row_of fs ats) at (row_of gs (replicate n a)) whole w)
    where
      rest : end - at ≡ n
      rest = omega (arith, on)

-- ---- plain cells with sizes

-- sizes of plain cells cut a text of printable characters as none do
pub record ArePlain (text : List ℕ) (sizes : List CellSize) : Type 0 where
  pub parts : is_cut text sizes ≡ true
  pub bytes : bytes_of sizes ≡ length text
  pub columns : columns_of sizes ≡ length text
  pub shown : faces_of text sizes ≡ plain_faces text

pub plain_are : (text : List ℕ) (sizes : List CellSize) → list_all is_printable text ≡ true → list_all is_plain sizes ≡ true → length sizes ≡ length text → ArePlain text sizes
plain_are text sizes p q e =
    let same = plain_sizes text [] sizes q (omega (arith, e)) in
    let sums = plain_sums sizes q in
    record { parts = same.1 ∙ p; bytes = sums.0 ∙ e; columns = sums.1 ∙ e; shown = same.0 }

-- ---- where columns end

-- where they end at the column already
pub ends_there : (old new : Row) (at : ℕ) (a : Attributes) → IsWhole old → at ≤ length old → length old ≤ at → new ≡ old ++ replicate (at - length old) (blank a) → new ≡ rows.closed_end (take at old)
ends_there old new at a whole h k e =
    let none : at - length old ≡ 0 = omega (arith, h, k) in
    let same : length old ≡ at = omega (arith, h, k) in
    e ∙ ap (λ n. old ++ replicate n (blank a)) none ∙ append-nil old ∙ sym (whole_ends old whole) ∙ ap rows.closed_end (sym (take_at old [] at same) ∙ ap (take at) (append-nil old))

pub ends_here : (columns : Row) (at : ℕ) (a : Attributes) → IsWhole columns → at ≡ length columns → EndsAt columns columns at a
ends_here columns at a whole e =
    let none : zero ≡ at - length columns = omega (arith, e) in
    let same : columns ≡ columns ++ replicate (at - length columns) (blank a) = sym (append-nil columns) ∙ ap (λ n. columns ++ replicate n (blank a)) none in
    record {
      cut = λ h. ends_there columns columns at a whole h (omega (arith, e)) same;
      padded = λ h. same;
    }
