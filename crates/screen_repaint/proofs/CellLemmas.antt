-- The cells of a row, and those before the blanks at its end, side by side.
use Rattle.std.proofs.Common.{◌≡◌, ℕ, zero, suc, ◌+◌, ◌-◌, ◌≤◌, Bool, true, false, List, [], ◌∷◌, ◌++◌, length, take, drop, replicate, refl, sym, ap, ◌∙◌, subst, arith, append-nil, append_assoc, length-append}
use Rattle.std.specs.Prelude.{⊤, ◌&&◌, ◌||◌, not, nat_le, slice_index_or, slice_set, map, if◌then◌else◌}
use Rattle.std.specs.List.{list_all, list_any}
use Rattle.std.proofs.lemmas.Bool.{false≢true, and_parts, or_parts}
use Rattle.std.proofs.lemmas.Slice.Eq.{bytes_eq-Decides}
use Rattle.cell_base.specs.declared.color.ColorAttribute.{ColorAttribute}
use Rattle.cell_base.specs.Attributes.{Attributes, blank_of}
use Rattle.cell_base.specs.CellContent.{CellContent}
use Rattle.cell_base.specs.Row.{Row, Narrow, LeftHalf, RightHalf, space, blank, columns_of, closed_end, closed_start, set_columns}
use Rattle.screen_change.specs.CellRuns.{is_blank_of}
use Rattle.cell_base.specs.UpToLast.{up_to_last}
use Rattle.screen_change.proofs.TextLemmas.{by_test}
use Rattle.cell_edits.specs.VisibleCells.{visible_from, contents}
use Rattle.cell_base.specs.WholeRow.{IsWhole}
use Rattle.cell_base.proofs.RowLemmas.{whole-append, whole_ends}
use Rattle.screen_effects.specs.Effect.{blank_row, cleared_after}
use Rattle.screen_effects.proofs.StrokeLaws.{whole_columns}
use Rattle.screen_effects.specs.WrittenCells.{AreSound, IsSoundRow, IsSoundText, joined_columns}
use Rattle.screen_repaint.specs.Repaint.{row_cells, is_blank_row}
use Rattle.screen_repaint.proofs.EndLemmas.{blank_parts}

-- ---- lists

pub element_at : {A : Type 0} (done : List A) (x d : A) (left : List A) → slice_index_or (done ++ x ∷ left) (length done) d ≡ x
element_at [] x d left = refl
element_at (y ∷ done) x d left = element_at done x d left

pub element_set : {A : Type 0} (done : List A) (x y : A) (left : List A) → slice_set (done ++ x ∷ left) (length done) y ≡ done ++ y ∷ left
element_set [] x y left = refl
element_set {A} (z ∷ done) x y left = ap (λ (l : List A). z ∷ l) (element_set done x y left)

pub prefix_of : {A : Type 0} (done left : List A) → take (length done) (done ++ left) ≡ done
prefix_of [] left = refl
prefix_of {A} (z ∷ done) left = ap (λ (l : List A). z ∷ l) (prefix_of done left)

pub dropped_all : {A : Type 0} (n : ℕ) (xs : List A) → length xs ≤ n → drop n xs ≡ []
dropped_all zero [] h = refl
dropped_all zero (x ∷ xs) h = absurd (omega (arith, h))
dropped_all (suc n) [] h = refl
dropped_all (suc n) (x ∷ xs) h = dropped_all n xs (omega (arith, h))

pub length-of : {A : Type 0} (n : ℕ) (x : A) → length (replicate n x) ≡ n
length-of zero x = refl
length-of (suc n) x = ap suc (length-of n x)

pub dropped_copies : {A : Type 0} (k m n : ℕ) (x : A) → k + m ≡ n → drop k (replicate n x) ≡ replicate m x
dropped_copies zero m n x e = let same : n ≡ m = omega (arith, e) in ap (λ i. replicate i x) same
dropped_copies (suc k) m zero x e = absurd (omega (arith, e))
dropped_copies (suc k) m (suc n) x e = dropped_copies k m n x (omega (arith, e))

pub mapped_copies : {A : Type 0} (xs : List A) (x : A) → map (λ _. x) xs ≡ replicate (length xs) x
mapped_copies [] x = refl
mapped_copies {A} (y ∷ xs) x = ap (λ (l : List A). x ∷ l) (mapped_copies xs x)

-- ---- the cells of a row

pub row_again : (at : ℕ) (row : Row) → IsWhole row → joined_columns (contents (visible_from at row)) ≡ row
row_again at [] p = refl
row_again at (Narrow text attributes ∷ row) p = ap (λ (r : Row). Narrow text attributes ∷ r) (row_again (at + 1) row p)
row_again at (RightHalf attributes ∷ row) p = absurd p
row_again at (LeftHalf text attributes ∷ []) p = absurd p
row_again at (LeftHalf text attributes ∷ Narrow other remaining ∷ row) p = absurd p
row_again at (LeftHalf text attributes ∷ LeftHalf other remaining ∷ row) p = absurd p
row_again at (LeftHalf text attributes ∷ RightHalf remaining ∷ row) p =
    ap (λ (r : Row). LeftHalf text attributes ∷ RightHalf attributes ∷ r) (row_again (at + 1 + 1) row p.1) ∙ ap (λ (a : Attributes). LeftHalf text attributes ∷ RightHalf a ∷ row) (sym p.0)

pub whole_cells : (cells : List CellContent) → IsWhole (joined_columns cells)
whole_cells [] = tt
whole_cells (cell ∷ cells) = whole-append (columns_of cell.text (nat_le 2 cell.width) cell.attributes) (joined_columns cells) (whole_columns cell.text (nat_le 2 cell.width) cell.attributes) (whole_cells cells)

module _ (width_of : List ℕ → ℕ) (narrow : width_of space ≡ 1) where
  pub sound_cells : (at : ℕ) (row : Row) → IsSoundRow width_of row → AreSound width_of (contents (visible_from at row))
  sound_cells at [] p = tt
  sound_cells at (Narrow text attributes ∷ row) p = (p.0, sound_cells (at + 1) row p.1)
  sound_cells at (LeftHalf text attributes ∷ row) p = (p.0, sound_cells (at + 1) row p.1)
  sound_cells at (RightHalf attributes ∷ row) p = sound_cells (at + 1) row p

  -- ---- blanks

  one_blank : (color : ColorAttribute) (cell : CellContent) → IsSoundText width_of cell.text (nat_le 2 cell.width) → is_blank_of color cell ≡ true → columns_of cell.text (nat_le 2 cell.width) cell.attributes ≡ blank (blank_of color) ∷ []
  one_blank color cell p e =
      let parts = blank_parts color cell e in
      let text : cell.text ≡ space = (bytes_eq-Decides cell.text space).0 parts.0 in
      let thin : nat_le 2 cell.width ≡ false = sym p.width ∙ ap (λ t. nat_le 2 (width_of t)) text ∙ ap (λ n. nat_le 2 n) narrow in
      λ i. columns_of (text i) (thin i) (parts.1 i)

  pub all_blanks : (color : ColorAttribute) (cells : List CellContent) → AreSound width_of cells → list_all (is_blank_of color) cells ≡ true → joined_columns cells ≡ replicate (length cells) (blank (blank_of color))
  all_blanks color [] p e = refl
  all_blanks color (cell ∷ cells) p e =
      let parts = and_parts (is_blank_of color cell) (list_all (is_blank_of color) cells) e in
      λ i. one_blank color cell p.0 parts.0 i ++ all_blanks color cells p.1 parts.1 i

  -- as many blanks of a colour follow these cells, which are sound
  pub record EndsInBlanks (color : ColorAttribute) (cells kept : List CellContent) : Type 0 where
    pub blanks : ℕ
    pub same : joined_columns cells ≡ joined_columns kept ++ replicate blanks (blank (blank_of color))
    pub sound : AreSound width_of kept

  not_any : (color : ColorAttribute) (cells : List CellContent) → list_any (λ cell. not (is_blank_of color cell)) cells ≡ false → list_all (is_blank_of color) cells ≡ true
  not_any color [] e = refl
  not_any color (cell ∷ cells) e =
      let parts = or_parts (not (is_blank_of color cell)) (list_any (λ c. not (is_blank_of color c)) cells) e in
      λ i. not_not (is_blank_of color cell) parts.0 i && not_any color cells parts.1 i
    where
      not_not : (b : Bool) → not b ≡ false → b ≡ true
      not_not true e = refl
      not_not false e = absurd (false≢true (sym e))

  pub prefix_kept : (color : ColorAttribute) (cells : List CellContent) → AreSound width_of cells → EndsInBlanks color cells (up_to_last (λ cell. not (is_blank_of color cell)) cells)
  prefix_kept color [] p = record { blanks = 0; same = refl; sound = tt }
  prefix_kept color (cell ∷ cells) p =
      let passes : CellContent → Bool = λ c. not (is_blank_of color c) in
      by_test (passes cell || list_any passes cells)
      (λ e. subst (λ b. EndsInBlanks color (cell ∷ cells) (if b then cell ∷ up_to_last passes cells else [])) (sym e)
      (longer cell cells (up_to_last passes cells) p.0 (prefix_kept color cells p.1)))
      (λ e. subst (λ b. EndsInBlanks color (cell ∷ cells) (if b then cell ∷ up_to_last passes cells else [])) (sym e)
      (record { blanks = length (cell ∷ cells); same = all_blanks color (cell ∷ cells) p (not_any color (cell ∷ cells) e); sound = tt }))
    where
      longer : (cell : CellContent) (cells kept : List CellContent) → IsSoundText width_of cell.text (nat_le 2 cell.width) → EndsInBlanks color cells kept → EndsInBlanks color (cell ∷ cells) (cell ∷ kept)
      longer c cs kept q f =
          let own : Row = columns_of c.text (nat_le 2 c.width) c.attributes in record {
            blanks = f.blanks;
            same = ap (λ (r : Row). own ++ r) f.same ∙ sym (append_assoc own (joined_columns kept) (replicate f.blanks (blank (blank_of color))));
            sound = (q, f.sound);
          }

  pub blank_row_is : (color : ColorAttribute) (row : Row) (width : ℕ) → length row ≡ width → IsWhole row → IsSoundRow width_of row → is_blank_row color row ≡ true → row ≡ blank_row width color
  blank_row_is color row width n w p e =
      let is : row ≡ replicate (length (row_cells row)) (blank (blank_of color)) = sym (row_again 0 row w) ∙ all_blanks color (row_cells row) (sound_cells 0 row p) e in
      let count : length (row_cells row) ≡ width = sym (ap length is ∙ length-of (length (row_cells row)) (blank (blank_of color))) ∙ n in
      is ∙ ap (λ k. blank_row k color) count

  -- rows of a width, whole and sound
  abbrev pub AreGood : ℕ → List Row → Type 0
  AreGood width [] = ⊤
  AreGood width (row ∷ rows) = (length row ≡ width) × IsWhole row × IsSoundRow width_of row × AreGood width rows

  pub blank_rows_are : (color : ColorAttribute) (width : ℕ) (rows : List Row) → AreGood width rows → list_all (is_blank_row color) rows ≡ true → rows ≡ replicate (length rows) (blank_row width color)
  blank_rows_are color width [] g e = refl
  blank_rows_are color width (row ∷ rows) g e =
      let parts = and_parts (is_blank_row color row) (list_all (is_blank_row color) rows) e in
      λ i. blank_row_is color row width g.0 g.1 g.2 parts.0 i ∷ blank_rows_are color width rows g.3 parts.1 i

-- ---- columns that are set

starts_closed : (m : ℕ) (a : Attributes) → closed_start (replicate m (blank a)) ≡ replicate m (blank a)
starts_closed zero a = refl
starts_closed (suc m) a = refl

-- columns that are set at the start of blanks
pub set_at_start : (columns : Row) (m width : ℕ) (a : Attributes) → length columns + m ≡ width → set_columns (replicate width (blank a)) 0 columns ≡ columns ++ replicate m (blank a)
set_at_start columns m width a e =
    let at : 0 + length columns ≡ length columns = omega arith in
    ap (λ n. columns ++ closed_start (drop n (replicate width (blank a)))) at
    ∙ ap (λ (r : Row). columns ++ closed_start r) (dropped_copies (length columns) m width (blank a) e)
    ∙ ap (λ (r : Row). columns ++ r) (starts_closed m a)

pub cleared_is : (columns : Row) (m : ℕ) (a : Attributes) (color : ColorAttribute) → IsWhole columns → cleared_after (length columns) color (columns ++ replicate m (blank a)) ≡ columns ++ blank_row m color
cleared_is columns m a color w =
    let row : Row = columns ++ replicate m (blank a) in
    let count : length row ≡ length columns + m = length-append columns (replicate m (blank a)) ∙ ap (λ n. length columns + n) (length-of m (blank a)) in
    let rest : length row - length columns ≡ m = omega (arith, count) in
    let new : length (blank_row m color) ≡ m = length-of m (blank (blank_of color)) in
    ap (λ n. set_columns row (length columns) (blank_row n color)) rest
    ∙ ap (λ (r : Row). closed_end r ++ blank_row m color ++ closed_start (drop (length columns + length (blank_row m color)) row)) (prefix_of columns (replicate m (blank a)))
    ∙ ap (λ (r : Row). closed_end columns ++ blank_row m color ++ closed_start r) (dropped_all (length columns + length (blank_row m color)) row (omega (arith, count, new)))
    ∙ append-nil (closed_end columns ++ blank_row m color)
    ∙ ap (λ (r : Row). r ++ blank_row m color) (whole_ends columns w)
