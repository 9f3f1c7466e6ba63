-- How rows end.
use Rattle.std.proofs.Common.{◌≡◌, ℕ, zero, suc, ◌+◌, ◌-◌, ◌<◌, ◌≤◌, Bool, true, false, List, [], ◌∷◌, ◌++◌, length, take, Option, Some, None, refl, sym, ap, subst, ◌∙◌, arith, append-nil, append_assoc, length-append}
use Rattle.std.specs.Prelude.{fold, ◌&&◌, ◌||◌, not, nat_le, if◌then◌else◌}
use Rattle.std.specs.List.{list_all, list_any, slice_get}
use Rattle.std.specs.Str.{bytes_eq}
use Rattle.std.proofs.lemmas.Bool.{false≢true, and_parts}
use Rattle.std.proofs.lemmas.List.Folds.{list_any-append}
use Rattle.std.proofs.lemmas.List.Sums.{fold-append}
use Rattle.screen_change.proofs.TextLemmas.{by_test}
use Rattle.std.proofs.Math.Bool.{or-false}
use Rattle.std.specs.Option.{option_map}
use Rattle.cell_base.specs.declared.color.ColorAttribute.{ColorAttribute}
use Rattle.cell_base.specs.Attributes.{Attributes, blank_of}
use Rattle.cell_base.specs.CellContent.{CellContent}
use Rattle.cell_base.specs.Row.{Row, Narrow, LeftHalf, RightHalf, space}
use Rattle.cell_base.specs.SameAttributes.{same_attributes, same_attributes_decides}
use Rattle.screen_change.specs.CellRuns.{is_blank_of, background_at_end, less_blanks}
use Rattle.cell_base.specs.UpToLast.{up_to_last}
use Rattle.cell_edits.specs.VisibleCells.{visible_from, contents}
use Rattle.std.proofs.lemmas.Bool.Decides.{nat_tests}
use Rattle.std.proofs.lemmas.List.{length-map}
use Rattle.cell_line.specs.LineContent.{LineContent}
use Rattle.cell_base.specs.WholeRow.{IsWhole}
use Rattle.screen_repaint.specs.PaintedRows.{AreFilled, IsTail, rows_of}
use Rattle.screen_repaint.specs.Repaint.{row_cells, is_blank_row}
use Rattle.screen_repaint.specs.Ends.{End, no_cells, ends_in, with_cell, end_of, are_blanks_with, passing_at_end}

-- ---- no more cells than columns

pub visible_count : (at : ℕ) (row : Row) → length (visible_from at row) ≤ length row
visible_count at [] = omega arith
visible_count at (Narrow text attributes ∷ row) = let n = visible_count (at + 1) row in omega arith
visible_count at (LeftHalf text attributes ∷ row) = let n = visible_count (at + 1) row in omega arith
visible_count at (RightHalf attributes ∷ row) = let n = visible_count (at + 1) row in omega arith

-- ---- the cells before the blanks

-- `end` describes how these cells end
pub record Ends (cells : List CellContent) (end : End) : Type 0 where
  pub count : end.cells ≡ length cells
  pub within : end.kept ≤ end.cells
  pub background : background_at_end cells ≡ option_map (λ a. a.background) end.blanks
  pub plain : (attributes : Attributes) → end.blanks ≡ Some attributes → attributes ≡ blank_of attributes.background
  pub remaining : (color : ColorAttribute) → (end.blanks ≡ Some (blank_of color) → ⊥) → up_to_last (λ cell. not (is_blank_of color cell)) cells ≡ cells
  pub prefix : (color : ColorAttribute) → end.blanks ≡ Some (blank_of color) → take end.kept cells ≡ up_to_last (λ cell. not (is_blank_of color cell)) cells
  pub whole : end.blanks ≡ None → end.kept ≡ end.cells

or_true : (b : Bool) → (b || true) ≡ true
or_true true = refl
or_true false = refl

-- ---- up to the last of cells, and one more

up_to_kept : (passes : CellContent → Bool) (cells : List CellContent) (cell : CellContent) → passes cell ≡ true → up_to_last passes (cells ++ cell ∷ []) ≡ cells ++ cell ∷ []
up_to_kept passes [] cell e = ap (λ b. if b || false then cell ∷ [] else []) e
up_to_kept passes (x ∷ cells) cell e =
    let any : list_any passes (cells ++ cell ∷ []) ≡ true = list_any-append passes cells (cell ∷ []) ∙ ap (λ b. list_any passes cells || (b || false)) e ∙ or_true (list_any passes cells) in
    ap (λ b. if passes x || b then x ∷ up_to_last passes (cells ++ cell ∷ []) else []) any
    ∙ ap (λ b. if b then x ∷ up_to_last passes (cells ++ cell ∷ []) else []) (or_true (passes x))
    ∙ ap (λ (cs : List CellContent). x ∷ cs) (up_to_kept passes cells cell e)

up_to_dropped : (passes : CellContent → Bool) (cells : List CellContent) (cell : CellContent) → passes cell ≡ false → up_to_last passes (cells ++ cell ∷ []) ≡ up_to_last passes cells
up_to_dropped passes [] cell e = ap (λ b. if b || false then cell ∷ [] else []) e
up_to_dropped passes (x ∷ cells) cell e =
    let any : list_any passes (cells ++ cell ∷ []) ≡ list_any passes cells = list_any-append passes cells (cell ∷ []) ∙ ap (λ b. list_any passes cells || (b || false)) e ∙ or-false (list_any passes cells) in
    (λ i. if passes x || any i then x ∷ up_to_dropped passes cells cell e i else [])

-- ---- blanks of a colour

pub blank_parts : (color : ColorAttribute) (cell : CellContent) → is_blank_of color cell ≡ true → (bytes_eq cell.text space ≡ true) × (cell.attributes ≡ blank_of color)
unfolding is_blank_of
blank_parts color cell e =
    let p = and_parts (bytes_eq cell.text space) (same_attributes cell.attributes (blank_of color)) e in
    (p.0, (same_attributes_decides cell.attributes (blank_of color)).0 p.1)

blank_from : (color : ColorAttribute) (cell : CellContent) → bytes_eq cell.text space ≡ true → cell.attributes ≡ blank_of color → is_blank_of color cell ≡ true
unfolding is_blank_of
blank_from color cell e p = (λ i. e i && (same_attributes_decides cell.attributes (blank_of color)).1 p i)

isn't : (b : Bool) → (b ≡ true → ⊥) → b ≡ false
isn't true f = absurd (f refl)
isn't false f = refl

passes_not : (color : ColorAttribute) (cell : CellContent) → (is_blank_of color cell ≡ true → ⊥) → not (is_blank_of color cell) ≡ true
passes_not color cell f = ap not (isn't (is_blank_of color cell) f)

-- a cell that is no blank of its own background is none of any
no_blank : (color : ColorAttribute) (cell : CellContent) → is_blank_of cell.attributes.background cell ≡ false → is_blank_of color cell ≡ true → ⊥
no_blank color cell e b =
    let p = blank_parts color cell b in
    let own : cell.attributes ≡ blank_of cell.attributes.background = p.1 ∙ ap blank_of (sym (ap (λ (a : Attributes). a.background) p.1)) in
    false≢true (sym e ∙ blank_from cell.attributes.background cell p.0 own)

own_blank : (cell : CellContent) → is_blank_of cell.attributes.background cell ≡ true → cell.attributes ≡ blank_of cell.attributes.background
own_blank cell e = (blank_parts cell.attributes.background cell e).1

-- ---- one cell more

abbrev pub stepped : End → CellContent → Bool → Bool → End
stepped end cell blank goes =
    if blank then (if goes then record end { cells = end.cells + 1 } else record { cells = end.cells + 1; kept = end.cells; blanks = Some cell.attributes })
    else record { cells = end.cells + 1; kept = end.cells + 1; blanks = None }

take_all : (cells : List CellContent) → take (length cells) cells ≡ cells
take_all [] = refl
take_all (x ∷ cells) = ap (λ (cs : List CellContent). x ∷ cs) (take_all cells)

some_is : (a b : Attributes) → Some a ≡ Some b → a ≡ b
some_is a b e = cc

none_some : (a : Attributes) → None ≡ Some a → ⊥
none_some a e = cc

ends_in_is : (blanks : Option Attributes) (attributes : Attributes) → ends_in blanks attributes ≡ true → blanks ≡ Some attributes
ends_in_is None attributes e = absurd (false≢true e)
ends_in_is (Some blanks) attributes e = ap Some ((same_attributes_decides blanks attributes).0 e)

ends_in_from : (blanks : Option Attributes) (attributes : Attributes) → blanks ≡ Some attributes → ends_in blanks attributes ≡ true
ends_in_from None attributes e = absurd (none_some attributes e)
ends_in_from (Some blanks) attributes e = (same_attributes_decides blanks attributes).1 (some_is blanks attributes e)

background_more : (cells : List CellContent) (cell : CellContent) → background_at_end (cells ++ cell ∷ []) ≡ (if is_blank_of cell.attributes.background cell then Some cell.attributes.background else None)
background_more cells cell = fold-append (λ _ x. if is_blank_of x.attributes.background x then Some x.attributes.background else None) None cells (cell ∷ [])

count_more : (cells : List CellContent) (cell : CellContent) (n : ℕ) → n ≡ length cells → n + 1 ≡ length (cells ++ cell ∷ [])
count_more cells cell n e = let both = length-append cells (cell ∷ []) in omega (arith, e)

taken_before : (n : ℕ) (cells : List CellContent) (cell : CellContent) → n ≤ length cells → take n (cells ++ cell ∷ []) ≡ take n cells
taken_before zero cells cell h = refl
taken_before (suc n) [] cell h = absurd (omega (arith, h))
taken_before (suc n) (x ∷ cells) cell h = ap (λ (cs : List CellContent). x ∷ cs) (taken_before n cells cell (omega (arith, h)))

another : (cells : List CellContent) (end : End) (cell : CellContent) → Ends cells end → is_blank_of cell.attributes.background cell ≡ false
    → Ends (cells ++ cell ∷ []) (record { cells = end.cells + 1; kept = end.cells + 1; blanks = None })
another cells end cell h e = record {
  count = count_more cells cell end.cells h.count;
  within = omega arith;
  background = background_more cells cell ∙ ap (λ b. if b then Some cell.attributes.background else None) e;
  plain = λ attributes p. absurd (none_some attributes p);
  remaining = λ color f. up_to_kept (λ x. not (is_blank_of color x)) cells cell (passes_not color cell (no_blank color cell e));
  prefix = λ color p. absurd (none_some (blank_of color) p);
  whole = λ p. refl;
}

goes_on : (cells : List CellContent) (end : End) (cell : CellContent) → Ends cells end → is_blank_of cell.attributes.background cell ≡ true → ends_in end.blanks cell.attributes ≡ true
    → Ends (cells ++ cell ∷ []) (record end { cells = end.cells + 1 })
goes_on cells end cell h e b =
    let is : end.blanks ≡ Some cell.attributes = ends_in_is end.blanks cell.attributes b in record {
      count = count_more cells cell end.cells h.count;
      within = let w = h.within in omega arith;
      background = background_more cells cell ∙ ap (λ x. if x then Some cell.attributes.background else None) e ∙ ap (option_map (λ a. a.background)) (sym is);
      plain = h.plain;
      remaining = λ color f. up_to_kept (λ x. not (is_blank_of color x)) cells cell (passes_not color cell (λ t. f (is ∙ ap Some (blank_parts color cell t).1)));
      prefix = λ color p.
          let same : cell.attributes ≡ blank_of color = some_is cell.attributes (blank_of color) (sym is ∙ p) in
          let blank : is_blank_of color cell ≡ true = blank_from color cell (blank_parts cell.attributes.background cell e).0 same in
          taken_before end.kept cells cell (let w = h.within in let n = h.count in omega arith) ∙ h.prefix color p
          ∙ sym (up_to_dropped (λ x. not (is_blank_of color x)) cells cell (ap not blank));
      whole = λ p. absurd (none_some cell.attributes (sym p ∙ is));
    }

begins : (cells : List CellContent) (end : End) (cell : CellContent) → Ends cells end → is_blank_of cell.attributes.background cell ≡ true → ends_in end.blanks cell.attributes ≡ false
    → Ends (cells ++ cell ∷ []) (record { cells = end.cells + 1; kept = end.cells; blanks = Some cell.attributes })
begins cells end cell h e b = record {
  count = count_more cells cell end.cells h.count;
  within = omega arith;
  background = background_more cells cell ∙ ap (λ x. if x then Some cell.attributes.background else None) e;
  plain = λ attributes p. sym (some_is cell.attributes attributes p) ∙ own_blank cell e ∙ ap (λ (a : Attributes). blank_of a.background) (some_is cell.attributes attributes p);
  remaining = λ color f. up_to_kept (λ x. not (is_blank_of color x)) cells cell (passes_not color cell (λ t. f (ap Some (blank_parts color cell t).1)));
  prefix = λ color p.
      let same : cell.attributes ≡ blank_of color = some_is cell.attributes (blank_of color) p in
      let blank : is_blank_of color cell ≡ true = blank_from color cell (blank_parts cell.attributes.background cell e).0 same in
      let other : end.blanks ≡ Some (blank_of color) → ⊥ = λ q. false≢true (sym b ∙ ends_in_from end.blanks cell.attributes (q ∙ ap Some (sym same))) in
      taken_before end.cells cells cell (let n = h.count in omega arith) ∙ ap (λ n. take n cells) h.count ∙ take_all cells
      ∙ sym (up_to_dropped (λ x. not (is_blank_of color x)) cells cell (ap not blank) ∙ h.remaining color other);
  whole = λ p. absurd (none_some cell.attributes (sym p));
}

ends_step : (cells : List CellContent) (end : End) (cell : CellContent) → Ends cells end → Ends (cells ++ cell ∷ []) (with_cell end cell)
ends_step cells end cell h =
    by_test (is_blank_of cell.attributes.background cell)
    (λ e.
    by_test (ends_in end.blanks cell.attributes)
    (λ b. subst (Ends (cells ++ cell ∷ [])) (sym (λ i. stepped end cell (e i) (b i))) (goes_on cells end cell h e b))
    (λ b. subst (Ends (cells ++ cell ∷ [])) (sym (λ i. stepped end cell (e i) (b i))) (begins cells end cell h e b)))
    (λ e. subst (Ends (cells ++ cell ∷ [])) (sym (ap (λ x. stepped end cell x (ends_in end.blanks cell.attributes)) e)) (another cells end cell h e))

ends_all : (done left : List CellContent) (end : End) → Ends done end → Ends (done ++ left) (fold with_cell end left)
ends_all done [] end h = subst (λ (cs : List CellContent). Ends cs end) (sym (append-nil done)) h
ends_all done (cell ∷ left) end h = subst (λ (cs : List CellContent). Ends cs (fold with_cell (with_cell end cell) left)) (append_assoc done (cell ∷ []) left) (ends_all (done ++ cell ∷ []) left (with_cell end cell) (ends_step done end cell h))

no_end : Ends [] no_cells
no_end = record {
  count = refl;
  within = omega arith;
  background = refl;
  plain = λ attributes p. absurd (none_some attributes p);
  remaining = λ color f. refl;
  prefix = λ color p. absurd (none_some (blank_of color) p);
  whole = λ p. refl;
}

pub ends : (cells : List CellContent) → Ends cells (end_of cells)
ends cells = ends_all [] cells no_cells no_end

-- the cells before the blanks are the first ones
pub kept_cells : (cells : List CellContent) → take (end_of cells).kept cells ≡ less_blanks (background_at_end cells) cells
kept_cells cells = by_end (end_of cells).blanks refl
  where
    h : Ends cells (end_of cells)
    h = ends cells

    by_end : (blanks : Option Attributes) → (end_of cells).blanks ≡ blanks → take (end_of cells).kept cells ≡ less_blanks (background_at_end cells) cells
    by_end None e =
        ap (λ n. take n cells) (h.whole e ∙ h.count) ∙ take_all cells
        ∙ sym (ap (λ (o : Option ColorAttribute). less_blanks o cells) (h.background ∙ ap (option_map (λ a. a.background)) e))
    by_end (Some attributes) e =
        let is : attributes ≡ blank_of attributes.background = h.plain attributes e in
        h.prefix attributes.background (e ∙ ap Some is)
        ∙ sym (ap (λ (o : Option ColorAttribute). less_blanks o cells) (h.background ∙ ap (option_map (λ a. a.background)) e))

-- ---- rows of blanks

-- the blanks at the end of the last row
abbrev pub last_blanks : Option Attributes → List Row → Option Attributes
last_blanks start rows = fold (λ _ row. (end_of (row_cells row)).blanks) start rows

blank_goes : (color : ColorAttribute) (end : End) (cell : CellContent) → is_blank_of color cell ≡ true → (with_cell end cell).blanks ≡ Some (blank_of color)
blank_goes color end cell e =
    let p = blank_parts color cell e in
    let own : is_blank_of cell.attributes.background cell ≡ true = blank_from cell.attributes.background cell p.0 (p.1 ∙ ap blank_of (sym (ap (λ (a : Attributes). a.background) p.1))) in
    by_test (ends_in end.blanks cell.attributes)
    (λ b. (λ i. (stepped end cell (own i) (b i)).blanks) ∙ ends_in_is end.blanks cell.attributes b ∙ ap Some p.1)
    (λ b. (λ i. (stepped end cell (own i) (b i)).blanks) ∙ ap Some p.1)

blanks_end : (color : ColorAttribute) (cells : List CellContent) (end : End) → end.blanks ≡ Some (blank_of color) → list_all (is_blank_of color) cells ≡ true → (fold with_cell end cells).blanks ≡ Some (blank_of color)
blanks_end color [] end e all = e
blanks_end color (cell ∷ cells) end e all =
    let p = and_parts (is_blank_of color cell) (list_all (is_blank_of color) cells) all in
    blanks_end color cells (with_cell end cell) (blank_goes color end cell p.0) p.1

all_blanks_end : (color : ColorAttribute) (cells : List CellContent) → 0 < length cells → list_all (is_blank_of color) cells ≡ true → (end_of cells).blanks ≡ Some (blank_of color)
all_blanks_end color [] n all = absurd (omega (arith, n))
all_blanks_end color (cell ∷ cells) n all =
    let p = and_parts (is_blank_of color cell) (list_all (is_blank_of color) cells) all in
    blanks_end color cells (with_cell no_cells cell) (blank_goes color no_cells cell p.0) p.1

pub some_visible : (at : ℕ) (row : Row) → IsWhole row → 0 < length row → 0 < length (contents (visible_from at row))
some_visible at [] w n = n
some_visible at (Narrow text attributes ∷ row) w n = omega arith
some_visible at (LeftHalf text attributes ∷ row) w n = omega arith
some_visible at (RightHalf attributes ∷ row) w n = absurd w

all_blank_last : (color : ColorAttribute) (rows : List Row) (start : Option Attributes) → start ≡ Some (blank_of color) → AreFilled rows → list_all (is_blank_row color) rows ≡ true → last_blanks start rows ≡ Some (blank_of color)
all_blank_last color [] start e f all = e
all_blank_last color (row ∷ rows) start e f all =
    let p = and_parts (is_blank_row color row) (list_all (is_blank_row color) rows) all in
    all_blank_last color rows (end_of (row_cells row)).blanks (all_blanks_end color (row_cells row) f.0 p.0) f.1 p.1

some_blank_last : (color : ColorAttribute) (row : Row) (rows : List Row) (start : Option Attributes) → AreFilled (row ∷ rows) → list_all (is_blank_row color) (row ∷ rows) ≡ true → last_blanks start (row ∷ rows) ≡ Some (blank_of color)
some_blank_last color row rows start f all =
    let p = and_parts (is_blank_row color row) (list_all (is_blank_row color) rows) all in
    all_blank_last color rows (end_of (row_cells row)).blanks (all_blanks_end color (row_cells row) f.0 p.0) f.1 p.1

last_still : (row : Row) (rows : List Row) (blanks : Option Attributes) → 0 < length rows → last_blanks None (row ∷ rows) ≡ blanks → last_blanks None rows ≡ blanks
last_still row [] blanks m e = absurd (omega (arith, m))
last_still row (next ∷ rows) blanks m e = e

last_after : (row : Row) (rows : List Row) (attributes : Attributes) → 0 < length rows → last_blanks None (row ∷ rows) ≡ Some attributes → last_blanks None rows ≡ Some attributes
last_after row rows attributes m e = last_still row rows (Some attributes) m e

-- ---- as many at the end as pass

record Passing {A : Type 0} (test : A → Bool) (n : ℕ) (xs : List A) : Type 0 where
  all : list_all test xs ≡ true → passing_at_end test n xs ≡ n
  some : list_all test xs ≡ false → passing_at_end test n xs < length xs

passing : {A : Type 0} (test : A → Bool) (n : ℕ) (xs : List A) → Passing test n xs
passing test n [] = record { all = λ e. refl; some = λ e. absurd (false≢true (sym e)) }
passing test n (x ∷ xs) =
    by_test (test x)
    (λ e.
    let rest = passing test n xs in record {
      all = λ all. ap (λ b. passing_at_end test (if b then n else length xs) xs) e ∙ rest.all (sym (ap (λ b. b && list_all test xs) e) ∙ all);
      some = λ some.
          let less = rest.some (sym (ap (λ b. b && list_all test xs) e) ∙ some) in
          subst (λ k. k < suc (length xs)) (sym (ap (λ b. passing_at_end test (if b then n else length xs) xs) e)) (omega (arith, less));
    })
    (λ e.
    let rest = passing test (length xs) xs in record {
      all = λ all. absurd (false≢true (sym (ap (λ b. b && list_all test xs) e) ∙ all));
      some = λ some.
          subst (λ k. k < suc (length xs)) (sym (ap (λ b. passing_at_end test (if b then n else length xs) xs) e))
          (by_test (list_all test xs) (λ a. let same = rest.all a in omega (arith, same)) (λ a. let less = rest.some a in omega (arith, less)));
    })

same_all : {A : Type 0} (f g : A → Bool) (xs : List A) → ((x : A) → f x ≡ g x) → list_all f xs ≡ list_all g xs
same_all f g [] e = refl
same_all f g (x ∷ xs) e = λ i. e x i && same_all f g xs e i

-- the test of the code, where the attributes are a blank's
blank_test : (attributes : Attributes) (color : ColorAttribute) (row : Row) → attributes ≡ blank_of color → is_blank_row color row ≡ are_blanks_with attributes (row_cells row)
unfolding is_blank_of
blank_test attributes color row e = ap (λ (a : Attributes). are_blanks_with a (row_cells row)) (sym e)

by_count : (attributes : Attributes) (color : ColorAttribute) (n : ℕ) (row : Row) (rows : List Row) → length (row ∷ rows) ≤ n → last_blanks None (row ∷ rows) ≡ Some attributes → AreFilled (row ∷ rows)
    → list_all (is_blank_row color) (row ∷ rows) ≡ (same_attributes attributes (blank_of color) && nat_le (length (row ∷ rows)) (passing_at_end (λ r. are_blanks_with attributes (row_cells r)) n (row ∷ rows)))
by_count attributes color n row rows long last f =
    let test : Row → Bool = λ r. are_blanks_with attributes (row_cells r) in
    let counts : Passing test n (row ∷ rows) = passing test n (row ∷ rows) in
    let count : ℕ = passing_at_end test n (row ∷ rows) in
    by_test (same_attributes attributes (blank_of color))
    (λ same.
    let is : attributes ≡ blank_of color = (same_attributes_decides attributes (blank_of color)).0 same in
    let tests : list_all (is_blank_row color) (row ∷ rows) ≡ list_all test (row ∷ rows) = same_all (is_blank_row color) test (row ∷ rows) (λ r. blank_test attributes color r is) in
    tests
    ∙ by_test (list_all test (row ∷ rows))
    (λ all. all ∙ sym (let m = counts.all all in let g : nat_le (length (row ∷ rows)) count ≡ true = grind (arith, nat_tests) in g))
    (λ some. some ∙ sym (let m = counts.some some in let g : nat_le (length (row ∷ rows)) count ≡ false = grind (arith, nat_tests) in g))
    ∙ ap (λ b. b && nat_le (length (row ∷ rows)) count) (sym same))
    (λ other.
    isn't (list_all (is_blank_row color) (row ∷ rows))
    (λ all. false≢true (sym other ∙ (same_attributes_decides attributes (blank_of color)).1 (some_is attributes (blank_of color) (sym last ∙ some_blank_last color row rows None f all))))
    ∙ ap (λ b. b && nat_le (length (row ∷ rows)) count) (sym other))

pub tail_rows : (attributes : Attributes) (n : ℕ) (rows : List Row) → length rows ≤ n → (0 < length rows → last_blanks None rows ≡ Some attributes) → AreFilled rows
    → IsTail (passing_at_end (λ r. are_blanks_with attributes (row_cells r)) n rows) (Some attributes) rows
tail_rows attributes n [] long last f = tt
tail_rows attributes n (row ∷ rows) long last f = (
  λ color. by_count attributes color n row rows long (last (omega arith)) f,
  by_test (are_blanks_with attributes (row_cells row))
      (λ e. subst (λ b. IsTail (passing_at_end (λ r. are_blanks_with attributes (row_cells r)) (if b then n else length rows) rows) (Some attributes) rows) (sym e)
      (tail_rows attributes n rows (omega (arith, long)) (λ m. last_after row rows attributes m (last (omega arith))) f.1))
      (λ e. subst (λ b. IsTail (passing_at_end (λ r. are_blanks_with attributes (row_cells r)) (if b then n else length rows) rows) (Some attributes) rows) (sym e)
      (tail_rows attributes (length rows) rows (omega arith) (λ m. last_after row rows attributes m (last (omega arith))) f.1)),
)

pub no_tail : (count : ℕ) (rows : List Row) → (0 < length rows → last_blanks None rows ≡ None) → AreFilled rows → IsTail count None rows
no_tail count [] last f = tt
no_tail count (row ∷ rows) last f = (
  λ color. isn't (list_all (is_blank_row color) (row ∷ rows)) (λ all. none_some (blank_of color) (sym (last (omega arith)) ∙ some_blank_last color row rows None f all)),
  no_tail count rows (λ m. last_still row rows None m (last (omega arith))) f.1,
)

last_line : (line : LineContent) (lines : List LineContent) (l : LineContent) (start : Option Attributes) → Some l ≡ slice_get (line ∷ lines) (length lines) → last_blanks start (rows_of (line ∷ lines)) ≡ (end_of (row_cells l.columns)).blanks
last_line line [] l start e = ap (λ (x : LineContent). (end_of (row_cells x.columns)).blanks) (line_is line l (sym e))
  where
    line_is : (a b : LineContent) → Some a ≡ Some b → a ≡ b
    line_is a b e = cc
last_line line (next ∷ lines) l start e = last_line next lines l (end_of (row_cells line.columns)).blanks e

-- the last line's end, where there is a line
pub last_of_lines : (lines : List LineContent) (l : LineContent) → Some l ≡ slice_get lines (length lines - 1) → 0 < length (rows_of lines) → last_blanks None (rows_of lines) ≡ (end_of (row_cells l.columns)).blanks
last_of_lines [] l e n = absurd (omega (arith, n))
last_of_lines (line ∷ lines) l e n = let m : length (line ∷ lines) - 1 ≡ length lines = omega arith in last_line line lines l None (e ∙ ap (slice_get (line ∷ lines)) m)

pub counted_rows : (attributes : Attributes) (n : ℕ) (lines : List LineContent) → passing_at_end (λ l. are_blanks_with attributes (row_cells l.columns)) n lines ≡ passing_at_end (λ r. are_blanks_with attributes (row_cells r)) n (rows_of lines)
counted_rows attributes n [] = refl
counted_rows attributes n (line ∷ lines) =
    counted_rows attributes (if are_blanks_with attributes (row_cells line.columns) then n else length lines) lines
    ∙ ap (λ k. passing_at_end (λ r. are_blanks_with attributes (row_cells r)) (if are_blanks_with attributes (row_cells line.columns) then n else k) (rows_of lines)) (sym (length-map lines (λ l. l.columns)))
