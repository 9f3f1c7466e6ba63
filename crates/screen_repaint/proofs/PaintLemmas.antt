-- Changes that are written one after another.
use Rattle.std.proofs.Common.{Bor, ◌≡◌, ℕ, zero, suc, ◌+◌, ◌-◌, ◌<◌, ◌≤◌, Bool, true, false, List, [], ◌∷◌, ◌++◌, length, take, map, Option, Some, None, refl, sym, ap, subst, ◌∙◌, arith, append-nil, append_assoc}
use Rattle.std.specs.Prelude.{◌&&◌, ◌||◌, ◌==◌, not, nat_le, replicate, if◌then◌else◌}
use Rattle.std.proofs.lemmas.List.Sums.{fold-append}
use Rattle.cell_base.specs.declared.color.ColorAttribute.{ColorAttribute}
use Rattle.cell_base.specs.declared.color.ColorAttribute.TheVariants.{TrueColorWithPaletteFallback, TrueColorWithDefaultFallback, PaletteIndex, Default}
use Rattle.cell_base.specs.Attributes.{Attributes, blank_of}
use Rattle.cell_base.specs.CellContent.{CellContent}
use Rattle.screen_change.specs.ChangeValue.{ChangeValue, Text, AllAttributes, ClearToEndOfLine, ClearToEndOfScreen}
use Rattle.screen_change.specs.CellChanges.{attributes_due, runs_written, cells_written, last_pen, clear_due}
use Rattle.screen_change.specs.Texts.{texts, stay_independent}
use Rattle.screen_change.specs.Written.{Written, finished, with_change, with_cell, with_cells}
use Rattle.screen_change.proofs.TextLemmas.{by_test, no_texts, one_text, each_text}
use Rattle.screen_change.proofs.RunLemmas.{cells_are_written, pen_is_after}
use Rattle.screen_change.specs.CellRuns.{CellRun, before_runs, cell_runs, background_at_end, less_blanks}
use Rattle.cell_base.specs.SameAttributes.{same_attributes, same_attributes_decides}
use Rattle.cell_base.specs.Row.{Row}
use Rattle.cell_base.specs.declared.cell_attributes.CellAttributes.{CellAttributes}
use Rattle.std.specs.Option.{option_map}
use Rattle.std.proofs.lemmas.List.{length-take-le}
use Rattle.screen_effects.proofs.WrittenLemmas.{joined, stands, runs_pen, pen_is}
use Rattle.screen_repaint.proofs.EndLemmas.{ends, kept_cells}
use Rattle.screen_repaint.specs.Ends.{end_of, ends_in}
use Rattle.std.proofs.lemmas.Bool.{false≢true, or_parts}
use Rattle.screen_repaint.specs.PaintedRows.{IsTail, LeadsOn, after_moves, ended, with_changes, moves, rows_of, rest_of}
use Rattle.cell_line.specs.LineContent.{LineContent}
use Rattle.std.proofs.lemmas.Bool.Decides.{nat_tests}
use Rattle.cell_line.proofs.ChangeLemmas.{clear_of}
use Rattle.screen_repaint.specs.Repaint.{are_some, pen_after, pen_left, end_cleared, row_painted, rows_painted, row_cells, in_next_row, go_with_blanks}

-- ---- nothing is open

pub finished_is : (w : Written) → w.cells ≡ [] → finished w ≡ w.changes
finished_is w e = ap (λ (cells : List (List ℕ)). w.changes ++ map Text (texts cells)) e ∙ ap (λ (ts : List (List ℕ)). w.changes ++ map Text ts) no_texts ∙ append-nil w.changes

pub ended_is : (w : Written) → w.cells ≡ [] → ended w ≡ w
ended_is w e = λ i. record w { changes = finished_is w e i; cells = sym e i }

pub nothing_more : (w : Written) → w.cells ≡ [] → with_changes [] w ≡ w
nothing_more w e = λ i. record w { changes = append-nil w.changes i; cells = sym e i }

-- changes after changes
pub more : (a b : List ChangeValue) (w : Written) → with_changes b (with_changes a w) ≡ with_changes (a ++ b) w
more a b w = λ i. record { changes = append_assoc w.changes a b i; pen = sym (fold-append pen_after w.pen a b) i; cells = [] }

-- one change more
pub one_change : (change : ChangeValue) (w : Written) → pen_after w.pen change ≡ w.pen → with_change change w ≡ with_changes (change ∷ []) (ended w)
one_change change w e = λ i. record { changes = finished w ++ change ∷ []; pen = sym e i; cells = [] }

pub one_clear : (change : ChangeValue) (pen : Attributes) (w : Written) → pen ≡ pen_after w.pen change → record (with_change change w) { pen = pen } ≡ with_changes (change ∷ []) (ended w)
one_clear change pen w e = λ i. record { changes = finished w ++ change ∷ []; pen = e i; cells = [] }

-- ---- moves

pub pen_after_moves : (n : ℕ) (pen : Attributes) → pen_left pen (moves n) ≡ pen
pen_after_moves zero pen = refl
pen_after_moves (suc n) pen = pen_after_moves n pen

replicate_more : {A : Type 0} (n : ℕ) (x : A) → replicate n x ++ x ∷ [] ≡ replicate (suc n) x
replicate_more zero x = refl
replicate_more {A} (suc n) x = ap (λ (xs : List A). x ∷ xs) (replicate_more n x)

pub moved_more : (n m : ℕ) (v w : Written) (change : ChangeValue) → change ∷ [] ≡ moves 1 → m ≡ n + 1 → v ≡ with_changes (moves n) w → with_change change v ≡ with_changes (moves m) w
moved_more n m v w change is next e =
    let one : with_change change v ≡ with_changes (moves 1) (ended v) = λ i. record { changes = finished v ++ is i; pen = v.pen; cells = [] } in
    let closed : ended v ≡ with_changes (moves n) w = ap ended e ∙ ended_is (with_changes (moves n) w) refl in
    let count : moves n ++ moves 1 ≡ moves m = replicate_more n _ ∙ ap (λ k. moves k) (let s : suc n ≡ m = omega (arith, next) in s) in
    one ∙ ap (λ (u : Written). with_changes (moves 1) u) closed ∙ more (moves n) (moves 1) w ∙ ap (λ (cs : List ChangeValue). with_changes cs w) count

-- ---- the first cells

pub take_none : {A : Type 0} (n : ℕ) → take {A = A} n [] ≡ []
take_none zero = refl
take_none (suc n) = refl

pub take_next : {A : Type 0} (n m : ℕ) (x : A) (xs : List A) → n ≡ m + 1 → take n (x ∷ xs) ≡ x ∷ take m xs
take_next zero m x xs e = absurd (omega (arith, e))
take_next {A} (suc n) m x xs e = ap (λ k. x ∷ take k xs) (let s : n ≡ m = omega (arith, e) in s)

-- one cell more was written of the first ones
pub cell_more : (w v whole : Written) (n m : ℕ) (cell : CellContent) (left : List CellContent) → n ≡ m + 1 → v ≡ with_cell cell.text cell.attributes w
    → with_cells w (take n (cell ∷ left)) ≡ whole → with_cells v (take m left) ≡ whole
cell_more w v whole n m cell left e is so = ap (λ (u : Written). with_cells u (take m left)) is ∙ ap (with_cells w) (sym (take_next n m cell left e)) ∙ so

-- ---- clears

pub cleared_too : (background : Option ColorAttribute) (color : ColorAttribute) (below_too : Bool) (pen : Attributes) (v w : Written) → background ≡ Some color → below_too ≡ true → pen ≡ blank_of color
    → v ≡ record (with_change (ClearToEndOfScreen color) w) { pen = pen } → v ≡ with_changes (end_cleared background below_too) (ended w)
cleared_too background color below_too pen v w b t p e = e ∙ one_clear (ClearToEndOfScreen color) pen w p ∙ sym (λ i. with_changes (end_cleared (b i) (t i)) (ended w))

pub cleared_alone : (background : Option ColorAttribute) (color : ColorAttribute) (below_too : Bool) (pen : Attributes) (v w : Written) → background ≡ Some color → below_too ≡ false → (color ≡ Default → ⊥) → pen ≡ blank_of color
    → v ≡ record (with_change (ClearToEndOfLine color) w) { pen = pen } → v ≡ with_changes (end_cleared background below_too) (ended w)
cleared_alone background color below_too pen v w b t other p e =
    e ∙ one_clear (ClearToEndOfLine color) pen w p
    ∙ ap (λ (cs : List ChangeValue). with_changes cs (ended w)) (sym (clear_of color other))
    ∙ sym (λ i. with_changes (end_cleared (b i) (t i)) (ended w))

-- ---- the pen after cells

texts_keep_pen : (ts : List (List ℕ)) (pen : Attributes) → pen_left pen (map Text ts) ≡ pen
texts_keep_pen [] pen = refl
texts_keep_pen (t ∷ ts) pen = texts_keep_pen ts pen

pub due_pen : (pen a : Attributes) → pen_left pen (attributes_due pen a) ≡ a
due_pen pen a =
    by_test (same_attributes a pen)
    (λ e. ap (λ b. pen_left pen (if b then [] else AllAttributes a ∷ [])) e ∙ sym ((same_attributes_decides a pen).0 e))
    (λ e. ap (λ b. pen_left pen (if b then [] else AllAttributes a ∷ [])) e)

runs_left : (runs : List CellRun) (pen : Attributes) → pen_left pen (runs_written pen runs) ≡ runs_pen pen runs
runs_left [] pen = refl
runs_left (run ∷ runs) pen =
    fold-append pen_after pen (attributes_due pen run.attributes ++ map Text (texts run.cells)) (runs_written run.attributes runs)
    ∙ ap (λ (p : Attributes). pen_left p (runs_written run.attributes runs))
    (fold-append pen_after pen (attributes_due pen run.attributes) (map Text (texts run.cells))
    ∙ texts_keep_pen (texts run.cells) (pen_left pen (attributes_due pen run.attributes))
    ∙ due_pen pen run.attributes)
    ∙ runs_left runs run.attributes

pub cells_leave : (cells : List CellContent) (pen : Attributes) → pen_left pen (cells_written pen cells) ≡ last_pen pen cells
cells_leave cells pen = runs_left (cell_runs cells) pen ∙ pen_is cells pen

-- ---- a row

cells_after : (w : Written) (cells : List CellContent) → w.cells ≡ [] → ended (with_cells w cells) ≡ with_changes (cells_written w.pen cells) w
cells_after w cells e = λ i. record { changes = cells_are_written w cells e i; pen = (pen_is_after w cells ∙ sym (cells_leave cells w.pen)) i; cells = [] }

pub row_written : (w v : Written) (cells : List CellContent) (below_too : Bool) (background : Option ColorAttribute) → w.cells ≡ [] → background ≡ background_at_end cells
    → v ≡ with_changes (end_cleared background below_too) (ended (with_cells w (take (end_of cells).kept cells))) → v ≡ with_changes (row_painted w.pen cells below_too) w
row_written w v cells below_too background e b is =
    is
    ∙ ap (with_changes (end_cleared background below_too)) (cells_after w (take (end_of cells).kept cells) e)
    ∙ more (cells_written w.pen (take (end_of cells).kept cells)) (end_cleared background below_too) w
    ∙ (λ i. with_changes (cells_written w.pen (kept_cells cells i) ++ end_cleared (b i) below_too) w)

-- ---- whether anything is painted

pub some_of : (a b : List ChangeValue) → are_some (a ++ b) ≡ (are_some a || are_some b)
some_of [] b = refl
some_of (x ∷ a) b = refl

or_true : (b : Bool) → (b || true) ≡ true
or_true true = refl
or_true false = refl

some_texts : (t : List ℕ) (ts : List (List ℕ)) → are_some (map Text (texts (t ∷ ts))) ≡ true
some_texts t ts =
    by_test (stay_independent (t ∷ ts))
    (λ e. ap (λ (xs : List (List ℕ)). are_some (map Text xs)) (one_text t ts e))
    (λ e. ap (λ (xs : List (List ℕ)). are_some (map Text xs)) (each_text t ts e))

some_run : (pen a : Attributes) (t : List ℕ) (ts : List (List ℕ)) (runs : List CellRun) → are_some (runs_written pen (record { attributes = a; cells = t ∷ ts } ∷ runs)) ≡ true
some_run pen a t ts runs =
    some_of (attributes_due pen a ++ map Text (texts (t ∷ ts))) (runs_written a runs)
    ∙ ap (λ b. b || are_some (runs_written a runs)) (some_of (attributes_due pen a) (map Text (texts (t ∷ ts))) ∙ ap (λ b. are_some (attributes_due pen a) || b) (some_texts t ts) ∙ or_true (are_some (attributes_due pen a)))

some_before : (pen : Attributes) (cell : CellContent) (runs : List CellRun) → are_some (runs_written pen (before_runs cell runs)) ≡ true
some_before pen cell [] = some_run pen cell.attributes cell.text [] []
some_before pen cell (run ∷ runs) =
    by_test (same_attributes cell.attributes run.attributes)
    (λ e. ap (λ (rs : List CellRun). are_some (runs_written pen rs)) (joined cell run runs e) ∙ some_run pen run.attributes cell.text run.cells runs)
    (λ e. ap (λ (rs : List CellRun). are_some (runs_written pen rs)) (stands cell run runs e) ∙ some_run pen cell.attributes cell.text [] (run ∷ runs))

some_cells : (pen : Attributes) (cells : List CellContent) → 0 < length cells → are_some (cells_written pen cells) ≡ true
some_cells pen [] n = absurd (omega (arith, n))
some_cells pen (cell ∷ cells) n = some_before pen cell (cell_runs cells)

pub painted_prefix : (pen : Attributes) (cells : List CellContent) (below_too : Bool) → 0 < (end_of cells).kept → are_some (row_painted pen cells below_too) ≡ true
painted_prefix pen cells below_too n =
    let h = ends cells in
    let count = length-take-le (end_of cells).kept cells (let w = h.within in let k = h.count in omega arith) in
    let some : 0 < length (less_blanks (background_at_end cells) cells) = subst (λ (cs : List CellContent). 0 < length cs) (kept_cells cells) (omega (arith, count)) in
    some_of (cells_written pen (less_blanks (background_at_end cells) cells)) (end_cleared (background_at_end cells) below_too)
    ∙ ap (λ b. b || are_some (end_cleared (background_at_end cells) below_too)) (some_cells pen (less_blanks (background_at_end cells) cells) some)

end_alone : (pen : Attributes) (cells : List CellContent) (below_too : Bool) → (end_of cells).kept ≡ 0 → row_painted pen cells below_too ≡ end_cleared (background_at_end cells) below_too
end_alone pen cells below_too n =
    ap (λ (cs : List CellContent). cells_written pen cs ++ end_cleared (background_at_end cells) below_too) (sym (kept_cells cells) ∙ ap (λ k. take k cells) n)

pub nothing_painted : (pen : Attributes) (cells : List CellContent) (below_too : Bool) → (end_of cells).kept ≡ 0 → (end_of cells).blanks ≡ None → are_some (row_painted pen cells below_too) ≡ false
nothing_painted pen cells below_too n e =
    ap are_some (end_alone pen cells below_too n)
    ∙ ap (λ (o : Option ColorAttribute). are_some (end_cleared o below_too)) ((ends cells).background ∙ ap (option_map (λ a. a.background)) e)

cleared_some : (color : ColorAttribute) (below : List Row) → are_some (end_cleared (Some color) (go_with_blanks (Some color) below)) ≡ are_some (clear_due color)
cleared_some Default below = refl
cleared_some (TrueColorWithPaletteFallback color index) below = by_test (go_with_blanks (Some (TrueColorWithPaletteFallback color index)) below) (λ e. ap (λ b. are_some (end_cleared (Some (TrueColorWithPaletteFallback color index)) b)) e) (λ e. ap (λ b. are_some (end_cleared (Some (TrueColorWithPaletteFallback color index)) b)) e)
cleared_some (TrueColorWithDefaultFallback color) below = by_test (go_with_blanks (Some (TrueColorWithDefaultFallback color)) below) (λ e. ap (λ b. are_some (end_cleared (Some (TrueColorWithDefaultFallback color)) b)) e) (λ e. ap (λ b. are_some (end_cleared (Some (TrueColorWithDefaultFallback color)) b)) e)
cleared_some (PaletteIndex index) below = by_test (go_with_blanks (Some (PaletteIndex index)) below) (λ e. ap (λ b. are_some (end_cleared (Some (PaletteIndex index)) b)) e) (λ e. ap (λ b. are_some (end_cleared (Some (PaletteIndex index)) b)) e)

pub blanks_painted : (pen : Attributes) (cells : List CellContent) (below : List Row) (attributes : Attributes) → (end_of cells).kept ≡ 0 → (end_of cells).blanks ≡ Some attributes
    → are_some (clear_due attributes.background) ≡ are_some (row_painted pen cells (go_with_blanks (background_at_end cells) below))
blanks_painted pen cells below attributes n e =
    let is : background_at_end cells ≡ Some attributes.background = (ends cells).background ∙ ap (option_map (λ a. a.background)) e in
    sym
    (ap are_some (end_alone pen cells (go_with_blanks (background_at_end cells) below) n)
    ∙ ap (λ (o : Option ColorAttribute). are_some (end_cleared o (go_with_blanks o below))) is
    ∙ cleared_some attributes.background below)

pub background_now : (lent : Option (Bor CellAttributes)) (blanks : Option Attributes) → option_map (λ a. a.now) lent ≡ blanks → option_map (λ a. a.now.background) lent ≡ option_map (λ (a : Attributes). a.background) blanks
background_now None blanks e = ap (option_map (λ (a : Attributes). a.background)) e
background_now (Some a) blanks e = ap (option_map (λ (b : Attributes). b.background)) e

-- ---- the rows below

abbrev are_all : ℕ → Option Attributes → List Row → Attributes → Bool
are_all count blanks below attributes = not (length below == 0) && (ends_in blanks attributes && nat_le (length below) count)

some_rows : (row : Row) (below : List Row) (count : ℕ) (blanks : Option Attributes) (attributes : Attributes) → are_all count blanks (row ∷ below) attributes ≡ (ends_in blanks attributes && nat_le (length (row ∷ below)) count)
some_rows row below count blanks attributes =
    let n : (length (row ∷ below) == 0) ≡ false = grind (arith, nat_tests) in
    ap (λ b. not b && (ends_in blanks attributes && nat_le (length (row ∷ below)) count)) n

goes_with : (color : ColorAttribute) (count : ℕ) (blanks : Option Attributes) (below : List Row) → IsTail count blanks below → (are_some (clear_due color) && are_all count blanks below (blank_of color)) ≡ go_with_blanks (Some color) below
goes_with Default count blanks below t = refl
goes_with (TrueColorWithPaletteFallback color index) count blanks [] t = refl
goes_with (TrueColorWithPaletteFallback color index) count blanks (row ∷ below) t = some_rows row below count blanks (blank_of (TrueColorWithPaletteFallback color index)) ∙ sym (t.0 (TrueColorWithPaletteFallback color index))
goes_with (TrueColorWithDefaultFallback color) count blanks [] t = refl
goes_with (TrueColorWithDefaultFallback color) count blanks (row ∷ below) t = some_rows row below count blanks (blank_of (TrueColorWithDefaultFallback color)) ∙ sym (t.0 (TrueColorWithDefaultFallback color))
goes_with (PaletteIndex index) count blanks [] t = refl
goes_with (PaletteIndex index) count blanks (row ∷ below) t = some_rows row below count blanks (blank_of (PaletteIndex index)) ∙ sym (t.0 (PaletteIndex index))

pub go_with_is : (attributes : Attributes) (count : ℕ) (blanks : Option Attributes) (below : List Row) → IsTail count blanks below → attributes ≡ blank_of attributes.background
    → (are_some (clear_due attributes.background) && are_all count blanks below attributes) ≡ go_with_blanks (Some attributes.background) below
go_with_is attributes count blanks below t e =
    ap (λ (a : Attributes). are_some (clear_due attributes.background) && are_all count blanks below a) e ∙ goes_with attributes.background count blanks below t

-- ---- rows one after another

pub no_changes : (cs : List ChangeValue) → are_some cs ≡ false → cs ≡ []
no_changes [] e = refl
no_changes (c ∷ cs) e = absurd (false≢true (sym e))

next_some : (cs : List ChangeValue) → are_some (in_next_row cs) ≡ are_some cs
next_some [] = refl
next_some (c ∷ cs) = refl

one_more : (n : ℕ) (cs : List ChangeValue) → after_moves n (in_next_row cs) ≡ after_moves (suc n) cs
one_more n [] = refl
one_more n (c ∷ cs) = sym (append_assoc (moves n) (moves 1) (c ∷ cs)) ∙ ap (λ (ms : List ChangeValue). ms ++ c ∷ cs) (replicate_more n _)

after_one : (cs : List ChangeValue) → in_next_row cs ≡ after_moves 1 cs
after_one [] = refl
after_one (c ∷ cs) = refl

after_some : (n : ℕ) (a b : List ChangeValue) → are_some a ≡ true → after_moves n (a ++ b) ≡ (moves n ++ a) ++ b
after_some n [] b e = absurd (false≢true e)
after_some n (x ∷ a) b e = sym (append_assoc (moves n) (x ∷ a) b)

-- blanks that rows below go with are painted
never_both : (pen : Attributes) (cells : List CellContent) (below : List Row) → are_some (row_painted pen cells (go_with_blanks (background_at_end cells) below)) ≡ false → go_with_blanks (background_at_end cells) below ≡ false
never_both pen cells below e = by_background (background_at_end cells) refl
  where
    none : are_some (end_cleared (background_at_end cells) (go_with_blanks (background_at_end cells) below)) ≡ false
    none =
        (or_parts (are_some (cells_written pen (less_blanks (background_at_end cells) cells))) (are_some (end_cleared (background_at_end cells) (go_with_blanks (background_at_end cells) below)))
        (sym (some_of (cells_written pen (less_blanks (background_at_end cells) cells)) (end_cleared (background_at_end cells) (go_with_blanks (background_at_end cells) below))) ∙ e)).1

    by_background : (o : Option ColorAttribute) → background_at_end cells ≡ o → go_with_blanks (background_at_end cells) below ≡ false
    by_background None b = ap (λ (x : Option ColorAttribute). go_with_blanks x below) b
    by_background (Some color) b =
        by_test (go_with_blanks (Some color) below)
        (λ t. absurd (false≢true (sym none ∙ (λ i. are_some (end_cleared (b i) (go_with_blanks (b i) below))) ∙ ap (λ x. are_some (end_cleared (Some color) x)) t)))
        (λ t. ap (λ (x : Option ColorAttribute). go_with_blanks x below) b ∙ t)

module _ (whole w : Written) (some painted : Bool) (count : ℕ) (row : Row) (below : List Row) (leads : LeadsOn whole some w painted count (row ∷ below)) where
  abbrev too : Bool
  too = go_with_blanks (background_at_end (row_cells row)) below

  abbrev own : List ChangeValue
  own = row_painted w.pen (row_cells row) too

  abbrev remaining : Attributes → List ChangeValue
  remaining pen = rows_painted pen below

  pub row_skipped : (next : ℕ) → next ≡ count + 1 → are_some own ≡ false → LeadsOn whole some w painted next below
  row_skipped next n e =
      let alone : too ≡ false = never_both w.pen (row_cells row) below e in
      let all : rows_painted w.pen (row ∷ below) ≡ in_next_row (remaining w.pen) =
      ap (λ b. if b then own else own ++ in_next_row (remaining (pen_left w.pen own))) alone
      ∙ ap (λ (cs : List ChangeValue). cs ++ in_next_row (remaining (pen_left w.pen cs))) (no_changes own e) in
      let count_is : next ≡ suc count = omega (arith, n) in record {
        is_ended = leads.is_ended;
        same =
            ap (λ n. with_changes (after_moves n (remaining w.pen)) w) count_is
            ∙ ap (λ (cs : List ChangeValue). with_changes cs w) (sym (one_more count (remaining w.pen)))
            ∙ ap (λ (cs : List ChangeValue). with_changes (after_moves count cs) w) (sym all)
            ∙ leads.same;
        any = ap (λ b. painted || b) (sym (next_some (remaining w.pen)) ∙ ap are_some (sym all)) ∙ leads.any;
      }

  module _ (moved next : Written) (left : List Row) (m : ℕ) (p : moved ≡ with_changes (moves count) w) (q : next ≡ with_changes (row_painted moved.pen (row_cells row) too) moved) where
    pen_moved : moved.pen ≡ w.pen
    pen_moved = ap (λ (v : Written). v.pen) p ∙ pen_after_moves count w.pen

    next_is : next ≡ with_changes (moves count ++ own) w
    next_is =
        q ∙ ap (λ (pen : Attributes). with_changes (row_painted pen (row_cells row) too) moved) pen_moved ∙ ap (with_changes own) p ∙ more (moves count) own w

    next_pen : next.pen ≡ pen_left w.pen own
    next_pen = ap (λ (v : Written). v.pen) next_is ∙ fold-append pen_after w.pen (moves count) own ∙ ap (λ (pen : Attributes). pen_left pen own) (pen_after_moves count w.pen)

    -- where the rest goes with the row's blanks, or is still to be painted
    all_is : are_some own ≡ true → (too ≡ true → left ≡ []) → (too ≡ false → (left ≡ below) × (m ≡ 1)) → with_changes (after_moves m (rows_painted next.pen left)) next ≡ whole
    all_is e ends goes =
        by_test too
        (λ t.
        ap (λ (rows : List Row). with_changes (after_moves m (rows_painted next.pen rows)) next) (ends t)
        ∙ nothing_more next (ap (λ (v : Written). v.cells) q)
        ∙ next_is
        ∙ ap (λ (cs : List ChangeValue). with_changes cs w) (sym (append-nil (moves count ++ own)) ∙ sym (after_some count own [] e) ∙ ap (after_moves count) (append-nil own))
        ∙ ap (λ b. with_changes (after_moves count (if b then own else own ++ in_next_row (remaining (pen_left w.pen own)))) w) (sym t)
        ∙ leads.same)
        (λ t.
        (λ i. with_changes (after_moves ((goes t).1 i) (rows_painted (next_pen i) ((goes t).0 i))) (next_is i))
        ∙ ap (λ (cs : List ChangeValue). with_changes cs (with_changes (moves count ++ own) w)) (sym (after_one (remaining (pen_left w.pen own))))
        ∙ more (moves count ++ own) (in_next_row (remaining (pen_left w.pen own))) w
        ∙ ap (λ (cs : List ChangeValue). with_changes cs w) (sym (after_some count own (in_next_row (remaining (pen_left w.pen own))) e))
        ∙ ap (λ b. with_changes (after_moves count (if b then own else own ++ in_next_row (remaining (pen_left w.pen own)))) w) (sym t)
        ∙ leads.same)

    some_is : are_some own ≡ true → true ≡ some
    some_is e =
        sym (or_true painted)
        ∙ ap (λ b. painted || b) (sym
        (by_test too
        (λ t. ap (λ b. are_some (if b then own else own ++ in_next_row (remaining (pen_left w.pen own)))) t ∙ e)
        (λ t. ap (λ b. are_some (if b then own else own ++ in_next_row (remaining (pen_left w.pen own)))) t ∙ some_of own (in_next_row (remaining (pen_left w.pen own))) ∙ ap (λ b. b || are_some (in_next_row (remaining (pen_left w.pen own)))) e)))
        ∙ leads.any

    pub row_done : are_some own ≡ true → (too ≡ true → left ≡ []) → (too ≡ false → (left ≡ below) × (m ≡ 1)) → LeadsOn whole some next true m left
    row_done e ends goes = record {
      is_ended = ap (λ (v : Written). v.cells) q;
      same = all_is e ends goes;
      any = some_is e;
    }

module _ (whole w : Written) (some painted : Bool) (line : LineContent) (below left : List LineContent) (at : ℕ) (too : Bool)
    (leads : LeadsOn whole some w painted (at - length (line ∷ below)) (rows_of (line ∷ below)))
    (t : too ≡ go_with_blanks (background_at_end (row_cells line.columns)) (rows_of below)) (e : left ≡ rest_of too below) where
  left_none : go_with_blanks (background_at_end (row_cells line.columns)) (rows_of below) ≡ true → left ≡ []
  left_none p = e ∙ ap (λ b. rest_of b below) (t ∙ p)

  left_below : go_with_blanks (background_at_end (row_cells line.columns)) (rows_of below) ≡ false → left ≡ below
  left_below p = e ∙ ap (λ b. rest_of b below) (t ∙ p)

  pub painted_step : (moved next : Written) → moved ≡ with_changes (moves (at - length (line ∷ below))) w → next ≡ with_changes (row_painted moved.pen (row_cells line.columns) too) moved
      → are_some (row_painted w.pen (row_cells line.columns) (go_with_blanks (background_at_end (row_cells line.columns)) (rows_of below))) ≡ true
      → LeadsOn whole some next true (length (line ∷ below) - length left) (rows_of left)
  painted_step moved next p q s =
      row_done whole w some painted (at - length (line ∷ below)) line.columns (rows_of below) leads moved next (rows_of left) (length (line ∷ below) - length left) p
      (q ∙ ap (λ b. with_changes (row_painted moved.pen (row_cells line.columns) b) moved) t) s
      (λ x. ap rows_of (left_none x))
      (λ x. (ap rows_of (left_below x), let n = ap length (left_below x) in omega (arith, n)))

  pub skipped_step : length (line ∷ below) ≤ at → are_some (row_painted w.pen (row_cells line.columns) (go_with_blanks (background_at_end (row_cells line.columns)) (rows_of below))) ≡ false
      → LeadsOn whole some w painted (at - length left) (rows_of left)
  skipped_step long s =
      let is : left ≡ below = left_below (never_both w.pen (row_cells line.columns) (rows_of below) s) in
      let n = ap length is in
      let next : at - length left ≡ at - length (line ∷ below) + 1 = omega (arith, n, long) in
      subst (λ (rows : List LineContent). LeadsOn whole some w painted (at - length left) (rows_of rows)) (sym is)
      (row_skipped whole w some painted (at - length (line ∷ below)) line.columns (rows_of below) leads (at - length left) next s)

  pub fewer_left : length left ≤ length below
  fewer_left = by_test too (λ b. let n = ap length (e ∙ ap (λ x. rest_of x below) b) in omega (arith, n)) (λ b. let n = ap length (e ∙ ap (λ x. rest_of x below) b) in omega (arith, n))

  pub tail_left : (count : ℕ) (blanks : Option Attributes) → IsTail count blanks (rows_of below) → IsTail count blanks (rows_of left)
  tail_left count blanks tail =
      by_test too
      (λ b. subst (λ (rows : List LineContent). IsTail count blanks (rows_of rows)) (sym (e ∙ ap (λ x. rest_of x below) b)) tt)
      (λ b. subst (λ (rows : List LineContent). IsTail count blanks (rows_of rows)) (sym (e ∙ ap (λ x. rest_of x below) b)) tail)
