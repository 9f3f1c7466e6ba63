-- Unbroken words, forwards and back.
use Rattle.std.proofs.Common.{◌≡◌, ℕ, ◌+◌, ◌<◌, ◌≤◌, Bool, true, false, List, [], ◌∷◌, ◌++◌, length, reverse, refl, sym, ap, ◌∙◌, arith, cond}
use Rattle.std.specs.Prelude.{◌&&◌, Option, Some, None, fold, filter, nat_le, if◌then◌else◌}
use Rattle.std.specs.Option.{unwrap_or, option_or}
use Rattle.std.specs.Borrow.{Bor}
use Rattle.std.specs.Fn.{Shared}
use Rattle.std.specs.Str.{IsUtf8}
use Rattle.std.proofs.lemmas.Bool.{false≢true, le-leb}
use Rattle.std.proofs.lemmas.Fn.{says_at}
use Rattle.std.proofs.lemmas.List.Sums.{take_while-cons}
use Rattle.std.proofs.lemmas.Grind.{reverse_onto}
use Rattle.cell_base.specs.Row.{Narrow, LeftHalf, RightHalf, Row}
use Rattle.cell_base.specs.declared.ranges.DoubleClickRange.{DoubleClickRange}
use Rattle.cell_base.specs.declared.ranges.DoubleClickRange.TheVariants.{Range as WithoutWrap}
use Rattle.cell_edits.specs.VisibleCells.{VisibleCell, visible_from, visible_cells}
use Rattle.cell_views.specs.Words.{Answers, prefix_words, word_start, word_end, word_range, columns_between, double_click_range}
use Rattle.cell_edits.proofs.CellLemmas.{by_test}

filter_in : {X : Type 0} (p : X → Bool) (x : X) (xs : List X) → p x ≡ true → filter p (x ∷ xs) ≡ x ∷ filter p xs
filter_in p x xs e = ap (λ b. cond b (x ∷ filter p xs) (filter p xs)) e

filter_out : {X : Type 0} (p : X → Bool) (x : X) (xs : List X) → p x ≡ false → filter p (x ∷ xs) ≡ filter p xs
filter_out p x xs e = ap (λ b. cond b (x ∷ filter p xs) (filter p xs)) e

-- a visible cell begins before the end of its row
abbrev pub head_column : ℕ → List VisibleCell → ℕ
head_column at [] = at
head_column at (v ∷ cells) = v.column

pub column_below : (at : ℕ) (row : Row) (v : VisibleCell) (cells : List VisibleCell) → visible_from at row ≡ v ∷ cells → v.column < at + length row
column_below at [] v cells e = absurd (cc)
column_below at (Narrow t a ∷ row) v cells e = let is : at ≡ v.column = ap (head_column 0) e in omega arith
column_below at (LeftHalf t a ∷ row) v cells e = let is : at ≡ v.column = ap (head_column 0) e in omega arith
column_below at (RightHalf a ∷ row) v cells e = let below = column_below (at + 1) row v cells e in omega arith

module _ (test : List ℕ → Bool) where
  prefix_more : (v : VisibleCell) (cells : List VisibleCell) → test v.cell.text ≡ true → prefix_words test (v ∷ cells) ≡ v ∷ prefix_words test cells
  prefix_more v cells e = take_while-cons (λ v. test v.cell.text) v cells ∙ ap (λ b. cond b (v ∷ prefix_words test cells) []) e

  prefix_none : (v : VisibleCell) (cells : List VisibleCell) → test v.cell.text ≡ false → prefix_words test (v ∷ cells) ≡ []
  prefix_none v cells e = take_while-cons (λ v. test v.cell.text) v cells ∙ ap (λ b. cond b (v ∷ prefix_words test cells) []) e

  -- the end of the words among these cells, where `now` is the end so far
  abbrev pub end_from : ℕ → ℕ → List VisibleCell → ℕ
  end_from at now cells = fold (λ _ v. v.column + 1) now (prefix_words test (filter (λ v. nat_le at v.column) cells))

  pub end_stops : (at now whole : ℕ) (left : List VisibleCell) (v : VisibleCell) (cells : List VisibleCell) (column : ℕ)
      → left ≡ v ∷ cells → column ≡ v.column → at ≤ column → test v.cell.text ≡ false → end_from at now left ≡ whole → now ≡ whole
  end_stops at now whole left v cells column l c h f e =
      let after : nat_le at v.column ≡ true = ap (nat_le at) (sym c) ∙ le-leb at column h in
      sym (ap (end_from at now) l ∙ ap (λ xs. fold (λ _ v. v.column + 1) now (prefix_words test xs)) (filter_in (λ v. nat_le at v.column) v cells after)
      ∙ ap (λ xs. fold (λ _ v. v.column + 1) now xs) (prefix_none v (filter (λ v. nat_le at v.column) cells) f))
      ∙ e

  pub end_goes : (at now whole : ℕ) (left : List VisibleCell) (v : VisibleCell) (cells : List VisibleCell) (column : ℕ)
      → left ≡ v ∷ cells → column ≡ v.column → at ≤ column → test v.cell.text ≡ true → end_from at now left ≡ whole → end_from at (column + 1) cells ≡ whole
  end_goes at now whole left v cells column l c h f e =
      let after : nat_le at v.column ≡ true = ap (nat_le at) (sym c) ∙ le-leb at column h in
      ap (λ n. end_from at (n + 1) cells) c
      ∙ sym (ap (end_from at now) l ∙ ap (λ xs. fold (λ _ v. v.column + 1) now (prefix_words test xs)) (filter_in (λ v. nat_le at v.column) v cells after)
      ∙ ap (λ xs. fold (λ _ v. v.column + 1) now xs) (prefix_more v (filter (λ v. nat_le at v.column) cells) f))
      ∙ e

  -- where the words begin that are unbroken up to the last cell, from where they begin so far
  abbrev pub begun : Option ℕ → VisibleCell → Option ℕ
  begun start v = if test v.cell.text then option_or start (Some v.column) else None

  abbrev pub begun_in : Option ℕ → List VisibleCell → Option ℕ
  begun_in start cells = fold begun start cells

  abbrev all_words : List VisibleCell → Bool
  all_words [] = true
  all_words (v ∷ cells) = test v.cell.text && all_words cells

  begun_word : (start : Option ℕ) (v : VisibleCell) (cells : List VisibleCell) → test v.cell.text ≡ true → begun_in start (v ∷ cells) ≡ begun_in (option_or start (Some v.column)) cells
  begun_word start v cells e = ap (λ b. begun_in (if b then option_or start (Some v.column) else None) cells) e

  begun_other : (start : Option ℕ) (v : VisibleCell) (cells : List VisibleCell) → test v.cell.text ≡ false → begun_in start (v ∷ cells) ≡ begun_in None cells
  begun_other start v cells e = ap (λ b. begun_in (if b then option_or start (Some v.column) else None) cells) e

  all_rest : (v : VisibleCell) (cells : List VisibleCell) (b : Bool) → test v.cell.text ≡ true → all_words (v ∷ cells) ≡ b → all_words cells ≡ b
  all_rest v cells b e h = sym (ap (λ t. t && all_words cells) e) ∙ h

  begun_all : (k : ℕ) (cells : List VisibleCell) → all_words cells ≡ true → begun_in (Some k) cells ≡ Some k
  begun_all k [] h = refl
  begun_all k (v ∷ cells) h = by_test (test v.cell.text)
      (λ e. begun_word (Some k) v cells e ∙ begun_all k cells (all_rest v cells true e h))
      (λ e. absurd (false≢true (sym (ap (λ t. t && all_words cells) e) ∙ h)))

  begun_broken : (start : Option ℕ) (cells : List VisibleCell) → all_words cells ≡ false → begun_in start cells ≡ begun_in None cells
  begun_broken start [] h = absurd (false≢true (sym h))
  begun_broken start (v ∷ cells) h = by_test (test v.cell.text)
      (λ e. begun_word start v cells e ∙ begun_broken (option_or start (Some v.column)) cells (all_rest v cells false e h)
      ∙ sym (begun_word None v cells e ∙ begun_broken (Some v.column) cells (all_rest v cells false e h)))
      (λ e. begun_other start v cells e ∙ sym (begun_other None v cells e))

  prefix_all : (cells : List VisibleCell) (v : VisibleCell) → all_words cells ≡ true → test v.cell.text ≡ true → prefix_words test (cells ++ v ∷ []) ≡ cells ++ v ∷ []
  prefix_all [] v h e = prefix_more v [] e
  prefix_all (u ∷ cells) v h e = by_test (test u.cell.text)
      (λ f. prefix_more u (cells ++ v ∷ []) f ∙ ap (λ (xs : List VisibleCell). u ∷ xs) (prefix_all cells v (all_rest u cells true f h) e))
      (λ f. absurd (false≢true (sym (ap (λ t. t && all_words cells) f) ∙ h)))

  prefix_broken : (cells : List VisibleCell) (v : VisibleCell) → all_words cells ≡ false → prefix_words test (cells ++ v ∷ []) ≡ prefix_words test cells
  prefix_broken [] v h = absurd (false≢true (sym h))
  prefix_broken (u ∷ cells) v h = by_test (test u.cell.text)
      (λ f. prefix_more u (cells ++ v ∷ []) f ∙ ap (λ (xs : List VisibleCell). u ∷ xs) (prefix_broken cells v (all_rest u cells false f h)) ∙ sym (prefix_more u cells f))
      (λ f. prefix_none u (cells ++ v ∷ []) f ∙ sym (prefix_none u cells f))

  prefix_push : (cells : List VisibleCell) (v : VisibleCell) → test v.cell.text ≡ false → prefix_words test (cells ++ v ∷ []) ≡ prefix_words test cells
  prefix_push [] v e = prefix_none v [] e
  prefix_push (u ∷ cells) v e = by_test (test u.cell.text)
      (λ f. prefix_more u (cells ++ v ∷ []) f ∙ ap (λ (xs : List VisibleCell). u ∷ xs) (prefix_push cells v e) ∙ sym (prefix_more u cells f))
      (λ f. prefix_none u (cells ++ v ∷ []) f ∙ sym (prefix_none u cells f))

  all_push : (cells : List VisibleCell) (v : VisibleCell) → test v.cell.text ≡ true → all_words (cells ++ v ∷ []) ≡ all_words cells
  all_push [] v e = ap (λ t. t && true) e
  all_push (u ∷ cells) v e = ap (λ b. test u.cell.text && b) (all_push cells v e)

  all_broken : (cells : List VisibleCell) (v : VisibleCell) → test v.cell.text ≡ false → all_words (cells ++ v ∷ []) ≡ false
  all_broken [] v e = ap (λ t. t && true) e
  all_broken (u ∷ cells) v e = by_test (test u.cell.text)
      (λ f. ap (λ t. t && all_words (cells ++ v ∷ [])) f ∙ all_broken cells v e)
      (λ f. ap (λ t. t && all_words (cells ++ v ∷ [])) f)

  all_reverse : (cells : List VisibleCell) → all_words (reverse cells) ≡ all_words cells
  all_reverse [] = refl
  all_reverse (v ∷ cells) = ap all_words (reverse_onto cells v []) ∙ by_test (test v.cell.text)
      (λ e. all_push (reverse cells) v e ∙ all_reverse cells ∙ sym (ap (λ t. t && all_words cells) e))
      (λ e. all_broken (reverse cells) v e ∙ sym (ap (λ t. t && all_words cells) e))

  last_column : (at : ℕ) (cells : List VisibleCell) (v : VisibleCell) → fold (λ _ v. v.column) at (cells ++ v ∷ []) ≡ v.column
  last_column at [] v = refl
  last_column at (u ∷ cells) v = last_column u.column cells v

  abbrev pub start_back : ℕ → List VisibleCell → ℕ
  start_back at cells = fold (λ _ v. v.column) at (prefix_words test (reverse cells))

  -- read forwards or back, the unbroken words up to the last cell begin at one column
  begun_back : (at : ℕ) (cells : List VisibleCell) → unwrap_or (begun_in None cells) at ≡ start_back at cells
  begun_back at [] = refl
  begun_back at (v ∷ cells) =
      let last = ap (λ xs. fold (λ _ v. v.column) at (prefix_words test xs)) (reverse_onto cells v []) in
      by_test (test v.cell.text)
      (λ e. by_test (all_words cells)
      (λ h. ap (λ o. unwrap_or o at) (begun_word None v cells e ∙ begun_all v.column cells h)
      ∙ sym (last ∙ ap (λ xs. fold (λ _ v. v.column) at xs) (prefix_all (reverse cells) v (all_reverse cells ∙ h) e) ∙ last_column at (reverse cells) v))
      (λ h. ap (λ o. unwrap_or o at) (begun_word None v cells e ∙ begun_broken (Some v.column) cells h) ∙ begun_back at cells
      ∙ sym (last ∙ ap (λ xs. fold (λ _ v. v.column) at xs) (prefix_broken (reverse cells) v (all_reverse cells ∙ h)))))
      (λ e. ap (λ o. unwrap_or o at) (begun_other None v cells e) ∙ begun_back at cells
      ∙ sym (last ∙ ap (λ xs. fold (λ _ v. v.column) at xs) (prefix_push (reverse cells) v e)))

  -- step by step
  abbrev pub begun_from : ℕ → Option ℕ → List VisibleCell → Option ℕ
  begun_from at start cells = begun_in start (filter (λ v. nat_le v.column at) cells)

  pub begun_goes : (at : ℕ) (start whole : Option ℕ) (left : List VisibleCell) (v : VisibleCell) (cells : List VisibleCell) (column : ℕ) (answer : Bool) (next : Option ℕ)
      → left ≡ v ∷ cells → column ≡ v.column → column ≤ at → test v.cell.text ≡ answer → next ≡ (if answer then option_or start (Some column) else None)
      → begun_from at start left ≡ whole → begun_from at next cells ≡ whole
  begun_goes at start whole left v cells column answer next l c h f n e =
      let before : nat_le v.column at ≡ true = ap (λ k. nat_le k at) (sym c) ∙ le-leb column at h in
      ap (λ o. begun_from at o cells) (n ∙ ap (λ k. if answer then option_or start (Some k) else None) c ∙ ap (λ b. if b then option_or start (Some v.column) else None) (sym f))
      ∙ sym (ap (begun_from at start) l ∙ ap (begun_in start) (filter_in (λ v. nat_le v.column at) v cells before))
      ∙ e

  pub begun_ends : (at column : ℕ) (start : Option ℕ) (left cells : List VisibleCell) → left ≡ [] → column ≡ unwrap_or start at → begun_from at start left ≡ begun_from at None cells
      → column ≡ word_start test at cells
  begun_ends at column start left cells l c e = c ∙ ap (λ o. unwrap_or o at) (sym (ap (begun_from at start) l) ∙ e) ∙ begun_back at (filter (λ v. nat_le v.column at) cells)

-- a closure's answer is the result of the test
pub answered : {F : Type 0} (g : Shared F (Bor (List ℕ) × Unit {0}) Bool) (f : F) (test : List ℕ → Bool) (text : Bor (List ℕ)) (bytes : List ℕ) (answer b : Bool)
    → Answers g f test → IsUtf8 text.now → g.post f (text, tt) answer → text.now ≡ bytes → answer ≡ b → test bytes ≡ b
answered g f test text bytes answer b answers valid given is e = ap test (sym is) ∙ sym (answers text.now answer valid (says_at g given refl)) ∙ e

-- past the end of the row, and within it
module _ (test : List ℕ → Bool) (at : ℕ) (row : Row) where
  abbrev range_at : Bool → DoubleClickRange
  range_at past = if past then WithoutWrap (columns_between at at) else word_range row (word_start test at (visible_cells row)) (word_end test at (visible_cells row))

  pub past_end : (past : Bool) → past ≡ nat_le (length row) at → past ≡ true → WithoutWrap (columns_between at at) ≡ double_click_range test at row
  past_end past p e = ap range_at (sym e ∙ p)

  pub within : (past : Bool) (start last : ℕ) (range : DoubleClickRange) → past ≡ nat_le (length row) at → past ≡ false → start ≡ word_start test at (visible_cells row) → last ≡ word_end test at (visible_cells row)
      → range ≡ word_range row start last → range ≡ double_click_range test at row
  within past start last range p e s l r = r ∙ (λ i. word_range row (s i) (l i)) ∙ ap range_at (sym e ∙ p)
