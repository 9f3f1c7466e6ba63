-- Cells of one column each that are read as a text.
use Rattle.std.proofs.Common.{◌≡◌, ℕ, zero, suc, ◌+◌, ◌-◌, ◌<◌, ◌≤◌, Bool, true, false, List, [], ◌∷◌, ◌++◌, length, take, Some, None, refl, sym, ap, ◌∙◌, arith, length-append}
use Rattle.std.specs.Prelude.{fold, reverse, ◌&&◌, ◌==◌, if◌then◌else◌}
use Rattle.std.specs.List.{list_all, prefix_len, suffix_len}
use Rattle.std.proofs.lemmas.Bool.{false≢true}
use Rattle.std.proofs.lemmas.Bool.Decides.{nat_tests}
use Rattle.std.proofs.lemmas.Grind.{reverse_onto}
use Rattle.std.proofs.lemmas.List.{length-reverse, reverse-reverse}
use Rattle.std.proofs.lemmas.List.Sums.{fold-append, prefix_len-le-length}
use Rattle.cell_base.specs.Attributes.{Attributes, blank_of}
use Rattle.cell_base.specs.CellContent.{CellContent}
use Rattle.cell_base.specs.SameAttributes.{same_attributes, same_attributes_decides}
use Rattle.screen_change.specs.CellRuns.{is_blank_of}
use Rattle.screen_change.specs.Written.{Written, with_cell as cell_written, with_cells, with_each}
use Rattle.screen_change.proofs.TextLemmas.{by_test}
use Rattle.cell_edits.specs.VisibleCells.{VisibleCell, contents, visible_each}
use Rattle.screen_repaint.specs.Ends.{End, PassesOn, PassesSpaces, are_blanks_with, blanks_at_end, ends_in, plain_cell, with_blanks, with_cell, with_filled}
use Rattle.screen_repaint.specs.PaintedRows.{WritesOn}
use Rattle.screen_repaint.proofs.EndLemmas.{stepped}
use Rattle.screen_repaint.proofs.PaintLemmas.{take_next, cell_more}

-- ---- cells that are written

-- the cells of a text, and then the first m of the rest, are the first n = length text + m cells
each_written : (at : ℕ) (text : List ℕ) (attributes : Attributes) (w : Written) (n m : ℕ) (rest : List VisibleCell) → n ≡ length text + m
    → with_cells (with_each text attributes w) (take m (contents rest)) ≡ with_cells w (take n (contents (visible_each at text attributes ++ rest)))
each_written at [] attributes w n m rest e = ap (λ k. with_cells w (take k (contents rest))) (let k : m ≡ n = omega (arith, e) in k)
each_written at (byte ∷ text) attributes w n m rest e =
    each_written (at + 1) text attributes (cell_written (byte ∷ []) attributes w) (length text + m) m rest refl
    ∙ ap (with_cells w) (sym (take_next n (length text + m) (plain_cell byte attributes) (contents (visible_each (at + 1) text attributes ++ rest)) (let k : n ≡ length text + m + 1 = omega (arith, e) in k)))

pub stretch_written : (at : ℕ) (text : List ℕ) (attributes : Attributes) (old new : Written) (most : ℕ) (left rest : List VisibleCell) → left ≡ visible_each at text attributes ++ rest → 0 < length text → length text ≤ most
    → new ≡ with_each text attributes old → WritesOn most old left (length text) new rest
stretch_written at text attributes old new most left rest e some bound is = record {
  same =
      ap (λ (w : Written). with_cells w (take (most - length text) (contents rest))) is
      ∙ each_written at text attributes old most (most - length text) rest (let k : most ≡ length text + (most - length text) = omega (arith, bound) in k)
      ∙ ap (λ (vs : List VisibleCell). with_cells old (take most (contents vs))) (sym e);
  within = bound;
  none = λ z. absurd (omega (arith, z, some));
}

pub cell_is_written : (cell : VisibleCell) (old new : Written) (most : ℕ) (left rest : List VisibleCell) → left ≡ cell ∷ rest → 0 < most → new ≡ cell_written cell.cell.text cell.cell.attributes old → WritesOn most old left 1 new rest
cell_is_written cell old new most left rest e some is = record {
  same = cell_more old new _ most (most - 1) cell.cell (contents rest) (let k : most ≡ most - 1 + 1 = omega (arith, some) in k) is (ap (λ (vs : List VisibleCell). with_cells old (take most (contents vs))) (sym e));
  within = some;
  none = λ z. absurd (omega (arith, z));
}

pub all_is_written : (old new whole : Written) (most count : ℕ) (left rest : List VisibleCell) → WritesOn most old left count new rest → count ≡ 0 → with_cells old (take most (contents left)) ≡ whole → new ≡ whole
all_is_written old new whole most count left rest h z e =
    ap (with_cells new) (sym (h.none z) ∙ ap (λ k. take k (contents rest)) (let k : most ≡ most - count = omega (arith, z) in k)) ∙ h.same ∙ e

-- ---- one cell more, or some

-- a cell for each byte of a text, all with the same attributes
abbrev pub with_plain : List ℕ → Attributes → End → End
with_plain text attributes end = fold (λ e byte. with_cell e (plain_cell byte attributes)) end text

zero_no : (n : ℕ) → 0 < n → (n == 0) ≡ false
zero_no n p = grind (arith, nat_tests)

rest_some : (n : ℕ) (end : End) → 0 < n → with_filled n end ≡ record { cells = end.cells + n; kept = end.cells + n; blanks = None }
rest_some n end p = ap (λ b. if b then end else record { cells = end.cells + n; kept = end.cells + n; blanks = None }) (zero_no n p)

blanks_some : (n : ℕ) (attributes : Attributes) (end : End) (go : Bool) → 0 < n → ends_in end.blanks attributes ≡ go
    → with_blanks n attributes end ≡ (if go then record end { cells = end.cells + n } else record { cells = end.cells + n; kept = end.cells; blanks = Some attributes })
blanks_some n attributes end go p e = λ i.
    if zero_no n p i then end else (if e i then record end { cells = end.cells + n } else record { cells = end.cells + n; kept = end.cells; blanks = Some attributes })

rest_count : (n : ℕ) (end : End) → (with_filled n end).cells ≡ end.cells + n
rest_count zero end = omega arith
rest_count (suc n) end = ap (λ (e : End). e.cells) (rest_some (suc n) end (omega arith))

blanks_count : (n : ℕ) (attributes : Attributes) (end : End) → (with_blanks n attributes end).cells ≡ end.cells + n
blanks_count zero attributes end = omega arith
blanks_count (suc n) attributes end =
    by_test (ends_in end.blanks attributes)
    (λ e. ap (λ (e : End). e.cells) (blanks_some (suc n) attributes end true (omega arith) e))
    (λ e. ap (λ (e : End). e.cells) (blanks_some (suc n) attributes end false (omega arith) e))

one_blank : (end : End) (cell : CellContent) → is_blank_of cell.attributes.background cell ≡ true → with_cell end cell ≡ with_blanks 1 cell.attributes end
one_blank end cell e = ap (λ b. stepped end cell b (ends_in end.blanks cell.attributes)) e

one_other : (end : End) (cell : CellContent) → is_blank_of cell.attributes.background cell ≡ false → with_cell end cell ≡ with_filled 1 end
one_other end cell e = ap (λ b. stepped end cell b (ends_in end.blanks cell.attributes)) e

cell_count : (end : End) (cell : CellContent) → (with_cell end cell).cells ≡ end.cells + 1
cell_count end cell =
    by_test (is_blank_of cell.attributes.background cell)
    (λ e. ap (λ (e : End). e.cells) (one_blank end cell e) ∙ blanks_count 1 cell.attributes end)
    (λ e. ap (λ (e : End). e.cells) (one_other end cell e) ∙ rest_count 1 end)

-- a blank after blanks of these attributes, or none
blanks_more : (n : ℕ) (attributes : Attributes) (end : End) → with_blanks 1 attributes (with_blanks n attributes end) ≡ with_blanks (suc n) attributes end
blanks_more zero attributes end = refl
blanks_more (suc n) attributes end =
    let more : end.cells + suc n + 1 ≡ end.cells + suc (suc n) = omega arith in
    by_test (ends_in end.blanks attributes)
    (λ e.
    ap (with_blanks 1 attributes) (blanks_some (suc n) attributes end true (omega arith) e)
    ∙ blanks_some 1 attributes (record end { cells = end.cells + suc n }) true (omega arith) e
    ∙ ap (λ k. record end { cells = k }) more
    ∙ sym (blanks_some (suc (suc n)) attributes end true (omega arith) e))
    (λ e.
    ap (with_blanks 1 attributes) (blanks_some (suc n) attributes end false (omega arith) e)
    ∙ blanks_some 1 attributes (record { cells = end.cells + suc n; kept = end.cells; blanks = Some attributes }) true (omega arith) ((same_attributes_decides attributes attributes).1 refl)
    ∙ ap (λ k. record { cells = k; kept = end.cells; blanks = Some attributes }) more
    ∙ sym (blanks_some (suc (suc n)) attributes end false (omega arith) e))

-- another cell after blanks
rest_over : (n k : ℕ) (attributes : Attributes) (end : End) → with_filled 1 (with_blanks n attributes (with_filled k end)) ≡ with_filled (k + n + 1) end
rest_over n k attributes end =
    let before = rest_count k end in
    let between = blanks_count n attributes (with_filled k end) in
    let all : (with_blanks n attributes (with_filled k end)).cells + 1 ≡ end.cells + (k + n + 1) = omega arith in
    rest_some 1 (with_blanks n attributes (with_filled k end)) (omega arith)
    ∙ ap (λ c. record { cells = c; kept = c; blanks = None }) all
    ∙ sym (rest_some (k + n + 1) end (omega arith))

-- ---- the blanks at a text's end

abbrev blank_at : Attributes → ℕ → Bool
blank_at attributes byte = is_blank_of attributes.background (plain_cell byte attributes)

reversed_ends : (text : List ℕ) (attributes : Attributes) (end : End)
    → with_plain (reverse text) attributes end ≡ with_blanks (prefix_len (blank_at attributes) text) attributes (with_filled (length text - prefix_len (blank_at attributes) text) end)
reversed_ends [] attributes end = refl
reversed_ends (byte ∷ text) attributes end =
    let n : ℕ = prefix_len (blank_at attributes) text in
    let within : n ≤ length text = prefix_len-le-length (blank_at attributes) text in
    let m : ℕ = prefix_len (blank_at attributes) (byte ∷ text) in
    let before : End = with_blanks n attributes (with_filled (length text - n) end) in
    ap (λ t. with_plain t attributes end) (reverse_onto text byte [])
    ∙ fold-append (λ e x. with_cell e (plain_cell x attributes)) end (reverse text) (byte ∷ [])
    ∙ ap (λ (e : End). with_cell e (plain_cell byte attributes)) (reversed_ends text attributes end)
    ∙ by_test (blank_at attributes byte)
    (λ e.
    let one : suc n ≡ m = (let s : suc n ≡ 1 + n = omega arith in s) ∙ sym (ap (λ b. if b then 1 + n else 0) e) in
    let remaining : length text - n ≡ length (byte ∷ text) - m = omega arith in
    one_blank before (plain_cell byte attributes) e ∙ blanks_more n attributes (with_filled (length text - n) end) ∙ (λ i. with_blanks (one i) attributes (with_filled (remaining i) end)))
    (λ e.
    let none : 0 ≡ m = sym (ap (λ b. if b then 1 + n else 0) e) in
    let remaining : length text - n + n + 1 ≡ length (byte ∷ text) - m = omega arith in
    one_other before (plain_cell byte attributes) e ∙ rest_over n (length text - n) attributes end ∙ (λ i. with_blanks (none i) attributes (with_filled (remaining i) end)))

-- the cells of a text are those before the blanks at its end, and then these blanks
plain_ends : (text : List ℕ) (attributes : Attributes) (end : End) → with_plain text attributes end ≡ with_blanks (blanks_at_end text attributes) attributes (with_filled (length text - blanks_at_end text attributes) end)
plain_ends text attributes end =
    ap (λ t. with_plain t attributes end) (sym (reverse-reverse text))
    ∙ reversed_ends (reverse text) attributes end
    ∙ ap (λ k. with_blanks (blanks_at_end text attributes) attributes (with_filled (k - blanks_at_end text attributes) end)) (length-reverse text)

-- the cells before the blanks at a text's end, and then these blanks, are the cells of the text
pub text_pushed : (text : List ℕ) (attributes : Attributes) (old new : End) (blanks : ℕ) → blanks ≡ blanks_at_end text attributes → new ≡ with_blanks blanks attributes (with_filled (length text - blanks) old) → new ≡ with_plain text attributes old
text_pushed text attributes old new blanks n e = e ∙ ap (λ k. with_blanks k attributes (with_filled (length text - k) old)) n ∙ sym (plain_ends text attributes old)

pub blanks_within : (text : List ℕ) (attributes : Attributes) → blanks_at_end text attributes ≤ length text
blanks_within text attributes = let n = prefix_len-le-length (blank_at attributes) (reverse text) in let all = length-reverse text in omega arith

and_true : (b : Bool) → (b && true) ≡ b
and_true true = refl
and_true false = refl

and_false : (b : Bool) → (b && false) ≡ false
and_false true = refl
and_false false = refl

-- a byte is a blank if it is a space, and the attributes are plain except for the background
blank_byte : (attributes : Attributes) (byte : ℕ) (plain : Bool) → same_attributes attributes (blank_of attributes.background) ≡ plain → blank_at attributes byte ≡ ((byte == 32) && plain)
unfolding is_blank_of
blank_byte attributes byte plain e = λ i. and_true (byte == 32) i && e i

pub spaces_are : (text : List ℕ) (attributes : Attributes) → same_attributes attributes (blank_of attributes.background) ≡ true → blanks_at_end text attributes ≡ suffix_len (λ byte. byte == 32) text
spaces_are text attributes e = λ i. suffix_len (λ byte. (blank_byte attributes byte true e ∙ and_true (byte == 32)) i) text

none_pass : (bytes : List ℕ) → prefix_len (λ byte. false) bytes ≡ 0
none_pass [] = refl
none_pass (byte ∷ bytes) = refl

pub none_are : (text : List ℕ) (attributes : Attributes) → same_attributes attributes (blank_of attributes.background) ≡ false → blanks_at_end text attributes ≡ 0
none_are text attributes e = (λ i. suffix_len (λ byte. (blank_byte attributes byte false e ∙ and_false (byte == 32)) i) text) ∙ none_pass (reverse text)

pub no_spaces : (text : List ℕ) (attributes : Attributes) → suffix_len (λ byte. byte == 32) text ≡ 0 → blanks_at_end text attributes ≡ 0
no_spaces text attributes e = by_test (same_attributes attributes (blank_of attributes.background)) (λ p. spaces_are text attributes p ∙ e) (λ p. none_are text attributes p)

-- ---- how cells end

each_ends : (at : ℕ) (text : List ℕ) (attributes : Attributes) (end : End) (rest : List VisibleCell)
    → fold with_cell (with_plain text attributes end) (contents rest) ≡ fold with_cell end (contents (visible_each at text attributes ++ rest))
each_ends at [] attributes end rest = refl
each_ends at (byte ∷ text) attributes end rest = each_ends (at + 1) text attributes (with_cell end (plain_cell byte attributes)) rest

plain_count : (text : List ℕ) (attributes : Attributes) (end : End) → (with_plain text attributes end).cells ≡ end.cells + length text
plain_count [] attributes end = omega arith
plain_count (byte ∷ text) attributes end = let one = cell_count end (plain_cell byte attributes) in let more = plain_count text attributes (with_cell end (plain_cell byte attributes)) in omega arith

each_count : (at : ℕ) (text : List ℕ) (attributes : Attributes) → length (visible_each at text attributes) ≡ length text
each_count at [] attributes = refl
each_count at (byte ∷ text) attributes = ap suc (each_count (at + 1) text attributes)

-- as many cells as a text has bytes
pub stretch_count : (at : ℕ) (text : List ℕ) (attributes : Attributes) (left rest : List VisibleCell) → left ≡ visible_each at text attributes ++ rest → length left ≡ length text + length rest
stretch_count at text attributes left rest e = let all = ap length e in let both = length-append (visible_each at text attributes) rest in let own = each_count at text attributes in omega arith

pub stretch_ends : (at : ℕ) (text : List ℕ) (attributes : Attributes) (old new : End) (left rest : List VisibleCell) → left ≡ visible_each at text attributes ++ rest → 0 < length text
    → new ≡ with_plain text attributes old → PassesOn old left new rest true
stretch_ends at text attributes old new left rest e some is =
    let all = stretch_count at text attributes left rest e in record {
      same =
          ap (λ (n : End). fold with_cell n (contents rest)) is
          ∙ each_ends at text attributes old rest
          ∙ ap (λ (vs : List VisibleCell). fold with_cell old (contents vs)) (sym e);
      count = let now = ap (λ (n : End). n.cells) is in let more = plain_count text attributes old in omega arith;
      fewer = λ any. omega (arith, all, some);
      none = λ none. absurd (false≢true (sym none));
    }

-- ---- cells that are spaces

each_spaces : (at : ℕ) (text : List ℕ) (own attributes : Attributes) (rest : List VisibleCell) → same_attributes own attributes ≡ true
    → (list_all (λ byte. byte == 32) text && are_blanks_with attributes (contents rest)) ≡ are_blanks_with attributes (contents (visible_each at text own ++ rest))
each_spaces at [] own attributes rest e = refl
each_spaces at (byte ∷ text) own attributes rest e =
    by_test (byte == 32)
    (λ is.
    ap (λ b. (b && list_all (λ byte. byte == 32) text) && are_blanks_with attributes (contents rest)) is
    ∙ each_spaces (at + 1) text own attributes rest e
    ∙ sym (λ i. ((is i && true) && e i) && are_blanks_with attributes (contents (visible_each (at + 1) text own ++ rest))))
    (λ is.
    ap (λ b. (b && list_all (λ byte. byte == 32) text) && are_blanks_with attributes (contents rest)) is
    ∙ sym (ap (λ b. ((b && true) && same_attributes own attributes) && are_blanks_with attributes (contents (visible_each (at + 1) text own ++ rest))) is))

other_spaces : (at : ℕ) (text : List ℕ) (own attributes : Attributes) (rest : List VisibleCell) → 0 < length text → same_attributes own attributes ≡ false → are_blanks_with attributes (contents (visible_each at text own ++ rest)) ≡ false
other_spaces at [] own attributes rest some e = absurd (omega (arith, some))
other_spaces at (byte ∷ text) own attributes rest some e =
    (λ i. (((byte == 32) && true) && e i) && are_blanks_with attributes (contents (visible_each (at + 1) text own ++ rest)))
    ∙ ap (λ b. b && are_blanks_with attributes (contents (visible_each (at + 1) text own ++ rest))) (and_false ((byte == 32) && true))

pub stretch_spaces : (at : ℕ) (text : List ℕ) (own attributes : Attributes) (left rest : List VisibleCell) (are : Bool) → left ≡ visible_each at text own ++ rest → 0 < length text
    → are ≡ (list_all (λ byte. byte == 32) text && same_attributes own attributes) → PassesSpaces attributes left rest are
stretch_spaces at text own attributes left rest are e some is =
    let all = stretch_count at text own left rest e in record {
      same =
          ap (λ b. b && are_blanks_with attributes (contents rest)) is
          ∙ by_test (same_attributes own attributes)
          (λ s.
          ap (λ b. (list_all (λ byte. byte == 32) text && b) && are_blanks_with attributes (contents rest)) s
          ∙ ap (λ b. b && are_blanks_with attributes (contents rest)) (and_true (list_all (λ byte. byte == 32) text))
          ∙ each_spaces at text own attributes rest s)
          (λ s.
          ap (λ b. (list_all (λ byte. byte == 32) text && b) && are_blanks_with attributes (contents rest)) s
          ∙ ap (λ b. b && are_blanks_with attributes (contents rest)) (and_false (list_all (λ byte. byte == 32) text))
          ∙ sym (other_spaces at text own attributes rest some s))
          ∙ ap (λ (vs : List VisibleCell). are_blanks_with attributes (contents vs)) (sym e);
      fewer = omega (arith, all, some);
    }
