-- The columns that a double click selects. A word cell is a visible cell whose text passes a test.
use Rattle.std.specs.Prelude.{◌≡◌, ℕ, ◌+◌, Bool, ◌&&◌, nat_lt, nat_le, List, length, reverse, fold, filter, take_while}
use Rattle.std.specs.Prelude.{if◌then◌else◌}
use Rattle.std.specs.Borrow.{Bor}
use Rattle.std.specs.Fn.{Shared, FnReturnsAt}
use Rattle.std.specs.Str.{IsUtf8}
use Rattle.std.specs.declared.ops.Range.{Range}
use Rattle.cell_base.specs.declared.ranges.DoubleClickRange.{DoubleClickRange}
use Rattle.cell_base.specs.declared.ranges.DoubleClickRange.TheVariants.{Range as WithoutWrap, RangeWithWrap}
use Rattle.cell_base.specs.Row.{Row}
use Rattle.cell_edits.specs.VisibleCells.{VisibleCell, visible_cells, ends_wrapped}

-- the test gives each answer that the closure may give for a text
abbrev pub Answers : {F : Type 0} → Shared F (Bor (List ℕ) × Unit {0}) Bool → F → (List ℕ → Bool) → Type 0
Answers g f test = (text : List ℕ) (answer : Bool) → IsUtf8 text → FnReturnsAt g f text answer → answer ≡ test text

-- the word cells at the start of a list of cells
abbrev pub prefix_words : (List ℕ → Bool) → List VisibleCell → List VisibleCell
prefix_words is_word cells = take_while (λ v. is_word v.cell.text) cells

-- one past the first column of the last cell in the run of word cells that begins with the first cell at or after
-- column `at`; `at` where there is no such run
abbrev pub word_end : (List ℕ → Bool) → ℕ → List VisibleCell → ℕ
word_end is_word at cells =
    fold (λ _ v. v.column + 1) at (prefix_words is_word (filter (λ v. nat_le at v.column) cells))

-- the first column of the run of word cells that ends with the last cell at or before column `at`; `at` where there is
-- no such run
abbrev pub word_start : (List ℕ → Bool) → ℕ → List VisibleCell → ℕ
word_start is_word at cells =
    fold (λ _ v. v.column) at (prefix_words is_word (reverse (filter (λ v. nat_le v.column at) cells)))

-- whether a range isn't empty and reaches the end of a row after which the line goes on
abbrev pub goes_on : Row → ℕ → ℕ → Bool
goes_on row start end = nat_lt start end && nat_le (length row) end && ends_wrapped (visible_cells row)

abbrev pub columns_between : ℕ → ℕ → Range ℕ
columns_between start end = record { start = start; «end» = end }

abbrev pub word_range : Row → ℕ → ℕ → DoubleClickRange
word_range row start end =
    if goes_on row start end then RangeWithWrap (columns_between start end) else WithoutWrap (columns_between start end)

-- an empty range at and past the end of the row
abbrev pub double_click_range : (List ℕ → Bool) → ℕ → Row → DoubleClickRange
double_click_range is_word at row =
    if nat_le (length row) at then WithoutWrap (columns_between at at)
    else word_range row (word_start is_word at (visible_cells row)) (word_end is_word at (visible_cells row))
