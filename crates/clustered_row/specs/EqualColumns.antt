-- Columns outside of which rows are the same.
use Rattle.std.specs.Prelude.{◌≡◌, ℕ, ◌≤◌, take, drop}
use Rattle.cell_base.specs.Row.{Row}
use Rattle.cell_edits.specs.RowEdits.{cut, cut_prefix}

-- no cell is cut at a column
pub record IsWholeAt (at : ℕ) (row : Row) : Type 0 where
  pub ending : cut at row ≡ take at row
  pub beginning : cut_prefix at row ≡ drop at row

-- two rows show the same before a column and from another one on, and no cell is cut at either of these columns
pub record AreEqualAround (start stop : ℕ) (row other : Row) : Type 0 where
  pub order : start ≤ stop
  pub prefix : take start row ≡ take start other
  pub suffix : drop stop row ≡ drop stop other
  pub first : IsWholeAt start row
  pub other_first : IsWholeAt start other
  pub last : IsWholeAt stop row
  pub other_last : IsWholeAt stop other
