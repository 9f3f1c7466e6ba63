-- Positions between cells.
use Rattle.std.specs.Prelude.{◌≡◌, ℕ, ◌+◌, ◌<◌, ◌≤◌, true, List, length, take, slice_index_or}
use Rattle.clustered_row.specs.declared.cell_size.CellSize.{CellSize}
use Rattle.clustered_row.specs.declared.position.Position.{Position}
use Rattle.clustered_row.specs.Sizes.{bytes_of, columns_of}

-- after `index` cells, which have `bytes` bytes and `columns` columns
pub record IsPosition (sizes : List CellSize) (position : Position) : Type 0 where
  pub within : position.index ≤ length sizes
  pub bytes : position.bytes ≡ bytes_of (take position.index sizes)
  pub columns : position.columns ≡ columns_of (take position.index sizes)

-- column `at` is the second one of the wide cell that begins at `position`
pub record IsSplit (sizes : List CellSize) (position : Position) (at : ℕ) (default : CellSize) : Type 0 where
  pub within : position.index < length sizes
  pub wide : (slice_index_or sizes position.index default).is_wide ≡ true
  pub column : at ≡ position.columns + 1

-- each position after at most `count` cells of the first list is also one of the second list
abbrev pub KeepsPositions : ℕ → List CellSize → List CellSize → Type 0
KeepsPositions count sizes changed = (position : Position) → position.index ≤ count → IsPosition sizes position
    → IsPosition changed position

-- the cell at a position is a plain one: one byte and one column further is the next position
abbrev pub HasPlainCell : List CellSize → Position → Type 0
HasPlainCell sizes position = (next : Position) → next.index ≡ position.index + 1 → next.bytes ≡ position.bytes + 1
    → next.columns ≡ position.columns + 1 → IsPosition sizes next

-- before a cell of a text: after `index` cells whose sizes are kept, or among the plain ones after all of these
pub record IsBefore (text : List ℕ) (sizes : List CellSize) (position : Position) : Type 0 where
  pub index : position.index ≤ length sizes
  pub sized : position.index < length sizes → position.bytes ≡ bytes_of (take position.index sizes)
  pub bytes : bytes_of (take position.index sizes) ≤ position.bytes
  pub within : position.bytes ≤ length text
  pub columns : position.columns + bytes_of (take position.index sizes)
      ≡ columns_of (take position.index sizes) + position.bytes
