-- The visible cells of a row, and queries on them.
use Rattle.std.specs.Prelude.{ℕ, ◌+◌, Bool, false, ◌&&◌, ◌==◌, nat_lt, nat_le, List, [], ◌∷◌, Option, Some, None, find}
use Rattle.std.specs.Prelude.{filter, fold, map, is_some}
use Rattle.std.specs.List.{flat_map, list_any, list_all}
use Rattle.std.specs.Str.{bytes_eq}
use Rattle.cell_base.specs.Attributes.{Attributes}
use Rattle.cell_base.specs.CellContent.{CellContent}
use Rattle.cell_base.specs.Row.{Narrow, LeftHalf, RightHalf, Row, space}
use Rattle.cell_edits.specs.CellList.{cell_columns}

-- a cell with its first column
pub record VisibleCell : Type 0 where
  pub column : ℕ
  pub cell : CellContent

abbrev pub visible_at : ℕ → List ℕ → ℕ → Attributes → VisibleCell
visible_at column text width attributes =
    record { column = column; cell = record { text = text; width = width; attributes = attributes } }

-- the visible cells of a row whose first column has the number `at`, in order
abbrev pub visible_from : ℕ → Row → List VisibleCell
visible_from at [] = []
visible_from at (Narrow text attributes ∷ row) = visible_at at text 1 attributes ∷ visible_from (at + 1) row
visible_from at (LeftHalf text attributes ∷ row) = visible_at at text 2 attributes ∷ visible_from (at + 1) row
visible_from at (RightHalf attributes ∷ row) = visible_from (at + 1) row

-- a cell for each byte of a text, side by side from a column on, all with the same attributes
abbrev pub visible_each : ℕ → List ℕ → Attributes → List VisibleCell
visible_each at [] attributes = []
visible_each at (byte ∷ text) attributes =
    visible_at at (byte ∷ []) 1 attributes ∷ visible_each (at + 1) text attributes

abbrev pub visible_cells : Row → List VisibleCell
visible_cells row = visible_from 0 row

-- the first cell, if there is one
abbrev pub first_of : List VisibleCell → Option VisibleCell
first_of [] = None
first_of (v ∷ cells) = Some v

-- the columns of cells, side by side
abbrev pub row_of_visible : List VisibleCell → Row
row_of_visible cells = flat_map (λ v. cell_columns v.cell) cells

-- whether the text is one space
abbrev pub is_space : VisibleCell → Bool
is_space v = bytes_eq v.cell.text space

abbrev pub is_whitespace_row : Row → Bool
is_whitespace_row row = list_all is_space (visible_cells row)

-- whether a cell has a link
abbrev pub has_link : Row → Bool
has_link row = list_any (λ v. is_some v.cell.attributes.hyperlink) (visible_cells row)

-- the cell that begins at a column
abbrev pub cell_at : ℕ → Row → Option VisibleCell
cell_at column row = find (λ v. v.column == column) (visible_cells row)

-- the cells that begin in a range of columns
abbrev pub cells_between : ℕ → ℕ → Row → List VisibleCell
cells_between start end row = filter (λ v. nat_le start v.column && nat_lt v.column end) (visible_cells row)

-- the contents of cells, without their columns
abbrev pub contents : List VisibleCell → List CellContent
contents cells = map (λ v. v.cell) cells

-- the first cell's column, and the last one's; 0 where there is none
abbrev pub first_column : List VisibleCell → ℕ
first_column [] = 0
first_column (v ∷ cells) = v.column

abbrev pub last_column : List VisibleCell → ℕ
last_column cells = fold (λ _ v. v.column) 0 cells

abbrev pub texts_joined : List VisibleCell → List ℕ
texts_joined cells = flat_map (λ v. v.cell.text) cells

-- whether the line goes on after the last cell; `false` where there is none
abbrev pub ends_wrapped : List VisibleCell → Bool
ends_wrapped cells = fold (λ _ v. v.cell.attributes.wrapped) false cells

-- sets whether the line goes on after the cell
abbrev pub mark_cell : Bool → CellContent → CellContent
mark_cell wrapped cell = record cell { attributes = record cell.attributes { wrapped = wrapped } }

abbrev pub mark_wrapped : Bool → VisibleCell → VisibleCell
mark_wrapped wrapped v = record v { cell = mark_cell wrapped v.cell }

-- sets whether the line goes on after the last cell
abbrev pub with_end_wrapped : Bool → List VisibleCell → List VisibleCell
with_end_wrapped wrapped [] = []
with_end_wrapped wrapped (v ∷ []) = mark_wrapped wrapped v ∷ []
with_end_wrapped wrapped (v ∷ w ∷ cells) = v ∷ with_end_wrapped wrapped (w ∷ cells)

abbrev pub row_end_wrapped : Bool → Row → Row
row_end_wrapped wrapped row = row_of_visible (with_end_wrapped wrapped (visible_cells row))
