-- A line as a value: its number, its bits, its columns, and how these are kept.
use Rattle.std.specs.Prelude.{◌≡◌, ℕ, Bool, true, false, max, [], ◌∷◌}
use Rattle.cell_base.specs.declared.attributes.LineAttribute.{LineAttribute}
use Rattle.cell_base.specs.declared.attributes.LineAttribute.TheVariants.{SingleWidthLine, DoubleWidthLine}
use Rattle.cell_base.specs.declared.attributes.LineAttribute.TheVariants.{DoubleHeightTopHalfLine}
use Rattle.cell_base.specs.declared.attributes.LineAttribute.TheVariants.{DoubleHeightBottomHalfLine}
use Rattle.cell_base.specs.Row.{Row}

-- the number of its last change, its bits (a line of single width has none), its columns, and whether it is clustered:
-- kept as one text and runs of equal attributes, and not as cells. `IsKept` defines this for the borrow that `stored`
-- returns
pub record LineContent : Type 0 where
  pub number : ℕ
  pub bits : LineAttribute
  pub columns : Row
  pub clustered : Bool

-- a line of cells with no bits
abbrev pub line_of : ℕ → Row → LineContent
line_of number columns = record { number = number; bits = SingleWidthLine; columns = columns; clustered = false }

-- a clustered line with no bits
abbrev pub clustered_line_of : ℕ → Row → LineContent
clustered_line_of number columns =
    record { number = number; bits = SingleWidthLine; columns = columns; clustered = true }

-- a line is clustered: its columns are kept as one text, the sizes of its cells, runs of equal attributes and the
-- blanks after these, as `stored` tells
abbrev pub IsClustered : LineContent → Type 0
IsClustered line = line.clustered ≡ true

-- two lines show the same, however they are kept
pub record SameShown (one other : LineContent) : Type 0 where
  pub number : one.number ≡ other.number
  pub bits : one.bits ≡ other.bits
  pub columns : one.columns ≡ other.columns

-- the line with these columns, and with the number of a change if that is the later one
abbrev pub changed : LineContent → ℕ → Row → LineContent
changed line number columns = record line { number = max line.number number; columns = columns }

-- as `changed`, except that the line stays as it was where no column would be left
abbrev pub changed_unless_empty : LineContent → ℕ → Row → LineContent
changed_unless_empty line number [] = line
changed_unless_empty line number (column ∷ row) = changed line number (column ∷ row)

-- what a refused call leaves: the same number and bits; the columns, and how they are kept, are unspecified
pub record IsRefused (before after : LineContent) : Type 0 where
  pub number : after.number ≡ before.number
  pub bits : after.bits ≡ before.bits

-- whether two line attributes are the same
abbrev pub same_bits : LineAttribute → LineAttribute → Bool
same_bits SingleWidthLine SingleWidthLine = true
same_bits DoubleWidthLine DoubleWidthLine = true
same_bits DoubleHeightTopHalfLine DoubleHeightTopHalfLine = true
same_bits DoubleHeightBottomHalfLine DoubleHeightBottomHalfLine = true
same_bits _ _ = false

-- the line with these bits, and with the number of a change if that is the later one
abbrev pub with_bits : LineContent → ℕ → LineAttribute → LineContent
with_bits line number bits = record line { number = max line.number number; bits = bits }
