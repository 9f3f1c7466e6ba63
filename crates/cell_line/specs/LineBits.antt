-- The bits of a line.
use Rattle.std.specs.Prelude.{ℕ, ◌==◌, List, [], ◌∷◌, codes, if◌then◌else◌}
use Rattle.cell_base.specs.declared.attributes.LineAttribute.{LineAttribute}
use Rattle.cell_base.specs.declared.attributes.LineAttribute.TheVariants.{SingleWidthLine, DoubleWidthLine}
use Rattle.cell_base.specs.declared.attributes.LineAttribute.TheVariants.{DoubleHeightTopHalfLine}
use Rattle.cell_base.specs.declared.attributes.LineAttribute.TheVariants.{DoubleHeightBottomHalfLine}
use Rattle.cell_line.specs.declared.line_bits.BitSet.{BitSet}

-- the bits and their names: double width, and the halves of double height
abbrev pub flag_table : List (List ℕ × ℕ)
flag_table = (codes "DOUBLE_WIDTH", 1) ∷ (codes "DOUBLE_HEIGHT_TOP", 2) ∷ (codes "DOUBLE_HEIGHT_BOTTOM", 4) ∷ []

abbrev pub bits_of : BitSet → ℕ
bits_of set = set.0

-- none at normal size; double height is double width too
abbrev pub bits_for : LineAttribute → ℕ
bits_for SingleWidthLine = 0
bits_for DoubleWidthLine = 1
bits_for DoubleHeightTopHalfLine = 3
bits_for DoubleHeightBottomHalfLine = 5

-- the line attribute that has these bits
abbrev pub shown_by : ℕ → LineAttribute
shown_by bits =
    if bits == 0 then SingleWidthLine
    else if bits == 1 then DoubleWidthLine
    else if bits == 3 then DoubleHeightTopHalfLine
    else DoubleHeightBottomHalfLine
