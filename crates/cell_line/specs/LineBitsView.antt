-- What a `LineBits` shows, and what it keeps.
use Rattle.std.specs.Prelude.{◌≡◌}
use Rattle.cell_base.specs.declared.attributes.LineAttribute.{LineAttribute}
use Rattle.cell_line.specs.LineBits.{bits_of, bits_for, shown_by}
use Rattle.cell_line.specs.declared.line_bits.LineBits.TheInside.{Inside}

abbrev pub attribute_of : Inside → LineAttribute
attribute_of a = shown_by (bits_of a.set)

-- the bits are those of a line attribute
abbrev pub IsLawful : Inside → Type 0
IsLawful a = bits_for (attribute_of a) ≡ bits_of a.set
