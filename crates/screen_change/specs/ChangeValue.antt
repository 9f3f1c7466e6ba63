-- Changes as values: texts as bytes, attributes and links as their values.
use Rattle.std.specs.Prelude.{ℕ, Bool, true, false, List}
use Rattle.cell_base.specs.declared.attributes.CursorShape.{CursorShape as Shape}
use Rattle.cell_base.specs.declared.attributes.CursorVisibility.{CursorVisibility as Visibility}
use Rattle.cell_base.specs.declared.attributes.LineAttribute.{LineAttribute as LineKind}
use Rattle.cell_base.specs.declared.attributes.Position.{Position}
use Rattle.cell_base.specs.declared.color.ColorAttribute.{ColorAttribute}
use Rattle.cell_base.specs.AttributeValue.{AttributeValue}
use Rattle.cell_base.specs.Attributes.{Attributes}

-- a change of a screen: each variant holds the argument of the variant of `Change` that has its name; a scroll holds
-- the first row of the region, its number of rows, and by how many rows they move
pub data ChangeValue : Type 0 where
  Attribute : AttributeValue → ChangeValue
  AllAttributes : Attributes → ChangeValue
  Text : List ℕ → ChangeValue
  ClearScreen : ColorAttribute → ChangeValue
  ClearToEndOfLine : ColorAttribute → ChangeValue
  ClearToEndOfScreen : ColorAttribute → ChangeValue
  CursorPosition : Position → Position → ChangeValue
  CursorColor : ColorAttribute → ChangeValue
  CursorShape : Shape → ChangeValue
  CursorVisibility : Visibility → ChangeValue
  LineAttribute : LineKind → ChangeValue
  ScrollRegionUp : ℕ → ℕ → ℕ → ChangeValue
  ScrollRegionDown : ℕ → ℕ → ℕ → ChangeValue
  Title : List ℕ → ChangeValue

-- whether it is a text
abbrev pub is_text : ChangeValue → Bool
is_text (Text text) = true
is_text _ = false
