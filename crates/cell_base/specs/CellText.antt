-- The bytes of a cell's text, its columns, and the cell with it.
use Rattle.std.specs.Prelude.{ℕ, Bool, List, take, if◌then◌else◌}
use Rattle.std.specs.String.{string_bytes}
use Rattle.cell_base.specs.Attributes.{Attributes}
use Rattle.cell_base.specs.CellContent.{CellContent}
use Rattle.cell_base.specs.declared.cell_text.CellText.{CellText}
use Rattle.cell_base.specs.declared.cell_text.CellText.TheVariants.{Inline, Long}

abbrev pub text_bytes : CellText → List ℕ
text_bytes (Inline text) = take text.len text.bytes
text_bytes (Long text) = string_bytes text.text.value

abbrev pub takes_two : CellText → Bool
takes_two (Inline text) = text.is_wide
takes_two (Long text) = text.is_wide

abbrev pub columns_of : CellText → ℕ
columns_of text = if takes_two text then 2 else 1

abbrev pub cell_with : CellText → Attributes → CellContent
cell_with text attributes = record { text = text_bytes text; width = columns_of text; attributes = attributes }
