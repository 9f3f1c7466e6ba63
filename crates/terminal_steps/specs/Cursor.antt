-- The changes of a cursor position, of a pen and of an erasure to the end of a row.
use Rattle.cell_base.specs.declared.attributes.Position.TheVariants.{Absolute}
use Rattle.screen_change.specs.ChangeValue.{AllAttributes, ChangeValue, ClearToEndOfLine, CursorPosition}
use Rattle.terminal_steps.specs.declared.cursor.LineEnd.{LineEnd}
use Rattle.terminal_steps.specs.declared.cursor.Pen.{Pen}
use Rattle.terminal_steps.specs.declared.cursor.CellPosition.{CellPosition}

abbrev pub position_change : CellPosition → ChangeValue
position_change destination = CursorPosition (Absolute destination.column) (Absolute destination.row)

abbrev pub pen_change : Pen → ChangeValue
pen_change pen = AllAttributes pen.attributes

abbrev pub line_end_change : LineEnd → ChangeValue
line_end_change end = ClearToEndOfLine end.background
