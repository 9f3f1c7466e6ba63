-- What a `CellWriter` holds.
use Rattle.std.specs.Prelude.{map}
use Rattle.screen_change.specs.CutView.{cells_of}
use Rattle.screen_change.specs.Written.{Written}
use Rattle.screen_change.specs.ValueOf.{value_of}
use Rattle.screen_change.specs.declared.cell_writer.CellWriter.TheInside.{Inside}

-- the changes by value, and the texts of the cells as their joined text is cut
abbrev pub written_of : Inside → Written
written_of w = record { changes = map value_of w.changes.items; pen = w.pen.now; cells = cells_of w.cells }
