-- What a `SavedCursor` holds.
use Rattle.terminal_table.specs.Modes.{SavedCursor}
use Rattle.terminal_steps.specs.declared.saved.SavedCursor.TheInside.{Inside}

abbrev pub saved_of : Inside → SavedCursor
saved_of s = record { column = s.column; row = s.row; pen = s.pen }
