-- What a `ChangeSequence` holds.
use Rattle.std.specs.Prelude.{◌≤◌, ◌<◌, map}
use Rattle.screen_change.specs.ValueOf.{value_of}
use Rattle.change_sequence.specs.Sequence.{Sequence}
use Rattle.change_sequence.specs.declared.sequence.ChangeSequence.TheInside.{Inside}

abbrev pub sequence_of : {W : Type 0} → Inside W → Sequence W
sequence_of a =
    record {
      widths = a.widths;
      columns = a.columns;
      rows = a.rows;
      position = record { column = a.column; row = a.row };
      lowest = a.lowest;
      highest = a.highest;
      changes = map value_of a.changes.items;
    }

-- there are columns and rows, and the column is one of them, or the one after the last
pub record IsWithin {W : Type 0} (a : Inside W) : Type 0 where
  pub some_columns : 0 < a.columns
  pub some_rows : 0 < a.rows
  pub within : a.column ≤ a.columns
