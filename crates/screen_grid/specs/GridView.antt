-- What a `Grid` holds.
use Rattle.std.specs.String.{string_bytes}
use Rattle.screen_grid.specs.Grid.{Grid}
use Rattle.screen_grid.specs.declared.grid.Grid.TheInside.{Inside}
use Rattle.screen_effects.specs.Effect.{is_visible}

abbrev pub grid_of : {W : Type 0} → Inside W → Grid W
grid_of a =
    record {
      widths = a.widths;
      width = a.width;
      lines = a.rows;
      column = a.column;
      row = a.row;
      visible = is_visible a.visibility;
      shape = a.shape;
      pen = a.pen;
      title = string_bytes a.title;
    }
