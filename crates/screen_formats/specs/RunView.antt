-- What a `Run` holds.
use Rattle.std.specs.String.{string_bytes}
use Rattle.screen_formats.specs.Runs.{Run}
use Rattle.screen_formats.specs.declared.runs.Run.TheInside.{Inside}

abbrev pub content_of : Inside → Run
content_of a =
    record {
      attributes = a.attrs.now;
      width = a.width;
      column = a.column;
      columns = a.columns;
      text = string_bytes a.text;
    }
