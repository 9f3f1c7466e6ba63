-- What a `RowEnd` holds.
use Rattle.std.specs.Option.{option_map}
use Rattle.screen_repaint.specs.Ends.{End}
use Rattle.screen_repaint.specs.declared.ends.RowEnd.TheInside.{Inside}

abbrev pub end_shown : Inside → End
end_shown e = record { cells = e.cells; kept = e.kept; blanks = option_map (λ a. a.now) e.blanks }
