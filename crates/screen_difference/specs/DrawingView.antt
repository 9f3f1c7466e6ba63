-- What a `DifferenceWriter` holds.
use Rattle.screen_difference.specs.Drawing.{Drawing}
use Rattle.screen_difference.specs.declared.difference_writer.DifferenceWriter.TheInside.{Inside}

abbrev pub drawing_of : Inside → Drawing
drawing_of a = record { written = a.writer; has_begun = a.has_begun; row = a.row; column = a.column }
