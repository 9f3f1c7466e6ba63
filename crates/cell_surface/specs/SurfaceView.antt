-- What a `Surface` holds.
use Rattle.cell_surface.specs.Surface.{Surface}
use Rattle.cell_surface.specs.declared.surface.Surface.TheInside.{Inside}

abbrev pub surface_of : {W : Type 0} → Inside W → Surface W
surface_of a = record { grid = a.grid; log = a.log; is_failed = a.is_failed }
