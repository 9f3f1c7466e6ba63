use Rattle.std.proofs.Common.{refl}
use Rattle.cell_surface.specs.Surface.{shown_by}
use Rattle.xterm_table.specs.RowEdits.{with_row}
use Rattle.xterm_steps.proofs.row_edits.replace_row.Goals as goal

pub returns : goal.returns
returns g c = c.show.ensures (with_row c.args.line.now.columns (shown_by c.args.surface.now).screen) c.in_ok-changes.ensures.changes c.requires.follows refl
