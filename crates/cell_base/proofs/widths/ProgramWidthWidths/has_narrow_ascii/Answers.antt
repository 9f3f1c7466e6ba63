use Rattle.cell_base.proofs.NarrowAscii.{narrow_ascii}
use Rattle.cell_base.proofs.widths.ProgramWidthWidths.has_narrow_ascii.Goals as goal

pub returns-clause-narrow : goal.returns-clause-narrow
returns-clause-narrow c = narrow_ascii
