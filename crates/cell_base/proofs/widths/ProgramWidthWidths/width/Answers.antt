use Rattle.std.proofs.Common.{◌∙◌, ℕ, false, List, ap, sym}
use Rattle.std.specs.Prelude.{min}
use Rattle.unicode_width.specs.Width.{str_width}
use Rattle.cell_base.specs.Cluster.{program_width}
use Rattle.cell_base.proofs.widths.ProgramWidthWidths.width.Goals as goal

pub returns-in-Some : goal.returns-in-Some
unfolding program_width
returns-in-Some c = c.character_columns.ensures ∙ ap (λ (cs : List ℕ). min (str_width false cs) 2) (sym c.in-Some.ensures.0)
