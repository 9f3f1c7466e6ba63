-- each computes
use Rattle.std.proofs.Common.{refl}
use Rattle.unicode_segmentation.proofs.Computing.{unicode_segmentation}
use Rattle.unicode_width.proofs.Computing.{unicode_width}
use Rattle.std.specs.Str.{chars}
use Rattle.cell_base.specs.Cluster.{program_width}
use Rattle.screen_effects.proofs.examples.wide_cells.Goals as goal

pub returns-clause-text : goal.returns-clause-text
unfolding unicode_segmentation unicode_width program_width chars
returns-clause-text c = refl

pub returns-clause-overwritten : goal.returns-clause-overwritten
unfolding unicode_segmentation unicode_width program_width chars
returns-clause-overwritten c = refl

pub returns-clause-halves : goal.returns-clause-halves
unfolding unicode_segmentation unicode_width program_width chars
returns-clause-halves c = refl

pub returns-clause-next_row : goal.returns-clause-next_row
unfolding unicode_segmentation unicode_width program_width chars
returns-clause-next_row c = refl

pub returns-clause-one_column : goal.returns-clause-one_column
unfolding unicode_segmentation unicode_width program_width chars
returns-clause-one_column c = refl

pub returns-clause-no_columns : goal.returns-clause-no_columns
unfolding unicode_segmentation unicode_width program_width chars
returns-clause-no_columns c = refl

pub returns-clause-cleared : goal.returns-clause-cleared
unfolding unicode_segmentation unicode_width program_width chars
returns-clause-cleared c = refl
